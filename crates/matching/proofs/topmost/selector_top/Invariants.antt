-- The number is that of the components so far; a descendant combinator changes it, and the one before decides what stands before that.
use Rattle.matching.proofs.BelowLaws as laws
use Rattle.matching.proofs.topmost.selector_top.Given as goal

abbrev pub invariant-loop-left : goal.invariant-loop-left
invariant-loop-left l = laws.Topping l.selector.store.now l.selector.components.now l.element.page.nodes.now l.element.page.attributes.now l.element.page.text.now l.selector.left l.element.row l.top l.left
