-- What is found from a row of the path on is what is found from the first row on, and the number that decides is right for each.
use Rattle.matching.proofs.BelowLaws as laws
use Rattle.matching.proofs.topmost.topmost_ancestor.Given as goal

abbrev pub invariant-loop-row : goal.invariant-loop-row
invariant-loop-row l = laws.Seeking l.selector.store.now l.selector.components.now l.element.page.nodes.now l.element.page.attributes.now l.element.page.text.now l.selector.left l.top l.element.row (laws.found_by l.element.row l.found) l.row

abbrev pub decreases-loop-row : goal.decreases-loop-row
decreases-loop-row l = l.row
