-- Ancestors of another name fail locally, so the first of the name is tried next; on the others nothing more is to come.
use Rattle.matching.proofs.ClimbLaws as laws
use Rattle.matching.proofs.matcher.named_ancestor.Given as goal

abbrev pub invariant-loop-row : goal.invariant-loop-row
invariant-loop-row l = laws.Searching l.selector.store.now l.selector.components.now l.element.page.nodes.now l.element.page.text.now l.selector.left l.element.row l.row

abbrev pub decreases-loop-row : goal.decreases-loop-row
decreases-loop-row l = l.row
