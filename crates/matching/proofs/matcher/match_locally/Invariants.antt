-- With n components left, their result on the row that is reached is that of all on the row.
use Rattle.matching.proofs.ClimbLaws as laws
use Rattle.matching.proofs.matcher.match_locally.Given as goal

abbrev pub invariant-loop-n : goal.invariant-loop-n
invariant-loop-n l = laws.Handed l.selector.store.now l.selector.components.now l.element.page.nodes.now l.element.page.attributes.now l.element.page.text.now l.selector.left l.element.row l.n l.row
