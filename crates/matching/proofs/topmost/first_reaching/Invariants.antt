-- The first row from which a descendant combinator is reached is the first from the row that is asked on.
use Rattle.matching.proofs.NumberLaws as laws
use Rattle.matching.specs.Lent.{components_in}
use Rattle.matching.proofs.topmost.first_reaching.Given as goal

abbrev pub invariant-loop-row : goal.invariant-loop-row
invariant-loop-row l = laws.Reaching l.element.page.nodes.now l.element.page.attributes.now l.element.page.text.now (components_in l.selector) l.element.row l.row

abbrev pub decreases-loop-row : goal.decreases-loop-row
decreases-loop-row l = l.row
