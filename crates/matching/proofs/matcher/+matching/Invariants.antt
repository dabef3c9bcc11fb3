-- The tests and child combinators lead to the result, or to a descendant combinator; then the ancestors that are tried have the result of all on the row.
use Prim.Native.Nat.{◌+◌}
use Rattle.matching.proofs.ClimbLaws as laws
use Rattle.matching.proofs.matcher.+matching.Given as goal

abbrev pub decreases-match_recursively : goal.decreases-match_recursively
decreases-match_recursively l = l.selector.now.left + l.element.now.row

abbrev pub decreases-match_on_ancestors : goal.decreases-match_on_ancestors
decreases-match_on_ancestors l = l.left + l.row

abbrev pub invariant-match_on_ancestors-loop-row : goal.invariant-match_on_ancestors-loop-row
invariant-match_on_ancestors-loop-row l = laws.Trying l.selector.store.now l.selector.components.now l.element.page.nodes.now l.element.page.attributes.now l.element.page.text.now l.left l.row l.at

abbrev pub decreases-match_on_ancestors-loop-row : goal.decreases-match_on_ancestors-loop-row
decreases-match_on_ancestors-loop-row l = l.at
