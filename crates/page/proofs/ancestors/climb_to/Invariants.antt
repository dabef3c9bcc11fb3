-- The climb from here arrives where it would from the start, and the depth that is left is that of the row.
use Rattle.page.proofs.Ancestry as laws
use Rattle.page.proofs.ancestors.climb_to.Given as goal

abbrev pub invariant-loop-row : goal.invariant-loop-row
invariant-loop-row l = laws.Climbing l.nodes l.from l.row l.target l.left

abbrev pub decreases-loop-row : goal.decreases-loop-row
decreases-loop-row l = l.row
