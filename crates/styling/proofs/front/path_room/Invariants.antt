-- The total so far and what the rows from here up ask for are what all rows ask for.
use Rattle.styling.proofs.FrontLaws as laws
use Rattle.styling.proofs.front.path_room.Given as goal

abbrev pub invariant-loop-above : goal.invariant-loop-above
invariant-loop-above l = laws.Climbing l.nodes l.attributes l.row l.total l.above

abbrev pub decreases-loop-above : goal.decreases-loop-above
decreases-loop-above l = l.above
