-- The total so far and what is left to add give what all attribute rows give; over the limit it stays.
use Prim.Native.Nat.{◌+◌, ◌-◌}
use Rattle.styling.proofs.FrontLaws as laws
use Rattle.styling.proofs.front.attributes_room.Given as goal

abbrev pub invariant-loop-row : goal.invariant-loop-row
invariant-loop-row l = laws.Adding l.attributes l.first l.count l.start l.total l.row (l.first + l.count - l.row)
