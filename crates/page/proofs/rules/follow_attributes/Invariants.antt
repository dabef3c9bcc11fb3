-- What is left from the attribute on follows exactly if the whole does, and ends where the whole does.
use Prim.Native.Nat.{◌-◌}
use Rattle.page.proofs.RowLaws as laws
use Rattle.page.proofs.rules.follow_attributes.Given as goal

abbrev pub invariant-loop-at : goal.invariant-loop-at
invariant-loop-at l = laws.Following l.attributes l.first l.count l.start l.at (l.at-end - l.at) l.end
