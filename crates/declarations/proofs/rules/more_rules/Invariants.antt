-- What is left to read from the byte on, into the stores as they are, leaves what the whole leaves; each turn takes a declaration behind a semicolon or ends.
use Prim.Native.Nat.{◌-◌}
use lib.ListN.{length}
use Rattle.declarations.proofs.RuleTurns as laws
use Rattle.declarations.proofs.rules.more_rules.Given as goal

abbrev pub invariant-loop-w : goal.invariant-loop-w
invariant-loop-w l = laws.Going l.names l.at l.s l.from l.initial.stores l.place l.fill l.stores l.taken l.count l.text

abbrev pub decreases-loop-w : goal.decreases-loop-w
decreases-loop-w l = length l.s - l.taken
