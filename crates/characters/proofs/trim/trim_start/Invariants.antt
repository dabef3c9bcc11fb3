-- The characters so far are White_Space; what is counted is what the definition repeats.
use Prim.Native.Nat.{◌-◌}
use lib.ListN.{length}
use Rattle.combinators.proofs.Repeating.{Repeating}
use Rattle.characters.specs.Trim.{white_taken}
use Rattle.characters.proofs.trim.trim_start.Given as goal

abbrev pub invariant-loop-c : goal.invariant-loop-c
invariant-loop-c l = Repeating white_taken l.s l.i

abbrev pub decreases-loop-c : goal.decreases-loop-c
decreases-loop-c l = length l.s - l.i
