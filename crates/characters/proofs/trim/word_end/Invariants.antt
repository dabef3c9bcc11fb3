-- The characters so far are no White_Space; what is counted is what the definition repeats.
use Prim.Native.Nat.{◌-◌}
use lib.ListN.{length}
use Rattle.combinators.proofs.Repeating.{Repeating}
use Rattle.characters.specs.Trim.{word_taken}
use Rattle.characters.proofs.trim.word_end.Given as goal

abbrev pub invariant-loop-i : goal.invariant-loop-i
invariant-loop-i l = Repeating word_taken l.s l.i

abbrev pub decreases-loop-i : goal.decreases-loop-i
decreases-loop-i l = length l.s - l.i
