-- The scalar values so far are passed; the text is well formed exactly if the rest is.
use Prim.Native.Nat.{◌-◌}
use lib.ListN.{length}
use Rattle.combinators.proofs.Repeating.{Repeating}
use Rattle.characters.specs.Utf8.{scalar_taken}
use Rattle.characters.proofs.utf8.is_valid.Given as goal

abbrev pub invariant-loop-i : goal.invariant-loop-i
invariant-loop-i l = Repeating scalar_taken l.s l.i

abbrev pub decreases-loop-i : goal.decreases-loop-i
decreases-loop-i l = length l.s - l.i
