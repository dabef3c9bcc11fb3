-- At each turn what is left to skip has the result of the whole (`Repeating`); where no item stands, the run ends.
use Prim.Native.Nat.{◌-◌}
use lib.ListN.{length}
use Rattle.combinators.proofs.Repeating.{Repeating}
use Rattle.lexer.specs.Whitespace.{whitespace_item}
use Rattle.lexer.proofs.whitespace.skip_optional_whitespace.Given as goal

abbrev pub invariant-loop-n : goal.invariant-loop-n
invariant-loop-n l = Repeating whitespace_item l.s l.i

abbrev pub decreases-loop-n : goal.decreases-loop-n
decreases-loop-n l = length l.s - l.i
