-- At each turn what is left to read and to write has the result of the whole (`Chars`); the text is at most two bytes longer than `s`, so its length fits.
use Prim.Native.Nat.{◌-◌}
use lib.ListN.{length}
use Rattle.combinators.specs.Writer.{written, SameStore}
use Rattle.lexer.proofs.CharacterRuns as laws
use Rattle.lexer.proofs.names.emit_nmchars.Given as goal

abbrev pub invariant-loop-c : goal.invariant-loop-c
invariant-loop-c l = record { same : SameStore l.initial.writer l.writer; work : laws.Chars l.s (written l.initial.writer) (written l.writer) l.i l.n }

abbrev pub decreases-loop-c : goal.decreases-loop-c
decreases-loop-c l = length l.s - l.i
