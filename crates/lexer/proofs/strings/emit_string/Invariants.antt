-- What is left to read and to write has the result of the whole at each turn (`Writing`); where no character of the string stands, it ends.
use Prim.Native.Nat.{◌-◌}
use lib.ListN.{length}
use Rattle.lexer.specs.Quoted.{quoted_taken, quoted_text}
use Rattle.combinators.specs.Writer.{written, SameStore}
use Rattle.lexer.proofs.Writing as writing
use Rattle.lexer.proofs.strings.emit_string.Given as goal

abbrev pub invariant-loop-r : goal.invariant-loop-r
invariant-loop-r l = record { same : SameStore l.initial.writer l.writer; work : writing.Writing (quoted_taken l.quote) (quoted_text l.quote) l.s (written l.initial.writer) (written l.writer) l.i l.n }

abbrev pub decreases-loop-r : goal.decreases-loop-r
decreases-loop-r l = length l.s - l.i
