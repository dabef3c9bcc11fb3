-- What is left to write is a number of fewer groups, until one group is left.
use Rattle.combinators.specs.Writer.{written, SameStore}
use Rattle.compiled.proofs.NumberWriting as laws
use Rattle.compiled.proofs.numbers.emit_number.Given as goal

abbrev pub invariant-loop-left : goal.invariant-loop-left
invariant-loop-left l = record { same : SameStore l.initial.writer l.writer; work : laws.Writing l.v (written l.initial.writer) (written l.writer) l.left }

abbrev pub decreases-loop-left : goal.decreases-loop-left
decreases-loop-left l = l.left
