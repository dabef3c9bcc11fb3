-- The components that are left are written from the last on, which is the order of the bytes.
use Rattle.combinators.specs.Writer.{written, SameStore}
use Rattle.compiler.proofs.SelectorWriting as laws
use Rattle.compiler.proofs.selector.emit_components.Given as goal

abbrev pub invariant-loop-before : goal.invariant-loop-before
invariant-loop-before l = record { kept : SameStore l.initial.writer l.writer; work : laws.Returning l.rows.numbers.now l.at l.count l.rows.texts.now (written l.initial.writer) l.before (written l.writer) }
