-- What is written, with the numbers that are left, is all of them.
use Rattle.compiled.proofs.Written as laws
use Rattle.compiled.proofs.numbers.emit_numbers.Given as goal

abbrev pub invariant-loop-number : goal.invariant-loop-number
invariant-loop-number l = laws.Numbering l.numbers l.initial.writer l.writer l.number-index
