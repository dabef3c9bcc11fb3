-- What is left to write from the place on is the rest of the whole; once the fill is past the store nothing more changes.
use Prim.Native.Nat.{◌-◌}
use Rattle.combinators.specs.Writer.{written, SameStore}
use Rattle.compiler.proofs.RuleWriting as laws
use Rattle.compiler.proofs.rules.emit_rules.Given as goal

abbrev pub invariant-loop : goal.invariant-loop
invariant-loop l = record { kept : SameStore l.initial.writer l.writer; work : laws.Writing l.rows.numbers.now l.count l.at l.origin l.initial.tokens l.rows.texts.now (written l.initial.writer) (l.count - l.counter) l.place l.tokens (written l.writer) }
