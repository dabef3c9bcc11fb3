-- What is left to write from the place on is the rest of the whole; once the fill is past the store nothing more changes.
use Prim.Native.Nat.{◌-◌}
use Rattle.combinators.specs.Writer.{written, SameStore}
use Rattle.compiler.proofs.EmittingLaws as laws
use Rattle.compiled.specs.Style.{style_bytes}
use Rattle.syntax.specs.Layout.{read_style}
use Rattle.compiler.proofs.styles.emit_style_rows.Given as goal

abbrev pub invariant-loop : goal.invariant-loop
invariant-loop l = record { kept : SameStore l.initial.writer l.writer; work : laws.Emitting (read_style l.rows.texts.now) style_bytes l.rows.numbers.now l.count 0 (written l.initial.writer) (l.count - l.counter) l.place (written l.writer) }
