-- What is left to write from the place on is the rest of the whole; once the fill is past the store nothing more changes.
use Prim.Native.Nat.{◌-◌}
use Rattle.combinators.specs.Writer.{written, SameStore}
use Rattle.compiler.proofs.EmittingLaws as laws
use Rattle.compiler.specs.Writing.{styled_bytes}
use Rattle.syntax.specs.RuleLayout.{read_selector}
use Rattle.syntax.specs.Layout.{styles_at}
use Rattle.compiler.proofs.rules.emit_selectors.Given as goal

abbrev pub invariant-loop : goal.invariant-loop
invariant-loop l = record { kept : SameStore l.initial.writer l.writer; work : laws.Emitting (read_selector l.rows.texts.now) (styled_bytes l.given.origin (styles_at l.given.styles.numbers.now l.given.styles.texts.now l.given.count)) l.rows.numbers.now l.selectors l.at (written l.initial.writer) (l.selectors - l.counter) l.place (written l.writer) }
