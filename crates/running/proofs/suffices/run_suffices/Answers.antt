-- Rows that are too few, a state that is too short, or the test of the stores.
use mathlib.Core.Path.{sym, ◌∙◌}
use Prim.Native.Nat.{◌+◌, ◌*◌, ◌/◌}
use native.Mathlib.Omega.{arith}
use borrow.Author.Tests.{leb-true, leb-false}
use Rattle.combinators.proofs.Rules.{never}
use Rattle.page.specs.Rows.{attribute_width}
use Rattle.running.proofs.Enough as laws
use Rattle.running.proofs.suffices.run_suffices.Goals as goal
use Rattle.running.proofs.suffices.run_suffices.Goals.{then-long_enough, else-long_enough}

pub returns-then-compiled-state : goal.returns-then-compiled-state
returns-then-compiled-state c = let a = c.args in elim c.if-long_enough.branch [
  | then-long_enough w ↦ laws.by-texts a.compiled a.nodes a.rows a.state (a.text + 2 * (a.attributes / attribute_width)) a.rules a.tokens a.brackets a.texts c.long_enough.ensures w.if-long_enough.true (leb-true _ _ (sym w.value-is ∙ c.if-compiled-state.true)) _ (laws.texts-told _ _ _ _ _ _ (omega (arith, c.saturating_add.ensures)) (omega arith) _ c.stores_suffice.ensures)
  | else-long_enough w ↦ never (sym (sym c.if-compiled-state.true ∙ w.value-is ∙ w.if-long_enough.false))
]

pub returns-else-compiled-state : goal.returns-else-compiled-state
returns-else-compiled-state c = let a = c.args in c.if-compiled-state.false ∙ elim c.if-long_enough.branch [
  | then-long_enough w ↦ laws.short-state a.compiled a.nodes a.rows a.state (a.text + 2 * (a.attributes / attribute_width)) a.rules a.tokens a.brackets a.texts c.long_enough.ensures w.if-long_enough.true (leb-false _ _ (sym w.value-is ∙ c.if-compiled-state.false))
  | else-long_enough w ↦ laws.few-rows a.compiled a.nodes a.rows a.state (a.text + 2 * (a.attributes / attribute_width)) a.rules a.tokens a.brackets a.texts c.long_enough.ensures w.if-long_enough.false
]
