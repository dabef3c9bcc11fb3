-- What is left to put from the row on is the rest of the whole; at the end a zero height with a hidden overflow adds one.
use mathlib.Core.Path.{◌≡◌, refl, ap}
use mathlib.Core.Bool.{false}
use native.Mathlib.Omega.{arith}
use Rattle.std.specs.Prelude.{is_some}
use Rattle.combinators.specs.Choice.{and}
use Rattle.combinators.proofs.Rules.{and_left, and_right}
use Rattle.declarations.proofs.Styling as laws
use Rattle.declarations.proofs.styles.styles_from_properties.Goals as goal
use Rattle.declarations.proofs.styles.styles_from_properties.Goals.{in_default-via-in-Some+else-overflow_hidden, in_default-via-in_default}

pub loop-row-init : goal.loop-row-init
loop-row-init c = laws.turning-begin _ _

pub loop-row-preserved : goal.loop-row-preserved
loop-row-preserved c = laws.turning-more _ _ _ _ _ _ _ c.loop-row.invariant (omega arith) _ refl _ _ c.put_own_style-place.ensures c.put_own_style-place.auto.styles _ _ c.first_zero-zero_start.ensures
    refl _ c.hides_overflow-overflow_hidden.ensures

pub returns-in-Some : goal.returns-in-Some
returns-in-Some c numbers cut = laws.styling-added _ _ _ _ _ _ _ _ (c.loop-row.invariant.by numbers cut) (omega arith) c.requires _ c.in-Some.is c.if-overflow_hidden.true _ c.added_style.ensures _ _ c.put_style.ensures

pub returns-in_default : goal.returns-in_default
returns-in_default c numbers cut =
    let none : and (is_some c.loop-row.zero_start) c.loop-row.overflow_hidden ≡ false =
    elim c.in_default.branch [
      | in_default-via-in-Some+else-overflow_hidden w ↦ and_right _ _ w.if-overflow_hidden.false
      | in_default-via-in_default w ↦ and_left _ _ (ap is_some w.in_default.is)
    ] in
    laws.styling-done _ _ _ _ _ _ _ _ (c.loop-row.invariant.by numbers cut) (omega arith) c.requires none
