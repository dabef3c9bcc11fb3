-- The six tokens behind the function, pair by pair.
use mathlib.Core.Path.{◌≡◌}
use Rattle.combinators.specs.Choice.{and}
use Rattle.values.proofs.ColourValues as laws
use Rattle.values.proofs.colour_values.is_rgb_list.Goals as goal
use Rattle.values.proofs.colour_values.is_rgb_list.Goals.{then-is_number_before, else-is_number_before}

pub returns-then-is_number_before-2 : goal.returns-then-is_number_before-2
returns-then-is_number_before-2 c =
    let both : c.if-is_number_before.value ≡ and (laws.first c.args.tokens.rows.now c.if-is_number_before.value) (laws.second c.args.tokens.rows.now c.if-is_number_before.value) =
    elim c.if-is_number_before.branch [
      | then-is_number_before w ↦ laws.list-second _ _ _ c.is_number_before.ensures w.if-is_number_before.true (rw w.is_number_before-then-is_number_before.ensures at w.value-is)
      | else-is_number_before w ↦ laws.list-first _ _ _ c.is_number_before.ensures w.if-is_number_before.false (rw w.if-is_number_before.false at w.value-is)
    ] in
    laws.list-third _ _ both c.if-is_number_before-2.true _ c.is_number_before-then-is_number_before-2.ensures

pub returns-else-is_number_before-2 : goal.returns-else-is_number_before-2
returns-else-is_number_before-2 c =
    let both : c.if-is_number_before.value ≡ and (laws.first c.args.tokens.rows.now c.if-is_number_before.value) (laws.second c.args.tokens.rows.now c.if-is_number_before.value) =
    elim c.if-is_number_before.branch [
      | then-is_number_before w ↦ laws.list-second _ _ _ c.is_number_before.ensures w.if-is_number_before.true (rw w.is_number_before-then-is_number_before.ensures at w.value-is)
      | else-is_number_before w ↦ laws.list-first _ _ _ c.is_number_before.ensures w.if-is_number_before.false (rw w.if-is_number_before.false at w.value-is)
    ] in
    laws.list-none _ _ both c.if-is_number_before-2.false
