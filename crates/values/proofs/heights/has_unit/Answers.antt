-- The unit is the text behind the number.
use Rattle.std.proofs.Common.{◌∙◌, ap}
use Rattle.characters.specs.Literal.{text}
use Rattle.characters.specs.Utf8.{utf8, continuation}
use Rattle.combinators.specs.Choice.{pick}
use Rattle.values.specs.Property.{units, any_of}
use Rattle.values.proofs.TokenViews as views
use Rattle.values.proofs.heights.has_unit.Goals as goal

pub returns : goal.returns
unfolding text utf8 continuation pick
returns c =
    c.any_of.ensures ∙ ap (λ w. any_of w units) (views.unit-cut _ _ _ _ _ _ c.place.ensures.value c.place-2.ensures.value c.place-3.ensures.value _ c.part_of-unit.ensures)
