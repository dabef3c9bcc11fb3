-- The base is 10, the bound 255.
use mathlib.Core.Path.{ap, ◌∙◌}
use Rattle.values.specs.ColourAnswer.{number_answer}
use Rattle.values.specs.Colour.{parse_u8}
use Rattle.values.proofs.ColourLaws as laws
use Rattle.values.proofs.colours.parse_u8.Goals as goal

pub returns : goal.returns
unfolding parse_u8
returns c = c.byte_in.ensures ∙ ap number_answer (laws.digits_same _ _ laws.decimal_digit _ _ _ _)
