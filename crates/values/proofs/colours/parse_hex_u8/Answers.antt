-- The base is 16, the bound 255.
use mathlib.Core.Path.{ap, ◌∙◌}
use Rattle.values.specs.ColourAnswer.{number_answer}
use Rattle.values.specs.Colour.{parse_hex}
use Rattle.values.proofs.ColourLaws as laws
use Rattle.values.proofs.colours.parse_hex_u8.Goals as goal

pub returns : goal.returns
unfolding parse_hex
returns c = c.byte_in.ensures ∙ ap number_answer (laws.digits_same _ _ laws.hexadecimal-digit _ _ _ _)
