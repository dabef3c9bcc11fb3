-- A hexadecimal digit whose worth is below the base.
use mathlib.Core.Path.{◌∙◌}
use Rattle.values.proofs.ColourLaws as laws
use Rattle.values.proofs.colours.is_digit_in.Goals as goal

pub returns-then-is_hex_digit : goal.returns-then-is_hex_digit
returns-then-is_hex_digit c = laws.digit-by-worth _ _ _ c.is_hex_digit.ensures c.if-is_hex_digit.true _ c.hex_digit_of.ensures

pub returns-else-is_hex_digit : goal.returns-else-is_hex_digit
returns-else-is_hex_digit c = c.if-is_hex_digit.false ∙ laws.no-hex-digit _ _ _ c.is_hex_digit.ensures c.if-is_hex_digit.false
