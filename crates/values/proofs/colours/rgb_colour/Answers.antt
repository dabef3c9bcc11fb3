-- Each text is a number up to 255 or there is no colour; three of them are one.
use mathlib.Core.Path.{◌∙◌}
use Rattle.values.proofs.ColourLaws as laws
use Rattle.values.proofs.colours.rgb_colour.Goals as goal

pub returns-in_err-red : goal.returns-in_err-red
returns-in_err-red c = c.from_residual.ensures ∙ laws.red-none _ _ _ _ c.parse_u8.ensures c.in_err-red.was

pub returns-in_err-green : goal.returns-in_err-green
returns-in_err-green c = c.from_residual-in_err-green.ensures ∙ laws.green-none _ _ _ _ c.parse_u8.ensures _ c.in_ok-red.was _ c.parse_u8-2.ensures c.in_err-green.was

pub returns-in_err-blue : goal.returns-in_err-blue
returns-in_err-blue c = c.from_residual-in_err-blue.ensures ∙ laws.blue-none _ _ _ _ c.parse_u8.ensures _ c.in_ok-red.was _ c.parse_u8-2.ensures _ c.in_ok-green.was _ c.parse_u8-3.ensures c.in_err-blue.was

pub returns : goal.returns
returns c = laws.three-numbers _ _ _ _ c.parse_u8.ensures _ c.in_ok-red.was _ c.parse_u8-2.ensures _ c.in_ok-green.was _ c.parse_u8-3.ensures _ c.in_ok-blue.was _ c.colour_number.ensures
