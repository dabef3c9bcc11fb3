-- A number that is read is a byte.
use native.Mathlib.Omega.{arith}
use mathlib.Core.Path.{sym, ◌∙◌}
use Rattle.values.proofs.ColourLaws as laws
use Rattle.values.proofs.colours.byte_in.Goals as goal

pub returns-in_err-number : goal.returns-in_err-number
returns-in_err-number c = c.from_residual.ensures ∙ sym c.in_err-number.was ∙ c.parse_in.ensures

pub overflow_cast-result : goal.overflow_cast-result
overflow_cast-result c = omega (arith, laws.byte_le _ _ _ _ _ c.parse_in.ensures c.in_ok-number.was)

pub returns : goal.returns
returns c = sym c.in_ok-number.was ∙ c.parse_in.ensures
