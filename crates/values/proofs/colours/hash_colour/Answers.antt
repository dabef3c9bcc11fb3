-- A number of three or of six digits, or no colour.
use native.Mathlib.Omega.{arith}
use mathlib.Core.Path.{◌∙◌}
use Rattle.values.proofs.ColourLaws as laws
use Rattle.values.proofs.colours.hash_colour.Goals as goal

pub returns-in_err-v : goal.returns-in_err-v
returns-in_err-v c = c.from_residual.ensures ∙ laws.hash-none _ _ c.parse_hex.ensures c.in_err-v.was

pub returns-in-3 : goal.returns-in-3
returns-in-3 c = laws.hash-three _ _ c.parse_hex.ensures _ c.in_ok-v.was _ c.in-3.is c.three_digits.ensures

pub returns-in-6 : goal.returns-in-6
returns-in-6 c = laws.hash-six _ _ c.parse_hex.ensures _ c.in_ok-v.was _ c.in-6.is c.six_digits.ensures

pub returns-in_default : goal.returns-in_default
returns-in_default c = laws.hash-other _ (λ e. omega arith) (λ e. omega arith)
