-- One token, the seven of `rgb`, or no colour.
use native.Mathlib.Omega.{arith}
use Rattle.values.proofs.ColourValues as laws
use Rattle.values.proofs.colour_values.parse_color.Goals as goal

pub returns-in-1 : goal.returns-in-1
returns-in-1 c = laws.count-one _ _ _ (rw c.count.ensures at c.in-1.is) _ c.one_token.ensures

pub returns-in_default : goal.returns-in_default
returns-in_default c = laws.count-other _ _ _ (λ e. omega (arith, c.count.ensures)) (λ e. omega (arith, c.count.ensures))
