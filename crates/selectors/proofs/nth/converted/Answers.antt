-- No digits stand for 1; digits that fit are the number with its sign.
use mathlib.Core.Path.{◌∙◌, sym}
use Rattle.selectors.proofs.NthNumbers as laws
use Rattle.selectors.proofs.nth.converted.Goals as goal

pub returns-then-is_empty : goal.returns-then-is_empty
returns-then-is_empty c = laws.converted-one _ _ _ (sym c.is_empty.ensures ∙ c.if-is_empty.true) c.signed_number.ensures

pub returns-in_err-v : goal.returns-in_err-v
returns-in_err-v c = c.from_residual.ensures ∙ laws.converted-over _ _ c.digits_in.ensures (sym c.is_empty.ensures ∙ c.if-is_empty.false) _ c.in_err-v.was

pub signed_number-requires-2 : goal.signed_number-requires-2
signed_number-requires-2 c = laws.converted-fits _ _ c.digits_in.ensures _ c.in_ok-v.was

pub returns : goal.returns
returns c = laws.converted-number _ _ c.digits_in.ensures (sym c.is_empty.ensures ∙ c.if-is_empty.false) _ _ c.in_ok-v.was _ c.signed_number-2.ensures
