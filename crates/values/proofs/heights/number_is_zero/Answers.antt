-- White space and the sign are passed, and the rest is asked.
use Rattle.values.proofs.HeightLaws as laws
use mathlib.Core.Path.{refl}
use Rattle.values.proofs.heights.number_is_zero.Goals as goal

pub returns : goal.returns
returns c = laws.zero_number _ _ c.skip_optional_whitespace-w.ensures.value _ refl _ c.parse_sign-k.ensures.value _ c.unsigned_is_zero.ensures
