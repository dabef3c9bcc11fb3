-- The digits before the point and those behind it are the parts that the zero test takes.
use mathlib.Core.Path.{refl}
use Rattle.values.proofs.HeightLaws as laws
use Rattle.values.proofs.heights.unsigned_is_zero.Goals as goal

pub returns : goal.returns
returns c = laws.zero-parts _ _ c.parse_integer-n.ensures.value _ _ (laws.behind-point _ _ c.get.result c.get.ensures.lookup.0 _ refl _ c.unwrap_or-fraction.ensures) c.rounds_to_zero.ensures
