-- The digits before the point, and those behind it, are those of the definition.
use mathlib.Core.Path.{refl}
use Rattle.values.proofs.HeightLaws.{behind-point}
use Rattle.lengths.proofs.NumeralLaws as laws
use Rattle.lengths.proofs.numerals.unsigned_numeral.Goals as goal

pub returns : goal.returns
returns c = laws.parts _ _ _ c.parse_integer-n.ensures.value _ c.digits_from.ensures _ (behind-point _ _ c.get.result c.get.ensures.lookup.0 _ refl _ c.unwrap_or-fraction.ensures) _ c.digits_from-2.ensures
