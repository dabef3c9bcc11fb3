-- The digits, up to the most, are zero exactly where the number is.
use mathlib.Core.Path.{◌∙◌, ap}
use Rattle.std.proofs.Common.{Ok}
use Rattle.lengths.proofs.DimensionLaws as laws
use Rattle.lengths.proofs.dimensions.number_length.Goals as goal

pub returns : goal.returns
returns c = ap Ok c.then_some.ensures ∙ laws.number-told _ _ c.numeral_of.ensures
