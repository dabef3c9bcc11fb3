-- The row of the name has the kind and the factor of the unit.
use mathlib.Core.Path.{◌∙◌}
use Rattle.combinators.specs.Choice.{pick}
use Rattle.characters.specs.Literal.{text}
use Rattle.characters.specs.Utf8.{utf8, continuation}
use Rattle.values.proofs.WordLaws.{mapped}
use Rattle.lengths.proofs.DimensionLaws as laws
use Rattle.lengths.proofs.dimensions.dimension_length.Goals as goal

pub returns-in_default : goal.returns-in_default
unfolding text utf8 continuation pick mapped
returns-in_default c = laws.unit-unknown _ _ _ _ (c.lookup.ensures ∙ laws.unit-told _) c.in_default.is

pub returns : goal.returns
unfolding text utf8 continuation pick mapped
returns c = c.with_unit.ensures ∙ laws.unit-known _ _ _ _ (c.lookup.ensures ∙ laws.unit-told _) _ _ c.in-Some.is
