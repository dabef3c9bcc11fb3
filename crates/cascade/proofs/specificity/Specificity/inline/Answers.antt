-- The constant is the definition's.
use mathlib.Core.Path.{refl}
use Rattle.cascade.specs.Specificity.{inline_specificity}
use Rattle.cascade.proofs.specificity.Specificity.inline.Goals as goal

pub returns : goal.returns
unfolding inline_specificity
returns c = refl
