-- The fields are those of the definition.
use mathlib.Core.Path.{refl}
use Rattle.cascade.specs.Specificity.{specificity_of}
use Rattle.cascade.proofs.specificity.Specificity.new.Goals as goal

pub returns : goal.returns
unfolding specificity_of
returns c = refl
