-- The struct that is made is the one that the definition says.
use mathlib.Core.Path.{refl}
use Rattle.path_styles.specs.Tops.{ready_places}
use Rattle.path_styles.proofs.tops.ready_sheets.Goals as goal

pub returns : goal.returns
unfolding ready_places
returns c = refl
