-- The library moves them.
use mathlib.Core.Path.{◌∙◌}
use Rattle.declarations.proofs.Moves as laws
use Rattle.declarations.proofs.texts.move_down.Goals as goal

pub returns : goal.returns
returns c = c.copy_within.ensures.after ∙ laws.moved _ _ _ _ c.requires
