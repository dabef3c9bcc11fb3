-- The first two numbers stand for themselves, and any other for the last.
use mathlib.Core.Path.{◌∙◌}
use Rattle.compiled.proofs.Written as laws
use Rattle.compiled.proofs.styles.white_space_number.Goals as goal

pub returns : goal.returns
returns c = c.min.ensures ∙ laws.white-space-least _
