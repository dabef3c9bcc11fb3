-- What wraps is left out before the number is taken apart.
use mathlib.Core.Path.{◌∙◌}
use Rattle.sweeps.proofs.CodePartLaws as laws
use Rattle.sweeps.proofs.parts.pair_bytes.Goals as goal

pub returns : goal.returns
returns c = c.to_le_bytes.ensures ∙ laws.pair-bytes _
