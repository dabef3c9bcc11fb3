-- Two stores in a row are the bytes of the number.
use mathlib.Core.Path.{refl}
use Rattle.sweeps.proofs.CodePartLaws as laws
use Rattle.sweeps.proofs.parts.put_pair_there.Goals as goal

pub returns : goal.returns
returns c = laws.pair-stored _ _ _ _ _ _ c.pair_bytes.ensures refl refl
