-- The mark is stored, and behind it the bytes of the count.
use Rattle.sweeps.proofs.CodePartLaws as laws
use Rattle.sweeps.proofs.parts.put_mark_there.Goals as goal

pub returns : goal.returns
returns c = laws.mark-there _ _ _ _ c.put_pair_there.ensures
