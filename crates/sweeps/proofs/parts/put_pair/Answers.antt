-- Two bytes that are both there are stored at once; otherwise each is stored by itself.
use Rattle.sweeps.proofs.CodePartLaws as laws
use Rattle.sweeps.proofs.parts.put_pair.Goals as goal

pub returns : goal.returns
returns c = laws.pair-stored _ _ _ _ _ _ c.pair_bytes.ensures c.put_byte.ensures c.put_byte-2.ensures
