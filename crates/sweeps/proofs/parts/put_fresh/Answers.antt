-- Zeros for the steps and the mark behind them are the fresh flags, stored one behind the other.
use Rattle.sweeps.proofs.CodePartLaws as laws
use Rattle.sweeps.proofs.parts.put_fresh.Goals as goal

pub returns : goal.returns
returns c = laws.fresh-stored _ _ _ _ _ _ _ c.fill_part.ensures c.put_mark.ensures
