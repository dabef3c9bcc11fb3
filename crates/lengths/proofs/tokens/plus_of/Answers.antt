-- A '+' that is there takes one byte.
use Rattle.lengths.proofs.TokenLaws as laws
use Rattle.lengths.proofs.tokens.plus_of.Goals as goal

pub returns : goal.returns
returns c = let t : goal.returns-raw c = laws.plus-read _ _ c.byte_is.ensures _ c.from.ensures in record { value = t.0; upper_bound = t.1 }
