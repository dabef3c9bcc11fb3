-- The closing bracket is there, or the text is wiped.
use Rattle.selectors.proofs.AttrLaws as laws
use Rattle.selectors.proofs.attr.closed.Goals as goal

pub returns-then-byte_is : goal.returns-then-byte_is
returns-then-byte_is c = let t : goal.returns-then-byte_is-raw c = laws.bracket-closes _ _ _ _ _ _ c.byte_is.ensures c.if-byte_is.true in record { value = t.0; store_after = t.1 }

pub returns : goal.returns
returns c = let t : goal.returns-raw c = laws.bracket-missing _ _ _ _ _ _ c.byte_is.ensures c.if-byte_is.false _ c.fill_part.ensures in record { value = t.0; store_after = t.1 }
