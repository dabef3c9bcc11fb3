-- The climb tells the row that is reached.
use Rattle.matching.proofs.NumberLaws as laws
use Rattle.matching.proofs.topmost.parent_reached.Goals as goal

pub returns-in-Descendant : goal.returns-in-Descendant
returns-in-Descendant c = laws.parent-found _ _ _ _ _ _ c.match_locally.ensures c.in-Descendant.is _ c.parent_of.ensures.value

pub returns-in-Ended : goal.returns-in-Ended
returns-in-Ended c = laws.parent-none _ _ _ _ _ _ c.match_locally.ensures c.in-Ended.is
