-- With a descendant combinator the number is the one that is found, and 0 without.
use Rattle.matching.proofs.NumberLaws as laws
use Rattle.matching.proofs.topmost.selector_number.Goals as goal

pub returns-then-has_descendant : goal.returns-then-has_descendant
returns-then-has_descendant c = let t : goal.returns-then-has_descendant-raw c = laws.number-found _ _ _ _ _ c.args.element.rooted _ c.has_descendant.ensures c.if-has_descendant.true _ c.reached_number.ensures in record { value = t.0; upper_bound = t.1 }

pub returns-else-has_descendant : goal.returns-else-has_descendant
returns-else-has_descendant c = let t : goal.returns-else-has_descendant-raw c = laws.number-unasked _ _ _ _ _ c.args.element.rooted _ c.has_descendant.ensures c.if-has_descendant.false in record { value = t.0; upper_bound = t.1 }
