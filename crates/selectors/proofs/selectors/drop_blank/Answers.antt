-- The last row is looked at, and wiped where it is a blank's.
use mathlib.Core.Path.{◌∙◌, sym}
use Rattle.selectors.proofs.SelectorLaws as laws
use Rattle.selectors.proofs.selectors.drop_blank.Goals as goal

pub returns-then-count-eq0 : goal.returns-then-count-eq0
returns-then-count-eq0 c = let t = laws.dropped-none _ _ _ c.if-count-eq0.true in record { value = sym c.if-count-eq0.true ∙ t.0; rules_after = t.1 }

pub returns-then-number_at-ne-DESCENDANT : goal.returns-then-number_at-ne-DESCENDANT
returns-then-number_at-ne-DESCENDANT c = let t : goal.returns-then-number_at-ne-DESCENDANT-raw c = laws.dropped-not _ _ _ c.if-count-eq0.false _ c.number_at.ensures c.if-number_at-ne-DESCENDANT.true in record { value = t.0; rules_after = t.1 }

pub returns : goal.returns
returns c = let t : goal.returns-raw c = laws.dropped-blank _ _ _ c.if-count-eq0.false _ _ c.number_at.ensures c.if-number_at-ne-DESCENDANT.false c.fill_part.ensures in record { value = t.0; rules_after = t.1 }
