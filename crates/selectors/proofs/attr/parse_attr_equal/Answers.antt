-- A value is read or not, and where not the name is wiped.
use Rattle.selectors.proofs.AttrLaws as laws
use borrow.Author.Rules.{rules}
use Rattle.selectors.proofs.attr.parse_attr_equal.Goals as goal

pub overflow_add-result-2 : goal.overflow_add-result-2
overflow_add-result-2 c = let h = laws.equal-le c.args.s.now _ c.requires.at_in_bounds _ c.parse_attr_value.ensures.value _ _ c.in-Some.is in search rules

pub returns : goal.returns
returns c = let t : goal.returns-raw c = laws.equal-value _ _ _ _ _ _ _ (c.parse_attr_value.ensures.value, c.parse_attr_value.ensures.store_after) _ _ c.in-Some.is in record { value = t.0; store_after = t.1 }

pub returns-in_default : goal.returns-in_default
returns-in_default c = let t : goal.returns-in_default-raw c = laws.equal-none c.args.s.now c.args.store.now c.args.at _ _ _ _ (c.parse_attr_value.ensures.value, c.parse_attr_value.ensures.store_after) c.in_default.is _ c.fill_part.ensures in record { value = t.0; store_after = t.1 }
