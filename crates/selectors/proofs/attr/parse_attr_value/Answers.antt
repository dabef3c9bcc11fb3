-- A quoted string, or else a name, each with its bracket.
use Rattle.selectors.proofs.ComponentLaws.{clean-same}
use Rattle.selectors.proofs.AttrLaws as laws
use Rattle.selectors.proofs.attr.parse_attr_value.Goals as goal

pub returns-in-Some : goal.returns-in-Some
returns-in-Some c = let t : goal.returns-in-Some-raw c = laws.value-quoted _ _ _ _ _ (c.parse_quoted_value.ensures.value, c.parse_quoted_value.ensures.store_after) _ _ c.in-Some.is in record { value = t.0; store_after = t.1 }

pub parse_ident_value-requires : goal.parse_ident_value-requires
parse_ident_value-requires c = clean-same _ _ _ _ (laws.value_same _ _ _ _ _ (c.parse_quoted_value.ensures.value, c.parse_quoted_value.ensures.store_after) c.in_default.is) c.requires

pub returns : goal.returns
returns c = let t : goal.returns-raw c = laws.value-named _ _ _ _ _ (c.parse_quoted_value.ensures.value, c.parse_quoted_value.ensures.store_after) c.in_default.is _ _ (c.parse_ident_value.ensures.value, c.parse_ident_value.ensures.store_after) in record { value = t.0; store_after = t.1 }
