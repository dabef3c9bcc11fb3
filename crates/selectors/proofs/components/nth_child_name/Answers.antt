-- The name is read to the store, compared and wiped, so that the store is as it was.
use mathlib.Core.Path.{◌∙◌}
use Rattle.combinators.proofs.Words.{same-by}
use Rattle.selectors.proofs.PseudoLaws as laws
use Rattle.selectors.proofs.components.nth_child_name.Goals as goal

pub returns-in_err-name : goal.returns-in_err-name
returns-in_err-name c = let t = laws.child-unnamed _ _ _ _ _ (c.parse_ident.ensures.value, c.parse_ident.ensures.store_after) c.in_err-name.was in record { value = c.from_residual.ensures ∙ t.0; store_unchanged = t.1 }

pub returns : goal.returns
returns c = let t = laws.child-named _ _ _ _ _ (c.parse_ident.ensures.value, c.parse_ident.ensures.store_after) c.requires _ _ c.in_ok-name.was _ c.part_of.ensures _ (rw c.as_slice.ensures at c.eq-known.ensures ∙ same-by _ _) _ c.fill_part.ensures in record { value = c.then_some.ensures ∙ t.0; store_unchanged = t.1 }
