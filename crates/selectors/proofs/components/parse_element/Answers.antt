-- A name, or nothing.
use mathlib.Core.Path.{◌∙◌, ap}
use Rattle.std.proofs.Common.{Ok}
use Rattle.selectors.proofs.ComponentLaws as laws
use Rattle.selectors.proofs.components.parse_element.Goals as goal

pub returns : goal.returns
returns c = let t = laws.element-read _ _ _ _ _ (c.parse_ident.ensures.value, c.parse_ident.ensures.store_after) _ _ c.in_ok-name.was in record { value = t.0; store_after = t.1 }

pub returns-in_err-name : goal.returns-in_err-name
returns-in_err-name c = let t = laws.element-unnamed _ _ _ _ _ (c.parse_ident.ensures.value, c.parse_ident.ensures.store_after) c.in_err-name.was in record { value = ap Ok c.from_residual.ensures ∙ t.0; store_after = t.1 }
