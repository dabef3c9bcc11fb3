-- A mark is read without the store; else one of the named components. The bounds are those of any component.
use mathlib.Core.Path.{◌∙◌, ap, sym}
use Rattle.std.proofs.Common.{Ok}
use Rattle.selectors.proofs.ReadingLaws.{read-there}
use Rattle.selectors.proofs.SimpleLaws as laws
use Rattle.selectors.proofs.components.parse_simple_selector_component.Goals as goal

pub returns-in-Some : goal.returns-in-Some
returns-in-Some c =
    let r = ap Ok c.in-Some.is in
    let t = laws.simple-mark _ _ _ _ c.parse_mark.ensures (read-there _ _ r) in
    record { value = sym r ∙ t.0; store_after = t.1 }

pub returns : goal.returns
returns c = let t : goal.returns-raw c = laws.simple-named _ _ _ _ c.parse_mark.ensures (ap Ok c.in_default.is) _ _ (c.parse_named.ensures.value, c.parse_named.ensures.store_after) in record { value = t.0; store_after = t.1 }
