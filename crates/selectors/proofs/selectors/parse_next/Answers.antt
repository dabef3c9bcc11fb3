-- At the start a type selector or else any component, elsewhere any: what the readers leave is the definition by cases.
use mathlib.Core.Path.{◌∙◌, ap, sym}
use Rattle.std.proofs.Common.{Ok}
use Rattle.selectors.proofs.ComponentLaws.{clean-same}
use Rattle.selectors.proofs.ReadingLaws.{read-there}
use Rattle.selectors.proofs.SimpleLaws as laws
use Rattle.selectors.proofs.selectors.parse_next.Goals as goal

pub returns-then-not-at_start : goal.returns-then-not-at_start
returns-then-not-at_start c = let t : goal.returns-then-not-at_start-raw c = laws.next-any _ _ _ _ c.if-not-at_start.true _ _ (c.parse_simple_selector_component.ensures.value, c.parse_simple_selector_component.ensures.store_after) in record { value = t.0; store_after = t.1 }

pub returns-in-Some : goal.returns-in-Some
returns-in-Some c =
    let r = ap Ok c.in-Some.is in
    let t = laws.next-element _ _ _ _ c.if-not-at_start.false _ _ (c.parse_element.ensures.value, c.parse_element.ensures.store_after) (read-there _ _ r) in
    record { value = sym r ∙ t.0; store_after = t.1 }

pub parse_simple_selector_component-requires-2 : goal.parse_simple_selector_component-requires-2
parse_simple_selector_component-requires-2 c = clean-same _ _ _ _ (laws.next-same c.args.at_start c.args.s.now c.args.store.now c.args.fill c.if-not-at_start.false _ _ (c.parse_element.ensures.value, c.parse_element.ensures.store_after) (ap Ok c.in_default.is)) c.requires

pub returns : goal.returns
returns c = let t : goal.returns-raw c = laws.next-other _ _ _ _ c.if-not-at_start.false _ _ (c.parse_element.ensures.value, c.parse_element.ensures.store_after) (ap Ok c.in_default.is) _ _ (c.parse_simple_selector_component-2.ensures.value, c.parse_simple_selector_component-2.ensures.store_after) in record { value = t.0; store_after = t.1 }
