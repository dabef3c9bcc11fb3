-- The five alternatives in the crate's order; each that fails leaves the store as it was.
use mathlib.Core.Path.{◌∙◌, ap, sym}
use Rattle.std.proofs.Common.{Ok}
use Rattle.selectors.proofs.ComponentLaws.{clean-same}
use Rattle.selectors.proofs.ReadingLaws.{read-there}
use Rattle.selectors.proofs.SimpleLaws as laws
use Rattle.selectors.proofs.components.parse_named.Goals as goal

pub returns-in-Some : goal.returns-in-Some
returns-in-Some c =
    let r = ap Ok c.in-Some.is in
    let t = laws.named-class _ _ _ _ _ (c.parse_class.ensures.value, c.parse_class.ensures.store_after) (read-there _ _ r) in
    record { value = sym r ∙ t.0; store_after = t.1 }

pub parse_attr-requires : goal.parse_attr-requires
parse_attr-requires c = clean-same _ _ _ _ (laws.same_class _ _ _ _ _ (c.parse_class.ensures.value, c.parse_class.ensures.store_after) (ap Ok c.in_default.is)) c.requires

pub returns-in-Some-parse_attr : goal.returns-in-Some-parse_attr
returns-in-Some-parse_attr c =
    let r = ap Ok c.in-Some-parse_attr.is in
    let t = laws.named-attr _ _ _ _ _ (c.parse_class.ensures.value, c.parse_class.ensures.store_after) (ap Ok c.in_default.is) _ _ (c.parse_attr.ensures.value, c.parse_attr.ensures.store_after) (read-there _ _ r) in
    record { value = sym r ∙ t.0; store_after = t.1 }

pub returns-in-Some-parse_hash : goal.returns-in-Some-parse_hash
returns-in-Some-parse_hash c =
    let r = ap Ok c.in-Some-parse_hash.is in
    let t = laws.named-hash _ _ _ _ _ (c.parse_class.ensures.value, c.parse_class.ensures.store_after) (ap Ok c.in_default.is) _ _ (c.parse_attr.ensures.value, c.parse_attr.ensures.store_after) (ap Ok c.in_default-parse_attr.is) _ _ (c.parse_hash.ensures.value, c.parse_hash.ensures.store_after) (read-there _ _ r) in
    record { value = sym r ∙ t.0; store_after = t.1 }

pub returns-in-Some-parse_element : goal.returns-in-Some-parse_element
returns-in-Some-parse_element c =
    let r = ap Ok c.in-Some-parse_element.is in
    let t = laws.named-element _ _ _ _ _ (c.parse_class.ensures.value, c.parse_class.ensures.store_after) (ap Ok c.in_default.is) _ _ (c.parse_attr.ensures.value, c.parse_attr.ensures.store_after) (ap Ok c.in_default-parse_attr.is) _ _ (c.parse_hash.ensures.value, c.parse_hash.ensures.store_after) (ap Ok c.in_default-parse_hash.is) _ _ (c.parse_element.ensures.value, c.parse_element.ensures.store_after) (read-there _ _ r) in
    record { value = sym r ∙ t.0; store_after = t.1 }

pub parse_pseudo_class-requires : goal.parse_pseudo_class-requires
parse_pseudo_class-requires c = clean-same _ _ _ _ (laws.same-element _ _ _ _ _ (c.parse_class.ensures.value, c.parse_class.ensures.store_after) (ap Ok c.in_default.is) _ _ (c.parse_attr.ensures.value, c.parse_attr.ensures.store_after) (ap Ok c.in_default-parse_attr.is) _ _ (c.parse_hash.ensures.value, c.parse_hash.ensures.store_after) (ap Ok c.in_default-parse_hash.is) _ _ (c.parse_element.ensures.value, c.parse_element.ensures.store_after) (ap Ok c.in_default-parse_element.is)) c.requires

pub returns : goal.returns
returns c = let t : goal.returns-raw c = laws.named-pseudo _ _ _ _ _ (c.parse_class.ensures.value, c.parse_class.ensures.store_after) (ap Ok c.in_default.is) _ _ (c.parse_attr.ensures.value, c.parse_attr.ensures.store_after) (ap Ok c.in_default-parse_attr.is) _ _ (c.parse_hash.ensures.value, c.parse_hash.ensures.store_after) (ap Ok c.in_default-parse_hash.is) _ _ (c.parse_element.ensures.value, c.parse_element.ensures.store_after) (ap Ok c.in_default-parse_element.is) _ _ (c.parse_pseudo_class.ensures.value, c.parse_pseudo_class.ensures.store_unchanged) in record { value = t.0; store_after = t.1 }
