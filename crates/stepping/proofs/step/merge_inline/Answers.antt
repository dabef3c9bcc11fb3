-- Where document styles are off no attribute counts.
use native.Mathlib.Omega.{arith}
use Rattle.combinators.proofs.LentLaws.{same-none}
use Rattle.styles.proofs.KeptStores.{lengths-stay}
use Rattle.stepping.proofs.StepLaws as laws
use Rattle.stepping.proofs.step.merge_inline.Goals as goal

pub merge_attributes-requires : goal.merge_attributes-requires
merge_attributes-requires c = rw c.attributes.ensures c.requires

pub returns-then-settings : goal.returns-then-settings
returns-then-settings c =
    let a = c.args in
    let merged = c.merge_attributes.ensures in
    let t = laws.inline-on a.settings _ _ a.base a.fill a.out.now a.stores.now.texts.now c.if-settings.true (omega (arith, c.requires.for-texts)) _ c.attributes.ensures _ _ _ (merged.out_after, (merged.value, merged.texts_after)) in
    record { out_after = t.0; texts_after = t.1.0; kept = record { within = t.1.1; lengths = merged.kept.lengths; same = merged.kept.same } }

pub returns : goal.returns
returns c =
    let a = c.args in
    let t = laws.inline-off a.settings a.row.attributes.now a.row.text.now a.base a.fill a.out.now a.stores.now.texts.now c.if-settings.false (omega (arith, c.requires.for-texts)) in
    record { out_after = t.0; texts_after = t.1.0; kept = record { within = t.1.1; lengths = lengths-stay _; same = same-none } }
