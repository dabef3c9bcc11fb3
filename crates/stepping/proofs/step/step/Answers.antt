-- Other content, the document, or an element.
use Rattle.combinators.proofs.LentLaws.{same-none}
use Rattle.styles.proofs.KeptStores.{lengths-stay}
use Rattle.stepping.proofs.StepLaws as laws
use Rattle.stepping.proofs.step.step.Goals as goal

pub returns-then-kind_of-eq-OTHER : goal.returns-then-kind_of-eq-OTHER
returns-then-kind_of-eq-OTHER c =
    let t = laws.other_step c.args.settings _ _ _ _ _ _ _ _ _ c.requires c.told-out _ c.kind_of.ensures c.if-kind_of-eq-OTHER.true _ c.clear_row.ensures in
    record { texts_after = t.0; kept = record { within = t.1; lengths = lengths-stay _; same = same-none } }

pub open_document-requires : goal.open_document-requires
open_document-requires c = laws.open_lent _ _ _ _ _ _ _ c.requires

pub returns-then-depth-eq0 : goal.returns-then-depth-eq0
returns-then-depth-eq0 c =
    let t = laws.document-step c.args.settings _ _ _ _ _ _ _ _ _ c.requires _ c.kind_of.ensures c.if-kind_of-eq-OTHER.false c.if-depth-eq0.true _ _ (c.open_document.ensures.out_after, c.open_document.ensures.state_after) in
    record { texts_after = t.0; kept = record { within = t.1; lengths = lengths-stay _; same = same-none } }

pub open_element-requires : goal.open_element-requires
open_element-requires c = record { open_lent = laws.open_lent _ _ _ _ _ _ _ c.requires; below = laws.below _ _ _ _ _ _ _ c.requires c.if-depth-eq0.false }

pub merge_inline-requires : goal.merge_inline-requires
merge_inline-requires c = c.requires.for-attributes

pub returns : goal.returns
returns c =
    let t = laws.element-step c.args.settings _ _ _ _ _ _ _ _ _ c.requires _ c.kind_of.ensures c.if-kind_of-eq-OTHER.false c.if-depth-eq0.false _ _ c.open_element.ensures _ _ _ (c.merge_inline.ensures.out_after, (c.merge_inline.ensures.texts_after, c.merge_inline.ensures.kept.within)) in
    record { texts_after = t.0; kept = record { within = t.1; lengths = c.merge_inline.ensures.kept.lengths; same = c.merge_inline.ensures.kept.same } }
