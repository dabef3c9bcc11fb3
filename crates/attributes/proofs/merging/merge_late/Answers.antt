-- The name decides what the attribute says behind the author's rules: its styles, in the crate's cascade also its colour, or nothing.
use mathlib.Core.Path.{◌∙◌}
use Rattle.combinators.proofs.Words.{same-by}
use Rattle.attributes.proofs.AttributeLaws as laws
use Rattle.cascade.specs.Specificity.{inline_specificity}
use Rattle.styles.proofs.KeptStores.{kept-stay}
use Rattle.attributes.proofs.merging.merge_late.Goals as goal

pub merge_style_attribute-requires : goal.merge_style_attribute-requires
merge_style_attribute-requires c = laws.style-room _ _ _ _ _ _ _ _ c.attribute_value-value.ensures c.requires

pub returns-then-eq : goal.returns-then-eq
returns-then-eq c =
    let t = laws.late-style _ _ _ _ _ c.attribute_name-name.ensures c.attribute_value-value.ensures _ (c.eq.ensures ∙ same-by _ _) c.args.cascade c.args.base c.args.fill c.args.out.now c.args.stores.now.texts.now c.if-eq.true _ _ _ c.merge_style_attribute.ensures.out_after c.merge_style_attribute.ensures.value c.merge_style_attribute.ensures.texts_after in
    record { out_after = t.0; value = t.1.0; texts_after = t.1.1; kept = c.merge_style_attribute.ensures.kept }

pub merge_colour_attribute-requires : goal.merge_colour_attribute-requires
merge_colour_attribute-requires c = laws.colour-room _ _ _ _ _ _ _ _ c.attribute_value-value.ensures c.requires

pub returns-in-Crate : goal.returns-in-Crate
unfolding inline_specificity
returns-in-Crate c =
    let t = laws.late-colour _ _ _ _ _ c.attribute_name-name.ensures c.attribute_value-value.ensures _ (c.eq.ensures ∙ same-by _ _) c.args.cascade c.args.base c.args.fill c.args.out.now c.args.stores.now.texts.now c.if-eq.false c.in-Crate.is _ _ c.merge_colour_attribute.ensures.out_after c.merge_colour_attribute.ensures.texts_unchanged in
    record { out_after = t.0; value = t.1.0; texts_after = t.1.1; kept = c.merge_colour_attribute.ensures.kept }

pub returns-in-Book : goal.returns-in-Book
returns-in-Book c =
    let t = laws.late-nothing _ _ _ _ _ c.attribute_name-name.ensures c.attribute_value-value.ensures _ (c.eq.ensures ∙ same-by _ _) c.args.cascade c.args.base c.args.fill c.args.out.now c.args.stores.now.texts.now c.if-eq.false c.in-Book.is in
    record { out_after = t.0; value = t.1.0; texts_after = t.1.1; kept = kept-stay _ }
