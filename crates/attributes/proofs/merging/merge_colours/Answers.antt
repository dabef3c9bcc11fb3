-- Each turn merges the colour of the first attribute that is left; when none is left, all are merged.
use Rattle.attributes.proofs.TurnLaws as laws
use Rattle.cascade.specs.Specificity.{specificity_of, no_specificity}
use Rattle.attributes.proofs.merging.merge_colours.Goals as goal

pub merge_colour_attribute-requires : goal.merge_colour_attribute-requires
merge_colour_attribute-requires c = laws.colours-room _ _ _ _ _ _ _ _ _ _ c.loop-i.invariant c.loop-i-test.true _ _ c.attribute_name-name.ensures c.attribute_value-value.ensures

pub loop-i-preserved : goal.loop-i-preserved
unfolding no_specificity specificity_of
loop-i-preserved c = laws.colours-next _ _ _ _ _ _ _ _ _ _ c.loop-i.invariant c.loop-i-test.true _ _ c.attribute_name-name.ensures c.attribute_value-value.ensures _ _ c.merge_colour_attribute.ensures.out_after c.merge_colour_attribute.ensures.texts_unchanged c.merge_colour_attribute.ensures.rules_unchanged c.merge_colour_attribute.ensures.kept

pub returns-clause-out_after : goal.returns-clause-out_after
returns-clause-out_after c = (laws.colours-end _ _ _ _ _ _ _ _ _ _ c.loop-i.invariant c.loop-i-test.false).0
