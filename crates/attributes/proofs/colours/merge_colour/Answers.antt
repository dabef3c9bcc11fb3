-- A colour that was read is merged; where there is none, nothing is said.
use mathlib.Core.Path.{ap}
use lib.ListN.{length}
use borrow.Author.Rules.{rules}
use Rattle.attributes.proofs.ColourLaws as laws
use Rattle.attributes.proofs.colours.merge_colour.Goals as goal

pub returns-in-Some-clause-out_after : goal.returns-in-Some-clause-out_after
returns-in-Some-clause-out_after c = laws.colour-merged c.args.value.now c.args.stores.now.tokens.now c.args.stores.now.brackets.now c.args.stores.now.texts.now c.args.fill c.parse_color_attribute.ensures.work_after _ _ _ _ _ _ c.in-Some.is c.merge_computed_style.ensures

pub returns-in-Some-clause-texts_unchanged : goal.returns-in-Some-clause-texts_unchanged
returns-in-Some-clause-texts_unchanged c = laws.texts-kept c.args.value.now c.args.stores.now.tokens.now c.args.stores.now.brackets.now c.args.stores.now.texts.now c.args.fill c.parse_color_attribute.ensures.work_after

pub returns-in_default-clause-out_after : goal.returns-in_default-clause-out_after
returns-in_default-clause-out_after c = laws.colour-missing c.args.value.now c.args.stores.now.tokens.now c.args.stores.now.brackets.now c.args.stores.now.texts.now c.args.fill c.parse_color_attribute.ensures.work_after _ _ _ _ c.in_default.is

pub returns-in_default-clause-texts_unchanged : goal.returns-in_default-clause-texts_unchanged
returns-in_default-clause-texts_unchanged c = laws.texts-kept c.args.value.now c.args.stores.now.tokens.now c.args.stores.now.brackets.now c.args.stores.now.texts.now c.args.fill c.parse_color_attribute.ensures.work_after

pub returns-in-Some-clause-kept : goal.returns-in-Some-clause-kept
returns-in-Some-clause-kept c =
    let e = laws.colour-long c.args.value.now c.args.stores.now.tokens.now c.args.stores.now.brackets.now c.args.stores.now.texts.now c.args.fill c.parse_color_attribute.ensures.work_after in
    record { lengths = record { rules = ap length c.parse_color_attribute.ensures.rules_unchanged; tokens = e.0; brackets = e.1; texts = e.2 }; same = search rules }

pub returns-in_default-clause-kept : goal.returns-in_default-clause-kept
returns-in_default-clause-kept c =
    let e = laws.colour-long c.args.value.now c.args.stores.now.tokens.now c.args.stores.now.brackets.now c.args.stores.now.texts.now c.args.fill c.parse_color_attribute.ensures.work_after in
    record { lengths = record { rules = ap length c.parse_color_attribute.ensures.rules_unchanged; tokens = e.0; brackets = e.1; texts = e.2 }; same = search rules }
