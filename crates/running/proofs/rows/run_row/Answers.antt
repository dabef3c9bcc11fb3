-- The parent's row is copied to the place of the row, which the step then overwrites.
use mathlib.Core.Path.{◌≡◌}
use mathlib.Core.List.{◌++◌}
use borrow.Author.Rules.{rules}
use lib.ListN.{length, take, drop}
use Rattle.cascade.specs.Row.{style_row_width}
use Rattle.running.proofs.RowSteps as laws
use Rattle.running.proofs.rows.run_row.Goals as goal

pub place_parent-requires : goal.place_parent-requires
place_parent-requires c = laws.place-room c.args.stores.now c.requires

pub slice_bounds-handed-end-2 : goal.slice_bounds-handed-end-2
slice_bounds-handed-end-2 c = laws.attribute-rows-inside c.args.stores.now c.requires _ _ c.first_attribute-first.ensures.value c.attribute_count.ensures.value

pub step-requires : goal.step-requires
step-requires c = laws.step-lent c.args.stores.now c.requires c.first_attribute-first.ensures.value c.attribute_count.ensures.value c.depth_of-depth.ensures

pub returns-clause-texts_after : goal.returns-clause-texts_after
returns-clause-texts_after c =
    let split = c.split_at_mut-own in
    let lent : c.unwrap.result.now ≡ take style_row_width split.result.1.now = search rules in
    let long : length (split.result.0.now ++ (c.step.new.out ++ drop style_row_width split.result.1.now)) ≡ length c.args.rows.now = search rules in
    laws.row-run c.args.stores.now c.requires c.first_attribute-first.ensures.value c.attribute_count.ensures.value c.depth_of-depth.ensures c.place_parent.ensures split.ensures.front split.ensures.back lent c.args.input.settings _ _ _ _ c.step.ensures.texts_after c.step.ensures.kept.within long

pub returns-clause-upper_bound : goal.returns-clause-upper_bound
returns-clause-upper_bound c =
    let split = c.split_at_mut-own in
    let lent : c.unwrap.result.now ≡ take style_row_width split.result.1.now = search rules in
    laws.row-filled c.args.stores.now c.requires c.first_attribute-first.ensures.value c.attribute_count.ensures.value c.depth_of-depth.ensures c.place_parent.ensures split.ensures.front split.ensures.back lent c.args.input.settings _ _ _ _ c.step.ensures.texts_after c.step.ensures.kept.within
