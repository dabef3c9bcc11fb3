-- The rows that reading the value leaves declare what the attribute says, and its contents lie from the fill on.
use Rattle.attributes.proofs.InlineLaws as laws
use native.Mathlib.Omega.{arith}
use borrow.Author.Rules.{rules}
use Rattle.attributes.proofs.inline.merge_style_attribute.Goals as goal

pub overflow_mul-read : goal.overflow_mul-read
overflow_mul-read c = search (rules, laws.rows-few _ _ c.args.value.now _ _ _ _ c.requires c.parse_style_attribute-read.ensures.stores_after)

pub slice_bounds-as_chunks-end : goal.slice_bounds-as_chunks-end
slice_bounds-as_chunks-end c = search (rules, laws.rows-in _ _ c.args.value.now _ _ _ _ c.requires c.parse_style_attribute-read.ensures.stores_after)

pub merge_inline_styles-requires : goal.merge_inline_styles-requires
merge_inline_styles-requires c = laws.style-rows _ _ c.args.value.now _ _ _ _ c.requires c.parse_style_attribute-read.ensures.stores_after (laws.rows-counted _ _ c.args.value.now _ _ _ _ c.requires c.parse_style_attribute-read.ensures.stores_after) c.as_chunks.ensures.front

pub overflow_add-result : goal.overflow_add-result
overflow_add-result c = omega (arith, laws.fill-fits _ _ c.args.value.now _ _ _ _ c.requires c.parse_style_attribute-read.ensures.stores_after)

pub returns-clause-out_after : goal.returns-clause-out_after
returns-clause-out_after c = laws.style-merged _ _ c.args.value.now _ _ _ _ c.requires c.parse_style_attribute-read.ensures.stores_after (laws.rows-counted _ _ c.args.value.now _ _ _ _ c.requires c.parse_style_attribute-read.ensures.stores_after) c.as_chunks.ensures.front _ _ _ c.merge_inline_styles.ensures

pub returns-clause-value : goal.returns-clause-value
returns-clause-value c = laws.fill-behind _ _ c.args.value.now _ _ _ _ c.requires c.parse_style_attribute-read.ensures.stores_after

pub returns-clause-texts_after : goal.returns-clause-texts_after
returns-clause-texts_after c = laws.contents-lie _ _ c.args.value.now _ _ _ _ c.requires c.parse_style_attribute-read.ensures.stores_after

pub returns-clause-kept : goal.returns-clause-kept
returns-clause-kept c =
    let e = laws.style-long c.args.value.now _ _ _ _ _ c.parse_style_attribute-read.ensures.stores_after in
    record { lengths = record { rules = e.0; tokens = search (rules, e.1); brackets = e.2; texts = e.3 }; same = search rules }
