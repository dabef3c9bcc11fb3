-- The declarations are read, their styles are put over the token rows, and the declaration rows are wiped.
use mathlib.Core.Path.{sym}
use native.Mathlib.Omega.{arith}
use lib.Seq.{length-take-le}
use Rattle.declarations.proofs.StyleAttribute as laws
use Rattle.declarations.proofs.Styling as styling
use Rattle.declarations.proofs.attributes.parse_style_attribute.Goals as goal

pub slice_bounds-as_chunks-end : goal.slice_bounds-as_chunks-end
slice_bounds-as_chunks-end c = omega (arith, laws.rows-there c.args.s.now c.args.stores.now.rules.now c.args.stores.now.tokens.now c.args.stores.now.brackets.now c.args.stores.now.texts.now c.args.fill c.requires c.parse_rules-read.ensures.stores_after)

pub slice_bounds-as_chunks-end-2 : goal.slice_bounds-as_chunks-end-2
slice_bounds-as_chunks-end-2 c = sym (length-take-le _ _ (laws.rows-there c.args.s.now c.args.stores.now.rules.now c.args.stores.now.tokens.now c.args.stores.now.brackets.now c.args.stores.now.texts.now c.args.fill c.requires c.parse_rules-read.ensures.stores_after))

pub styles_from_properties-count-requires : goal.styles_from_properties-count-requires
styles_from_properties-count-requires c =
    laws.styles-room c.args.s.now c.args.stores.now.rules.now c.args.stores.now.tokens.now c.args.stores.now.brackets.now c.args.stores.now.texts.now c.args.fill c.requires c.parse_rules-read.ensures.stores_after _
    (styling.rows-counted c.parse_rules-read.result.count _ (laws.rows-there c.args.s.now c.args.stores.now.rules.now c.args.stores.now.tokens.now c.args.stores.now.brackets.now c.args.stores.now.texts.now c.args.fill c.requires c.parse_rules-read.ensures.stores_after) _ c.as_chunks.ensures.front)

pub overflow_mul-numbers : goal.overflow_mul-numbers
overflow_mul-numbers c = omega (arith, laws.count_fits c.args.s.now c.args.stores.now.rules.now c.args.stores.now.tokens.now c.args.stores.now.brackets.now c.args.stores.now.texts.now c.args.fill c.requires c.parse_rules-read.ensures.stores_after)

pub returns-clause-stores_after : goal.returns-clause-stores_after
returns-clause-stores_after c =
    let there = laws.rows-there c.args.s.now c.args.stores.now.rules.now c.args.stores.now.tokens.now c.args.stores.now.brackets.now c.args.stores.now.texts.now c.args.fill c.requires c.parse_rules-read.ensures.stores_after in
    let counted = styling.rows-counted c.parse_rules-read.result.count _ there _ c.as_chunks.ensures.front in
    let left = rw counted at (c.styles_from_properties-count.ensures _ (styling.rows-cut c.parse_rules-read.result.count _ there _ c.as_chunks.ensures.front)) in
    laws.style-left c.args.s.now c.args.stores.now.rules.now c.args.stores.now.tokens.now c.args.stores.now.brackets.now c.args.stores.now.texts.now c.args.fill c.requires c.parse_rules-read.ensures.stores_after left.stored left.counted c.fill_part.ensures
