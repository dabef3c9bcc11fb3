-- The P cases of document 01: one theorem for the whole list. Each case is computed; the line below names what is computed with.
use mathlib.Core.Path.{refl}
use Rattle.combinators.specs.All as all
use Rattle.combinators.specs.Choice as choice
use Rattle.combinators.specs.Parsed as parsed
use Rattle.combinators.specs.Part as part
use Rattle.combinators.specs.Repeat as repeat
use Rattle.combinators.specs.Word as word
use Rattle.characters.specs.Literal as literal
use Rattle.characters.specs.Trim as trim
use Rattle.characters.specs.Utf8 as utf8
use Rattle.characters.specs.WhiteSpace as white
use Rattle.lexer.specs.Name as name
use Rattle.lexer.specs.Number as number
use Rattle.lexer.specs.Quoted as quoted
use Rattle.lexer.specs.Token as token
use Rattle.lexer.specs.TokenRow as row
use Rattle.lexer.specs.Whitespace as whitespace
use Rattle.decimal.specs.Decimal as decimal
use Rattle.syntax.specs.Layout as layout
use Rattle.syntax.specs.RuleLayout as rule_layout
use Rattle.syntax.specs.Stream as stream
use Rattle.values.specs.Colour as colour
use Rattle.values.specs.Property as property
use Rattle.values.specs.Value as value
use Rattle.values.specs.Words as words
use Rattle.declarations.specs.Attribute as attribute
use Rattle.declarations.specs.Rules as rules
use Rattle.declarations.specs.Styles as styles
use Rattle.selectors.specs.Outcome as outcome
use Rattle.selectors.specs.Selector as selector
use Rattle.selectors.specs.SelectorList as selector_list
use Rattle.sheets.specs.Sheet as sheet
use Rattle.cascade.specs.Specificity as specificity
use Rattle.cascade.specs.Slot as slot
use Rattle.cascade.specs.Record as style
use Rattle.cascade.specs.Row as style_row
use Rattle.matching.specs.Matches as matching
use Rattle.matching.specs.Nth as nth
use Rattle.matching.specs.Texts as texts
use Rattle.matching.specs.Specificity as counts
use Rattle.styles.specs.Said as said
use Rattle.styles.specs.Computed as computed
use Rattle.styles.specs.StyleCall as call
use Rattle.compiled.specs.Number as compiled
use Rattle.cases.specs.Styled.{rules_of, sheets_of, element_of, having}
use Rattle.cases.specs.Proved.{All, cases, tiny_height, selects}

-- every case of the list holds
pub all-proved : All cases
unfolding tiny_height selects rules_of sheets_of element_of having compiled.number_bytes compiled.group_bytes choice.pick choice.or choice.and choice.is choice.within parsed.on_parsed parsed.behind parsed.or_else parsed.taken repeat.took repeat.many repeat.texts word.starts_with word.same_text literal.text trim.white_of trim.white_taken trim.trimmed_start trim.word_of trim.word_taken utf8.is_scalar utf8.or_replacement utf8.continuation utf8.utf8 utf8.is_continuation utf8.lead_of utf8.two utf8.three utf8.four utf8.scalar_tail utf8.scalar_by utf8.scalar_of utf8.taken_of utf8.scalar_taken utf8.valid utf8.encode all.member white.is_white_space white.up_from white.numbers white.in_ranges name.is_nmstart name.is_nmchar name.lower name.folded_char name.is_hex_digit name.hex_digit name.hex_run name.hex_count name.hex_value name.behind_one name.escaped_of name.ident_escape_of name.nmstart_of name.nmchar_of name.bytes_of name.char_taken name.char_text name.chars_end name.chars_text name.name_from name.dash name.name_of name.ident_of name.chars_of name.identstring_of name.name_answer name.name_text number.is_digit number.one_digit number.digits number.decimal number.unsigned number.sign number.signed number.number quoted.escaped_byte quoted.quoted_of quoted.text_of quoted.quoted_taken quoted.quoted_text quoted.string_end quoted.string_text token.numeric_from token.numeric_of token.ident_like_of token.string_from token.is_quote token.string_of token.is_ident_start token.mark_of token.hash_of token.plus_of token.minus_of token.less_of token.token_with token.token_at token.token_of token.coded token.text_of token.token_answer token.token_text token.lexed_answer token.or_delim row.columns_of row.word row.row_of row.token_row row.mark_from row.token_from row.token_in whitespace.comment_end whitespace.comment_of whitespace.is_whitespace whitespace.whitespace_item whitespace.skip_whitespace decimal.digit decimal.number decimal.digits decimal.numerator decimal.denominator decimal.rounds_to_zero layout.flag layout.flag_of layout.white_space_number layout.colour_number layout.style_text_of layout.style_text layout.style_row layout.style_texts rule_layout.pseudo_number stream.texts_many part.part colour.rgb colour.all_of colour.numeral colour.without_plus colour.digits_in colour.parse_u8 colour.parse_hex colour.three_digits colour.six_digits colour.hash_colour colour.three_numbers colour.rgb_of colour.rgb_colour colour.colour_of colour.behind_comma colour.background_of property.unsigned_zero property.number_zero property.any_of property.height_of property.first_word property.overflow_of property.display_of property.white_space_of property.content_of property.decl_of value.bracket_of value.closing value.ending value.step_of value.stop value.cons value.on_step value.scan value.statement_of value.tokens_of value.is_mark value.marked value.value_from value.value_of words.is_word words.is_delim words.lookup words.on_found words.row_at attribute.style_attribute attribute.all_white attribute.trimmed_end attribute.trimmed attribute.pairs attribute.faulty_colour attribute.or_faulty attribute.colour_attribute rules.colon_behind rules.property_of rules.value_behind rules.declaration_of rules.starts_at rules.more_rules rules.declarations_of styles.one styles.style_of styles.hides styles.hides_overflow styles.zero_height styles.any_decl styles.own_styles styles.first_zero styles.styles_of outcome.on_outcome outcome.behind outcome.parsed outcome.or_else selector.class_of selector.hash_of selector.closed selector.quoted_from selector.quoted_of selector.value_of selector.attr_of selector.is_minus selector.is_sign selector.signed selector.converted selector.both_of selector.just_a selector.just_b selector.worded selector.nth_of selector.nth_args_of selector.pseudo_class_of selector.marked selector.blank_of selector.component_of selector.components_of selector.components_from selector.some_of selector.with_element_of selector.without_element_of selector.body_of selector.without_blank selector.pseudo_of selector.pseudo_taken selector.selector_of sheet.spaced selector_list.more_selectors selector_list.more_from selector_list.selectors_of sheet.before_end sheet.past_semicolon sheet.block_of sheet.ruleset_of sheet.statement_end sheet.at_rule_of sheet.statements_of sheet.moved_by sheet.moved_to sheet.sheet_from sheet.sheet_of specificity.specificity_of specificity.no_specificity specificity.inline_specificity specificity.sum specificity.less_then specificity.less_by_selector specificity.less slot.held_by_importance slot.held_by_origin slot.held_against slot.maybe_update slot.rank slot.held_in_book slot.book_update slot.fill_update style.record_in style.slot_of style.slot_in style.empty_record style.empty_style style.update_record style.update_style style.is_named style.merge_by style.inherit style.handed_by style.handed_slot style.handed_on style.fill_record style.fill_pseudo style.finish_by style.from_rule style.from_attribute style.crate_declared style.colour_attributes style.style_attributes style.book_declared style_row.slot_numbers style_row.slots_numbers style_row.record_numbers style_row.row_of style_row.read_slot style_row.slot_at style_row.windows style_row.record_at style_row.style_at matching.any_attribute matching.is_named matching.is_class matching.has_class matching.is_id matching.has_id matching.has_attribute matching.first_is matching.attribute_is matching.name_is matching.here matching.on_parent matching.on_ancestors matching.step matching.matches nth.is_zero nth.nth_matches texts.word_length texts.word_among texts.has_word counts.added counts.specificity computed.cascaded computed.sources_along computed.computed_style call.rules_contents call.sheets_contents call.attribute_contents call.inline_contents call.path_contents call.placed_sheets call.placed_from call.placed_along call.call_store call.call_row layout.style_slot_of layout.number_from layout.value_from layout.numbers_from layout.value_numbers layout.row_of_numbers slot.rank_of slot.weaker slot.update_by style.inherit_by style.declared_by style.cascade_by said.rule_styles said.rule_style said.selector_says said.selectors_say said.rules_say said.colour_styles said.attribute_styles said.attribute_style said.attribute_says said.counted_attributes said.sources_from said.meant said.meant_rule said.meant_rules said.attributes_say
all-proved = (refl, (refl, (refl, (refl, (refl, ((refl, refl), ((refl, refl), (refl, ((refl, refl, refl, refl), (refl, (refl, ((refl, refl, refl), tt))))))))))))
