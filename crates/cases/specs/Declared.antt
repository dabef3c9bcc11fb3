-- Computed cases of results 2 and 4: what declarations and styles are where one would guess otherwise.
use Rattle.std.specs.Prelude.{true, false, [], ◌∷◌, ◌≡◌, refl}
use Rattle.combinators.specs.All as all
use Rattle.combinators.specs.Choice as choice
use Rattle.combinators.specs.Parsed as parsed
use Rattle.combinators.specs.Repeat as repeat
use Rattle.combinators.specs.Word as word
use Rattle.characters.specs.Literal as literal
use Rattle.characters.specs.Trim as trim
use Rattle.characters.specs.Utf8 as utf8
use Rattle.characters.specs.WhiteSpace as white
use Rattle.lexer.specs.Name as name
use Rattle.lexer.specs.Number as number
use Rattle.lexer.specs.Quoted as quoted
use Rattle.lexer.specs.Token as token
use Rattle.lexer.specs.TokenRow as row
use Rattle.lexer.specs.Whitespace as whitespace
use Rattle.decimal.specs.Decimal as decimal
use Rattle.declarations.specs.Attribute as attribute
use Rattle.values.specs.Colour as colour
use Rattle.values.specs.Property as property
use Rattle.declarations.specs.Rules as rules
use Rattle.values.specs.Value as value
use Rattle.values.specs.Words as words
use Rattle.declarations.specs.Styles as styles
use Rattle.syntax.specs.Declaration.{normal, color, content, unknown}
use Rattle.syntax.specs.Style as style

-- declarations stop at `;;`, and at a blank before ';'
test-stops : ((rules.declarations_of (literal.text "color:red;;color:blue")).taken ≡ 9) × ((rules.declarations_of (literal.text "color:red ;color:blue")).taken ≡ 9)
unfolding choice.pick choice.or choice.and choice.is choice.within parsed.on_parsed parsed.behind parsed.or_else parsed.taken repeat.took repeat.many repeat.texts word.starts_with word.same_text literal.text trim.white_of trim.white_taken trim.trimmed_start trim.word_of trim.word_taken utf8.is_scalar utf8.or_replacement utf8.continuation utf8.utf8 utf8.is_continuation utf8.lead_of utf8.two utf8.three utf8.four utf8.scalar_tail utf8.scalar_by utf8.scalar_of utf8.taken_of utf8.scalar_taken utf8.valid utf8.encode all.member white.is_white_space white.up_from white.numbers white.in_ranges name.is_nmstart name.is_nmchar name.lower name.folded_char name.is_hex_digit name.hex_digit name.hex_run name.hex_count name.hex_value name.behind_one name.escaped_of name.ident_escape_of name.nmstart_of name.nmchar_of name.bytes_of name.char_taken name.char_text name.chars_end name.chars_text name.name_from name.dash name.name_of name.ident_of name.chars_of name.identstring_of name.name_answer name.name_text number.is_digit number.one_digit number.digits number.decimal number.unsigned number.sign number.signed number.number quoted.escaped_byte quoted.quoted_of quoted.text_of quoted.quoted_taken quoted.quoted_text quoted.string_end quoted.string_text token.numeric_from token.numeric_of token.ident_like_of token.string_from token.is_quote token.string_of token.is_ident_start token.mark_of token.hash_of token.plus_of token.minus_of token.less_of token.token_with token.token_at token.token_of token.coded token.text_of token.token_answer token.token_text token.lexed_answer token.or_delim row.columns_of row.word row.row_of row.token_row row.token_from whitespace.comment_end whitespace.comment_of whitespace.is_whitespace whitespace.whitespace_item whitespace.skip_whitespace decimal.digit decimal.number decimal.digits decimal.numerator decimal.denominator decimal.rounds_to_zero attribute.style_attribute attribute.all_white attribute.trimmed_end attribute.trimmed attribute.pairs attribute.faulty_colour attribute.or_faulty attribute.colour_attribute colour.rgb colour.all_of colour.numeral colour.without_plus colour.digits_in colour.parse_u8 colour.parse_hex colour.three_digits colour.six_digits colour.hash_colour colour.three_numbers colour.rgb_of colour.rgb_colour colour.colour_of colour.behind_comma colour.background_of property.unsigned_zero property.number_zero property.any_of property.height_of property.first_word property.overflow_of property.display_of property.white_space_of property.content_of property.decl_of rules.colon_behind rules.property_of rules.value_behind rules.declaration_of rules.starts_at rules.more_rules rules.declarations_of value.bracket_of value.closing value.ending value.step_of value.stop value.cons value.on_step value.scan value.statement_of value.tokens_of value.is_mark value.marked value.value_from value.value_of words.is_word words.is_delim words.lookup words.on_found styles.one styles.style_of styles.hides styles.hides_overflow styles.zero_height styles.any_decl styles.own_styles styles.first_zero styles.styles_of
test-stops = (refl, refl)

-- `background:rgb(1,2,3)` is unknown, since it is decided behind the last comma; a declaration starts at its name
test-declared : ((rules.declarations_of (literal.text " background:rgb(1,2,3)")).declarations
    ≡ record { decl = unknown (literal.text "background"); important = false; start = 1 } ∷ [])
    × ((rules.declarations_of (literal.text "color: #f00 ! IMPORTANT")).declarations
    ≡ record { decl = color (colour.rgb 255 0 0); important = true; start = 0 } ∷ [])
unfolding choice.pick choice.or choice.and choice.is choice.within parsed.on_parsed parsed.behind parsed.or_else parsed.taken repeat.took repeat.many repeat.texts word.starts_with word.same_text literal.text trim.white_of trim.white_taken trim.trimmed_start trim.word_of trim.word_taken utf8.is_scalar utf8.or_replacement utf8.continuation utf8.utf8 utf8.is_continuation utf8.lead_of utf8.two utf8.three utf8.four utf8.scalar_tail utf8.scalar_by utf8.scalar_of utf8.taken_of utf8.scalar_taken utf8.valid utf8.encode all.member white.is_white_space white.up_from white.numbers white.in_ranges name.is_nmstart name.is_nmchar name.lower name.folded_char name.is_hex_digit name.hex_digit name.hex_run name.hex_count name.hex_value name.behind_one name.escaped_of name.ident_escape_of name.nmstart_of name.nmchar_of name.bytes_of name.char_taken name.char_text name.chars_end name.chars_text name.name_from name.dash name.name_of name.ident_of name.chars_of name.identstring_of name.name_answer name.name_text number.is_digit number.one_digit number.digits number.decimal number.unsigned number.sign number.signed number.number quoted.escaped_byte quoted.quoted_of quoted.text_of quoted.quoted_taken quoted.quoted_text quoted.string_end quoted.string_text token.numeric_from token.numeric_of token.ident_like_of token.string_from token.is_quote token.string_of token.is_ident_start token.mark_of token.hash_of token.plus_of token.minus_of token.less_of token.token_with token.token_at token.token_of token.coded token.text_of token.token_answer token.token_text token.lexed_answer token.or_delim row.columns_of row.word row.row_of row.token_row row.token_from whitespace.comment_end whitespace.comment_of whitespace.is_whitespace whitespace.whitespace_item whitespace.skip_whitespace decimal.digit decimal.number decimal.digits decimal.numerator decimal.denominator decimal.rounds_to_zero attribute.style_attribute attribute.all_white attribute.trimmed_end attribute.trimmed attribute.pairs attribute.faulty_colour attribute.or_faulty attribute.colour_attribute colour.rgb colour.all_of colour.numeral colour.without_plus colour.digits_in colour.parse_u8 colour.parse_hex colour.three_digits colour.six_digits colour.hash_colour colour.three_numbers colour.rgb_of colour.rgb_colour colour.colour_of colour.behind_comma colour.background_of property.unsigned_zero property.number_zero property.any_of property.height_of property.first_word property.overflow_of property.display_of property.white_space_of property.content_of property.decl_of rules.colon_behind rules.property_of rules.value_behind rules.declaration_of rules.starts_at rules.more_rules rules.declarations_of value.bracket_of value.closing value.ending value.step_of value.stop value.cons value.on_step value.scan value.statement_of value.tokens_of value.is_mark value.marked value.value_from value.value_of words.is_word words.is_delim words.lookup words.on_found styles.one styles.style_of styles.hides styles.hides_overflow styles.zero_height styles.any_decl styles.own_styles styles.first_zero styles.styles_of
test-declared = (refl, refl)

-- zero height with hidden overflow adds one unimportant display none at the end, which starts where the first zero height does; `display:block` has no style
test-styles : (attribute.style_attribute (literal.text "height:0!important;overflow:x hidden;display:block")
    ≡ record { value = record { style = style.display_none; start = 0 }; important = false } ∷ [])
    × (attribute.style_attribute (literal.text "overflow:hidden;height:5px;max-height:0;height:0")
    ≡ record { value = record { style = style.display_none; start = 27 }; important = false } ∷ [])
    × (attribute.style_attribute (literal.text "height:0") ≡ [])
unfolding choice.pick choice.or choice.and choice.is choice.within parsed.on_parsed parsed.behind parsed.or_else parsed.taken repeat.took repeat.many repeat.texts word.starts_with word.same_text literal.text trim.white_of trim.white_taken trim.trimmed_start trim.word_of trim.word_taken utf8.is_scalar utf8.or_replacement utf8.continuation utf8.utf8 utf8.is_continuation utf8.lead_of utf8.two utf8.three utf8.four utf8.scalar_tail utf8.scalar_by utf8.scalar_of utf8.taken_of utf8.scalar_taken utf8.valid utf8.encode all.member white.is_white_space white.up_from white.numbers white.in_ranges name.is_nmstart name.is_nmchar name.lower name.folded_char name.is_hex_digit name.hex_digit name.hex_run name.hex_count name.hex_value name.behind_one name.escaped_of name.ident_escape_of name.nmstart_of name.nmchar_of name.bytes_of name.char_taken name.char_text name.chars_end name.chars_text name.name_from name.dash name.name_of name.ident_of name.chars_of name.identstring_of name.name_answer name.name_text number.is_digit number.one_digit number.digits number.decimal number.unsigned number.sign number.signed number.number quoted.escaped_byte quoted.quoted_of quoted.text_of quoted.quoted_taken quoted.quoted_text quoted.string_end quoted.string_text token.numeric_from token.numeric_of token.ident_like_of token.string_from token.is_quote token.string_of token.is_ident_start token.mark_of token.hash_of token.plus_of token.minus_of token.less_of token.token_with token.token_at token.token_of token.coded token.text_of token.token_answer token.token_text token.lexed_answer token.or_delim row.columns_of row.word row.row_of row.token_row row.token_from whitespace.comment_end whitespace.comment_of whitespace.is_whitespace whitespace.whitespace_item whitespace.skip_whitespace decimal.digit decimal.number decimal.digits decimal.numerator decimal.denominator decimal.rounds_to_zero attribute.style_attribute attribute.all_white attribute.trimmed_end attribute.trimmed attribute.pairs attribute.faulty_colour attribute.or_faulty attribute.colour_attribute colour.rgb colour.all_of colour.numeral colour.without_plus colour.digits_in colour.parse_u8 colour.parse_hex colour.three_digits colour.six_digits colour.hash_colour colour.three_numbers colour.rgb_of colour.rgb_colour colour.colour_of colour.behind_comma colour.background_of property.unsigned_zero property.number_zero property.any_of property.height_of property.first_word property.overflow_of property.display_of property.white_space_of property.content_of property.decl_of rules.colon_behind rules.property_of rules.value_behind rules.declaration_of rules.starts_at rules.more_rules rules.declarations_of value.bracket_of value.closing value.ending value.step_of value.stop value.cons value.on_step value.scan value.statement_of value.tokens_of value.is_mark value.marked value.value_from value.value_of words.is_word words.is_delim words.lookup words.on_found styles.one styles.style_of styles.hides styles.hides_overflow styles.zero_height styles.any_decl styles.own_styles styles.first_zero styles.styles_of
test-styles = (refl, refl, refl)

-- a colour attribute may lack its '#', behind White_Space; where the brackets are wrong it does not read
test-attribute : (attribute.colour_attribute (literal.text "\u{a0}00aabb") ≡ words.found (colour.rgb 0 0xaa 0xbb))
    × (attribute.colour_attribute (literal.text "00aabb)") ≡ words.missing)
unfolding choice.pick choice.or choice.and choice.is choice.within parsed.on_parsed parsed.behind parsed.or_else parsed.taken repeat.took repeat.many repeat.texts word.starts_with word.same_text literal.text trim.white_of trim.white_taken trim.trimmed_start trim.word_of trim.word_taken utf8.is_scalar utf8.or_replacement utf8.continuation utf8.utf8 utf8.is_continuation utf8.lead_of utf8.two utf8.three utf8.four utf8.scalar_tail utf8.scalar_by utf8.scalar_of utf8.taken_of utf8.scalar_taken utf8.valid utf8.encode all.member white.is_white_space white.up_from white.numbers white.in_ranges name.is_nmstart name.is_nmchar name.lower name.folded_char name.is_hex_digit name.hex_digit name.hex_run name.hex_count name.hex_value name.behind_one name.escaped_of name.ident_escape_of name.nmstart_of name.nmchar_of name.bytes_of name.char_taken name.char_text name.chars_end name.chars_text name.name_from name.dash name.name_of name.ident_of name.chars_of name.identstring_of name.name_answer name.name_text number.is_digit number.one_digit number.digits number.decimal number.unsigned number.sign number.signed number.number quoted.escaped_byte quoted.quoted_of quoted.text_of quoted.quoted_taken quoted.quoted_text quoted.string_end quoted.string_text token.numeric_from token.numeric_of token.ident_like_of token.string_from token.is_quote token.string_of token.is_ident_start token.mark_of token.hash_of token.plus_of token.minus_of token.less_of token.token_with token.token_at token.token_of token.coded token.text_of token.token_answer token.token_text token.lexed_answer token.or_delim row.columns_of row.word row.row_of row.token_row row.token_from whitespace.comment_end whitespace.comment_of whitespace.is_whitespace whitespace.whitespace_item whitespace.skip_whitespace decimal.digit decimal.number decimal.digits decimal.numerator decimal.denominator decimal.rounds_to_zero attribute.style_attribute attribute.all_white attribute.trimmed_end attribute.trimmed attribute.pairs attribute.faulty_colour attribute.or_faulty attribute.colour_attribute colour.rgb colour.all_of colour.numeral colour.without_plus colour.digits_in colour.parse_u8 colour.parse_hex colour.three_digits colour.six_digits colour.hash_colour colour.three_numbers colour.rgb_of colour.rgb_colour colour.colour_of colour.behind_comma colour.background_of property.unsigned_zero property.number_zero property.any_of property.height_of property.first_word property.overflow_of property.display_of property.white_space_of property.content_of property.decl_of rules.colon_behind rules.property_of rules.value_behind rules.declaration_of rules.starts_at rules.more_rules rules.declarations_of value.bracket_of value.closing value.ending value.step_of value.stop value.cons value.on_step value.scan value.statement_of value.tokens_of value.is_mark value.marked value.value_from value.value_of words.is_word words.is_delim words.lookup words.on_found styles.one styles.style_of styles.hides styles.hides_overflow styles.zero_height styles.any_decl styles.own_styles styles.first_zero styles.styles_of
test-attribute = (refl, refl)

-- strings of a content are joined; a value ends behind its outermost block; any other word of `white-space` is normal; an attribute's pairs may begin with '+'
test-values : ((rules.declarations_of (literal.text "content:\"a\" \"b\"")).declarations
    ≡ record { decl = content (literal.text "ab"); important = false; start = 0 } ∷ [])
    × (rules.declarations_of (literal.text "a:{b};c:d")
    ≡ record {
      declarations = record { decl = unknown (literal.text "a"); important = false; start = 0 } ∷ record { decl = unknown (literal.text "c"); important = false; start = 6 } ∷ [];
      taken = 9;
    })
    × (attribute.style_attribute (literal.text "white-space:foo") ≡ record { value = record { style = style.white_space normal; start = 0 }; important = false } ∷ [])
    × (attribute.style_attribute (literal.text "background:rgb(1,2,3)") ≡ [])
    × (attribute.colour_attribute (literal.text "+1+2+3") ≡ words.found (colour.rgb 1 2 3))
unfolding choice.pick choice.or choice.and choice.is choice.within parsed.on_parsed parsed.behind parsed.or_else parsed.taken repeat.took repeat.many repeat.texts word.starts_with word.same_text literal.text trim.white_of trim.white_taken trim.trimmed_start trim.word_of trim.word_taken utf8.is_scalar utf8.or_replacement utf8.continuation utf8.utf8 utf8.is_continuation utf8.lead_of utf8.two utf8.three utf8.four utf8.scalar_tail utf8.scalar_by utf8.scalar_of utf8.taken_of utf8.scalar_taken utf8.valid utf8.encode all.member white.is_white_space white.up_from white.numbers white.in_ranges name.is_nmstart name.is_nmchar name.lower name.folded_char name.is_hex_digit name.hex_digit name.hex_run name.hex_count name.hex_value name.behind_one name.escaped_of name.ident_escape_of name.nmstart_of name.nmchar_of name.bytes_of name.char_taken name.char_text name.chars_end name.chars_text name.name_from name.dash name.name_of name.ident_of name.chars_of name.identstring_of name.name_answer name.name_text number.is_digit number.one_digit number.digits number.decimal number.unsigned number.sign number.signed number.number quoted.escaped_byte quoted.quoted_of quoted.text_of quoted.quoted_taken quoted.quoted_text quoted.string_end quoted.string_text token.numeric_from token.numeric_of token.ident_like_of token.string_from token.is_quote token.string_of token.is_ident_start token.mark_of token.hash_of token.plus_of token.minus_of token.less_of token.token_with token.token_at token.token_of token.coded token.text_of token.token_answer token.token_text token.lexed_answer token.or_delim row.columns_of row.word row.row_of row.token_row row.token_from whitespace.comment_end whitespace.comment_of whitespace.is_whitespace whitespace.whitespace_item whitespace.skip_whitespace decimal.digit decimal.number decimal.digits decimal.numerator decimal.denominator decimal.rounds_to_zero attribute.style_attribute attribute.all_white attribute.trimmed_end attribute.trimmed attribute.pairs attribute.faulty_colour attribute.or_faulty attribute.colour_attribute colour.rgb colour.all_of colour.numeral colour.without_plus colour.digits_in colour.parse_u8 colour.parse_hex colour.three_digits colour.six_digits colour.hash_colour colour.three_numbers colour.rgb_of colour.rgb_colour colour.colour_of colour.behind_comma colour.background_of property.unsigned_zero property.number_zero property.any_of property.height_of property.first_word property.overflow_of property.display_of property.white_space_of property.content_of property.decl_of rules.colon_behind rules.property_of rules.value_behind rules.declaration_of rules.starts_at rules.more_rules rules.declarations_of value.bracket_of value.closing value.ending value.step_of value.stop value.cons value.on_step value.scan value.statement_of value.tokens_of value.is_mark value.marked value.value_from value.value_of words.is_word words.is_delim words.lookup words.on_found styles.one styles.style_of styles.hides styles.hides_overflow styles.zero_height styles.any_decl styles.own_styles styles.first_zero styles.styles_of
test-values = (refl, refl, refl, refl, refl)

-- `visibility` is known by one word, in either case; two words, a string, a comma behind it, another word or nothing leave it unknown
test-visibility : (attribute.style_attribute (literal.text "visibility:HIDDEN!important;visibility:visible")
    ≡ record { value = record { style = style.visibility true; start = 0 }; important = true } ∷ record { value = record { style = style.visibility false; start = 28 }; important = false } ∷ [])
    × (attribute.style_attribute (literal.text "visibility:hidden visible;visibility:'hidden';visibility:hidden,;visibility:collapse;visibility:") ≡ [])
    × ((rules.declarations_of (literal.text "visibility:inherit")).declarations ≡ record { decl = unknown (literal.text "visibility"); important = false; start = 0 } ∷ [])
unfolding choice.pick choice.or choice.and choice.is choice.within parsed.on_parsed parsed.behind parsed.or_else parsed.taken repeat.took repeat.many repeat.texts word.starts_with word.same_text literal.text trim.white_of trim.white_taken trim.trimmed_start trim.word_of trim.word_taken utf8.is_scalar utf8.or_replacement utf8.continuation utf8.utf8 utf8.is_continuation utf8.lead_of utf8.two utf8.three utf8.four utf8.scalar_tail utf8.scalar_by utf8.scalar_of utf8.taken_of utf8.scalar_taken utf8.valid utf8.encode all.member white.is_white_space white.up_from white.numbers white.in_ranges name.is_nmstart name.is_nmchar name.lower name.folded_char name.is_hex_digit name.hex_digit name.hex_run name.hex_count name.hex_value name.behind_one name.escaped_of name.ident_escape_of name.nmstart_of name.nmchar_of name.bytes_of name.char_taken name.char_text name.chars_end name.chars_text name.name_from name.dash name.name_of name.ident_of name.chars_of name.identstring_of name.name_answer name.name_text number.is_digit number.one_digit number.digits number.decimal number.unsigned number.sign number.signed number.number quoted.escaped_byte quoted.quoted_of quoted.text_of quoted.quoted_taken quoted.quoted_text quoted.string_end quoted.string_text token.numeric_from token.numeric_of token.ident_like_of token.string_from token.is_quote token.string_of token.is_ident_start token.mark_of token.hash_of token.plus_of token.minus_of token.less_of token.token_at token.token_of token.text_of token.token_answer token.token_text token.lexed_answer token.or_delim row.word row.row_of row.token_row row.token_from whitespace.comment_end whitespace.comment_of whitespace.is_whitespace whitespace.whitespace_item whitespace.skip_whitespace decimal.digit decimal.number decimal.digits decimal.numerator decimal.denominator decimal.rounds_to_zero attribute.style_attribute attribute.all_white attribute.trimmed_end attribute.trimmed attribute.pairs attribute.faulty_colour attribute.or_faulty attribute.colour_attribute colour.rgb colour.all_of colour.numeral colour.without_plus colour.digits_in colour.parse_u8 colour.parse_hex colour.three_digits colour.six_digits colour.hash_colour colour.three_numbers colour.rgb_colour colour.colour_of colour.behind_comma colour.background_of property.unsigned_zero property.number_zero property.any_of property.height_of property.first_word property.overflow_of property.display_of property.white_space_of property.content_of property.visibility_of property.decl_of rules.colon_behind rules.property_of rules.value_behind rules.declaration_of rules.starts_at rules.more_rules rules.declarations_of value.bracket_of value.closing value.ending value.step_of value.stop value.cons value.on_step value.scan value.statement_of value.tokens_of value.is_mark value.marked value.value_from value.value_of words.is_word words.is_delim words.lookup words.on_found styles.one styles.style_of styles.hides styles.hides_overflow styles.zero_height styles.any_decl styles.own_styles styles.first_zero styles.styles_of token.token_with
test-visibility = (refl, refl, refl)
