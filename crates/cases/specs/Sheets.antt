-- Computed cases of result 3: where reading stops, what selectors are, where the crate panics, and where a text is cut off.
use Rattle.std.specs.Prelude.{[], ◌∷◌, ◌≡◌, refl, pos, negsuc}
use Rattle.combinators.specs.All as all
use Rattle.combinators.specs.Choice as choice
use Rattle.combinators.specs.Parsed as parsed
use Rattle.combinators.specs.Repeat as repeat
use Rattle.combinators.specs.Word as word
use Rattle.characters.specs.Literal as literal
use Rattle.characters.specs.Trim as trim
use Rattle.characters.specs.Utf8 as utf8
use Rattle.characters.specs.WhiteSpace as white
use Rattle.lexer.specs.Name as name
use Rattle.lexer.specs.Number as number
use Rattle.lexer.specs.Quoted as quoted
use Rattle.lexer.specs.Token as token
use Rattle.lexer.specs.TokenRow as row
use Rattle.lexer.specs.Whitespace as whitespace
use Rattle.decimal.specs.Decimal as decimal
use Rattle.values.specs.Colour as colour
use Rattle.values.specs.Property as property
use Rattle.declarations.specs.Rules as rules
use Rattle.values.specs.Value as value
use Rattle.values.specs.Words as words
use Rattle.syntax.specs.Selector.{star, class, element, child, nth, attribute_equal, none, before, RuleSet}
use Rattle.selectors.specs.Outcome as outcome
use Rattle.selectors.specs.Selector as selector
use Rattle.selectors.specs.SelectorList as selector_list
use Rattle.sheets.specs.Sheet as sheet

-- a rule without selectors and declarations
abbrev bare : RuleSet
bare = record { selectors = []; declarations = []; start = 0 }

-- a rule eats the white space behind it, an at-rule does not; white space before what is not read is not read
test-stops :
    (sheet.sheet_of (literal.text "{} ") ≡ outcome.reads 3 (bare ∷ []))
    × (sheet.sheet_of (literal.text "@x; ") ≡ outcome.reads 3 [])
    × (sheet.sheet_of (literal.text " ") ≡ outcome.reads 0 [])
    × (sheet.sheet_of (literal.text "@x{};") ≡ outcome.reads 4 [])
    × (sheet.sheet_of (literal.text "@x{é}") ≡ outcome.reads 3 [])
unfolding outcome.on_outcome outcome.behind outcome.parsed outcome.or_else selector.class_of selector.hash_of selector.closed selector.quoted_from selector.quoted_of selector.value_of selector.attr_of selector.is_minus selector.is_sign selector.signed selector.converted selector.both_of selector.just_a selector.just_b selector.worded selector.nth_of selector.nth_args_of selector.pseudo_class_of selector.marked selector.blank_of selector.component_of selector.components_of selector.components_from selector.some_of selector.with_element_of selector.without_element_of selector.body_of selector.without_blank selector.pseudo_of selector.pseudo_taken selector.selector_of sheet.spaced selector_list.more_selectors selector_list.more_from selector_list.selectors_of sheet.before_end sheet.past_semicolon sheet.block_of sheet.ruleset_of sheet.statement_end sheet.at_rule_of sheet.statements_of sheet.moved_by sheet.sheet_from sheet.sheet_of choice.pick choice.or choice.and choice.is choice.within parsed.on_parsed parsed.behind parsed.or_else parsed.taken repeat.took repeat.many repeat.texts word.starts_with word.same_text literal.text trim.white_of trim.white_taken trim.word_of trim.word_taken utf8.is_scalar utf8.or_replacement utf8.continuation utf8.utf8 utf8.is_continuation utf8.lead_of utf8.two utf8.three utf8.four utf8.scalar_tail utf8.scalar_by utf8.scalar_of utf8.taken_of utf8.scalar_taken utf8.valid utf8.encode all.member white.is_white_space white.up_from white.numbers white.in_ranges name.is_nmstart name.is_nmchar name.lower name.folded_char name.is_hex_digit name.hex_digit name.hex_run name.hex_count name.hex_value name.behind_one name.escaped_of name.ident_escape_of name.nmstart_of name.nmchar_of name.bytes_of name.char_taken name.char_text name.chars_end name.chars_text name.name_from name.dash name.name_of name.ident_of name.chars_of name.identstring_of name.name_answer name.name_text number.is_digit number.one_digit number.digits number.decimal number.unsigned number.sign number.signed number.number quoted.escaped_byte quoted.quoted_of quoted.text_of quoted.quoted_taken quoted.quoted_text quoted.string_end quoted.string_text token.numeric_from token.numeric_of token.ident_like_of token.string_from token.is_quote token.string_of token.is_ident_start token.mark_of token.hash_of token.plus_of token.minus_of token.less_of token.token_with token.token_at token.token_of token.coded token.text_of token.token_answer token.token_text token.lexed_answer token.or_delim row.columns_of row.word row.row_of row.token_row row.token_from whitespace.comment_end whitespace.comment_of whitespace.is_whitespace whitespace.whitespace_item whitespace.skip_whitespace decimal.digit decimal.number decimal.digits decimal.numerator decimal.denominator decimal.rounds_to_zero colour.rgb colour.all_of colour.numeral colour.without_plus colour.digits_in colour.parse_u8 colour.parse_hex colour.three_digits colour.six_digits colour.hash_colour colour.three_numbers colour.rgb_of colour.rgb_colour colour.colour_of colour.behind_comma colour.background_of property.unsigned_zero property.number_zero property.any_of property.height_of property.first_word property.overflow_of property.display_of property.white_space_of property.content_of property.decl_of rules.colon_behind rules.property_of rules.value_behind rules.declaration_of rules.starts_at rules.more_rules rules.declarations_of value.bracket_of value.closing value.ending value.step_of value.stop value.cons value.on_step value.scan value.statement_of value.tokens_of value.is_mark value.marked value.value_from value.value_of words.is_word words.is_delim words.lookup words.on_found
test-stops = (refl, refl, refl, refl, refl)

-- star swallows blanks on both sides, `>` at either end stays, a blank before a pseudo-element goes
test-selectors :
    (selector.selector_of (literal.text "a * b") ≡ outcome.reads 5 (record { components = element (literal.text "b") ∷ star ∷ element (literal.text "a") ∷ []; pseudo = none }))
    × (selector.selector_of (literal.text ">p") ≡ outcome.reads 2 (record { components = element (literal.text "p") ∷ child ∷ []; pseudo = none }))
    × (selector.selector_of (literal.text "p ::before") ≡ outcome.reads 10 (record { components = element (literal.text "p") ∷ []; pseudo = before }))
    × (selector.selector_of (literal.text ".K[ a=b][c=\"D\"]") ≡ outcome.reads 15 (record { components = attribute_equal (literal.text "c") (literal.text "D") ∷ attribute_equal (literal.text "a") (literal.text "b") ∷ class (literal.text "k") ∷ []; pseudo = none }))
unfolding outcome.on_outcome outcome.behind outcome.parsed outcome.or_else selector.class_of selector.hash_of selector.closed selector.quoted_from selector.quoted_of selector.value_of selector.attr_of selector.is_minus selector.is_sign selector.signed selector.converted selector.both_of selector.just_a selector.just_b selector.worded selector.nth_of selector.nth_args_of selector.pseudo_class_of selector.marked selector.blank_of selector.component_of selector.components_of selector.components_from selector.some_of selector.with_element_of selector.without_element_of selector.body_of selector.without_blank selector.pseudo_of selector.pseudo_taken selector.selector_of sheet.spaced selector_list.more_selectors selector_list.more_from selector_list.selectors_of sheet.before_end sheet.past_semicolon sheet.block_of sheet.ruleset_of sheet.statement_end sheet.at_rule_of sheet.statements_of sheet.moved_by sheet.sheet_from sheet.sheet_of choice.pick choice.or choice.and choice.is choice.within parsed.on_parsed parsed.behind parsed.or_else parsed.taken repeat.took repeat.many repeat.texts word.starts_with word.same_text literal.text trim.white_of trim.white_taken trim.word_of trim.word_taken utf8.is_scalar utf8.or_replacement utf8.continuation utf8.utf8 utf8.is_continuation utf8.lead_of utf8.two utf8.three utf8.four utf8.scalar_tail utf8.scalar_by utf8.scalar_of utf8.taken_of utf8.scalar_taken utf8.valid utf8.encode all.member white.is_white_space white.up_from white.numbers white.in_ranges name.is_nmstart name.is_nmchar name.lower name.folded_char name.is_hex_digit name.hex_digit name.hex_run name.hex_count name.hex_value name.behind_one name.escaped_of name.ident_escape_of name.nmstart_of name.nmchar_of name.bytes_of name.char_taken name.char_text name.chars_end name.chars_text name.name_from name.dash name.name_of name.ident_of name.chars_of name.identstring_of name.name_answer name.name_text number.is_digit number.one_digit number.digits number.decimal number.unsigned number.sign number.signed number.number quoted.escaped_byte quoted.quoted_of quoted.text_of quoted.quoted_taken quoted.quoted_text quoted.string_end quoted.string_text token.numeric_from token.numeric_of token.ident_like_of token.string_from token.is_quote token.string_of token.is_ident_start token.mark_of token.hash_of token.plus_of token.minus_of token.less_of token.token_with token.token_at token.token_of token.coded token.text_of token.token_answer token.token_text token.lexed_answer token.or_delim row.columns_of row.word row.row_of row.token_row row.token_from whitespace.comment_end whitespace.comment_of whitespace.is_whitespace whitespace.whitespace_item whitespace.skip_whitespace decimal.digit decimal.number decimal.digits decimal.numerator decimal.denominator decimal.rounds_to_zero colour.rgb colour.all_of colour.numeral colour.without_plus colour.digits_in colour.parse_u8 colour.parse_hex colour.three_digits colour.six_digits colour.hash_colour colour.three_numbers colour.rgb_of colour.rgb_colour colour.colour_of colour.behind_comma colour.background_of property.unsigned_zero property.number_zero property.any_of property.height_of property.first_word property.overflow_of property.display_of property.white_space_of property.content_of property.decl_of rules.colon_behind rules.property_of rules.value_behind rules.declaration_of rules.starts_at rules.more_rules rules.declarations_of value.bracket_of value.closing value.ending value.step_of value.stop value.cons value.on_step value.scan value.statement_of value.tokens_of value.is_mark value.marked value.value_from value.value_of words.is_word words.is_delim words.lookup words.on_found
test-selectors = (refl, refl, refl, refl)

-- `nth-child`: folded in its name and not in its arguments; a sign binds its digits
test-nth-child :
    (selector.selector_of (literal.text ":NTH-CHILD( odd )") ≡ outcome.reads 17 (record { components = nth (pos 2) (pos 1) ∷ []; pseudo = none }))
    × (selector.selector_of (literal.text ":nth-child(-n +3)") ≡ outcome.reads 17 (record { components = nth (negsuc 0) (pos 3) ∷ []; pseudo = none }))
    × (selector.selector_of (literal.text ":nth-child(2n+ 1)") ≡ outcome.fails)
    × (selector.selector_of (literal.text ":nth-child(ODD)") ≡ outcome.fails)
unfolding outcome.on_outcome outcome.behind outcome.parsed outcome.or_else selector.class_of selector.hash_of selector.closed selector.quoted_from selector.quoted_of selector.value_of selector.attr_of selector.is_minus selector.is_sign selector.signed selector.converted selector.both_of selector.just_a selector.just_b selector.worded selector.nth_of selector.nth_args_of selector.pseudo_class_of selector.marked selector.blank_of selector.component_of selector.components_of selector.components_from selector.some_of selector.with_element_of selector.without_element_of selector.body_of selector.without_blank selector.pseudo_of selector.pseudo_taken selector.selector_of sheet.spaced selector_list.more_selectors selector_list.more_from selector_list.selectors_of sheet.before_end sheet.past_semicolon sheet.block_of sheet.ruleset_of sheet.statement_end sheet.at_rule_of sheet.statements_of sheet.moved_by sheet.sheet_from sheet.sheet_of choice.pick choice.or choice.and choice.is choice.within parsed.on_parsed parsed.behind parsed.or_else parsed.taken repeat.took repeat.many repeat.texts word.starts_with word.same_text literal.text trim.white_of trim.white_taken trim.word_of trim.word_taken utf8.is_scalar utf8.or_replacement utf8.continuation utf8.utf8 utf8.is_continuation utf8.lead_of utf8.two utf8.three utf8.four utf8.scalar_tail utf8.scalar_by utf8.scalar_of utf8.taken_of utf8.scalar_taken utf8.valid utf8.encode all.member white.is_white_space white.up_from white.numbers white.in_ranges name.is_nmstart name.is_nmchar name.lower name.folded_char name.is_hex_digit name.hex_digit name.hex_run name.hex_count name.hex_value name.behind_one name.escaped_of name.ident_escape_of name.nmstart_of name.nmchar_of name.bytes_of name.char_taken name.char_text name.chars_end name.chars_text name.name_from name.dash name.name_of name.ident_of name.chars_of name.identstring_of name.name_answer name.name_text number.is_digit number.one_digit number.digits number.decimal number.unsigned number.sign number.signed number.number quoted.escaped_byte quoted.quoted_of quoted.text_of quoted.quoted_taken quoted.quoted_text quoted.string_end quoted.string_text token.numeric_from token.numeric_of token.ident_like_of token.string_from token.is_quote token.string_of token.is_ident_start token.mark_of token.hash_of token.plus_of token.minus_of token.less_of token.token_with token.token_at token.token_of token.coded token.text_of token.token_answer token.token_text token.lexed_answer token.or_delim row.columns_of row.word row.row_of row.token_row row.token_from whitespace.comment_end whitespace.comment_of whitespace.is_whitespace whitespace.whitespace_item whitespace.skip_whitespace decimal.digit decimal.number decimal.digits decimal.numerator decimal.denominator decimal.rounds_to_zero colour.rgb colour.all_of colour.numeral colour.without_plus colour.digits_in colour.parse_u8 colour.parse_hex colour.three_digits colour.six_digits colour.hash_colour colour.three_numbers colour.rgb_of colour.rgb_colour colour.colour_of colour.behind_comma colour.background_of property.unsigned_zero property.number_zero property.any_of property.height_of property.first_word property.overflow_of property.display_of property.white_space_of property.content_of property.decl_of rules.colon_behind rules.property_of rules.value_behind rules.declaration_of rules.starts_at rules.more_rules rules.declarations_of value.bracket_of value.closing value.ending value.step_of value.stop value.cons value.on_step value.scan value.statement_of value.tokens_of value.is_mark value.marked value.value_from value.value_of words.is_word words.is_delim words.lookup words.on_found
test-nth-child = (refl, refl, refl, refl)

-- digits above 2147483647, a before b, also where no `)` follows; the place is the byte of the sheet
test-panics :
    (sheet.sheet_of (literal.text "p{}q:nth-child(2147483648") ≡ outcome.panics 15)
    × (sheet.sheet_of (literal.text ":nth-child(2147483647){}") ≡ outcome.reads 24 (record { selectors = record { components = nth (pos 0) (pos 2147483647) ∷ []; pseudo = none } ∷ []; declarations = []; start = 0 } ∷ []))
    × (sheet.sheet_of (literal.text ":nth-child(-9999999999n+9999999999)") ≡ outcome.panics 12)
    × (sheet.sheet_of (literal.text ":nth-child(5 9999999999)") ≡ outcome.reads 0 [])
unfolding outcome.on_outcome outcome.behind outcome.parsed outcome.or_else selector.class_of selector.hash_of selector.closed selector.quoted_from selector.quoted_of selector.value_of selector.attr_of selector.is_minus selector.is_sign selector.signed selector.converted selector.both_of selector.just_a selector.just_b selector.worded selector.nth_of selector.nth_args_of selector.pseudo_class_of selector.marked selector.blank_of selector.component_of selector.components_of selector.components_from selector.some_of selector.with_element_of selector.without_element_of selector.body_of selector.without_blank selector.pseudo_of selector.pseudo_taken selector.selector_of sheet.spaced selector_list.more_selectors selector_list.more_from selector_list.selectors_of sheet.before_end sheet.past_semicolon sheet.block_of sheet.ruleset_of sheet.statement_end sheet.at_rule_of sheet.statements_of sheet.moved_by sheet.sheet_from sheet.sheet_of choice.pick choice.or choice.and choice.is choice.within parsed.on_parsed parsed.behind parsed.or_else parsed.taken repeat.took repeat.many repeat.texts word.starts_with word.same_text literal.text trim.white_of trim.white_taken trim.word_of trim.word_taken utf8.is_scalar utf8.or_replacement utf8.continuation utf8.utf8 utf8.is_continuation utf8.lead_of utf8.two utf8.three utf8.four utf8.scalar_tail utf8.scalar_by utf8.scalar_of utf8.taken_of utf8.scalar_taken utf8.valid utf8.encode all.member white.is_white_space white.up_from white.numbers white.in_ranges name.is_nmstart name.is_nmchar name.lower name.folded_char name.is_hex_digit name.hex_digit name.hex_run name.hex_count name.hex_value name.behind_one name.escaped_of name.ident_escape_of name.nmstart_of name.nmchar_of name.bytes_of name.char_taken name.char_text name.chars_end name.chars_text name.name_from name.dash name.name_of name.ident_of name.chars_of name.identstring_of name.name_answer name.name_text number.is_digit number.one_digit number.digits number.decimal number.unsigned number.sign number.signed number.number quoted.escaped_byte quoted.quoted_of quoted.text_of quoted.quoted_taken quoted.quoted_text quoted.string_end quoted.string_text token.numeric_from token.numeric_of token.ident_like_of token.string_from token.is_quote token.string_of token.is_ident_start token.mark_of token.hash_of token.plus_of token.minus_of token.less_of token.token_with token.token_at token.token_of token.coded token.text_of token.token_answer token.token_text token.lexed_answer token.or_delim row.columns_of row.word row.row_of row.token_row row.token_from whitespace.comment_end whitespace.comment_of whitespace.is_whitespace whitespace.whitespace_item whitespace.skip_whitespace decimal.digit decimal.number decimal.digits decimal.numerator decimal.denominator decimal.rounds_to_zero colour.rgb colour.all_of colour.numeral colour.without_plus colour.digits_in colour.parse_u8 colour.parse_hex colour.three_digits colour.six_digits colour.hash_colour colour.three_numbers colour.rgb_of colour.rgb_colour colour.colour_of colour.behind_comma colour.background_of property.unsigned_zero property.number_zero property.any_of property.height_of property.first_word property.overflow_of property.display_of property.white_space_of property.content_of property.decl_of rules.colon_behind rules.property_of rules.value_behind rules.declaration_of rules.starts_at rules.more_rules rules.declarations_of value.bracket_of value.closing value.ending value.step_of value.stop value.cons value.on_step value.scan value.statement_of value.tokens_of value.is_mark value.marked value.value_from value.value_of words.is_word words.is_delim words.lookup words.on_found
test-panics = (refl, refl, refl, refl)

-- `[name=` at the end of the text does not read, as `[name` does not: the rules before it stay, and reading stops before its rule
test-cut :
    (sheet.sheet_of (literal.text "[a=") ≡ outcome.reads 0 [])
    × (sheet.sheet_of (literal.text "p{}q[a=") ≡ outcome.reads 3 (record { selectors = record { components = element (literal.text "p") ∷ []; pseudo = none } ∷ []; declarations = []; start = 0 } ∷ []))
    × (sheet.sheet_of (literal.text "p{} [ a\\62 =") ≡ outcome.reads 4 (record { selectors = record { components = element (literal.text "p") ∷ []; pseudo = none } ∷ []; declarations = []; start = 0 } ∷ []))
unfolding outcome.on_outcome outcome.behind outcome.parsed outcome.or_else selector.class_of selector.hash_of selector.closed selector.quoted_from selector.quoted_of selector.value_of selector.attr_of selector.is_minus selector.is_sign selector.signed selector.converted selector.both_of selector.just_a selector.just_b selector.worded selector.nth_of selector.nth_args_of selector.pseudo_class_of selector.marked selector.blank_of selector.component_of selector.components_of selector.components_from selector.some_of selector.with_element_of selector.without_element_of selector.body_of selector.without_blank selector.pseudo_of selector.pseudo_taken selector.selector_of sheet.spaced selector_list.more_selectors selector_list.more_from selector_list.selectors_of sheet.before_end sheet.past_semicolon sheet.block_of sheet.ruleset_of sheet.statement_end sheet.at_rule_of sheet.statements_of sheet.moved_by sheet.sheet_from sheet.sheet_of choice.pick choice.or choice.and choice.is choice.within parsed.on_parsed parsed.behind parsed.or_else parsed.taken repeat.took repeat.many repeat.texts word.starts_with word.same_text literal.text trim.white_of trim.white_taken trim.word_of trim.word_taken utf8.is_scalar utf8.or_replacement utf8.continuation utf8.utf8 utf8.is_continuation utf8.lead_of utf8.two utf8.three utf8.four utf8.scalar_tail utf8.scalar_by utf8.scalar_of utf8.taken_of utf8.scalar_taken utf8.valid utf8.encode all.member white.is_white_space white.up_from white.numbers white.in_ranges name.is_nmstart name.is_nmchar name.lower name.folded_char name.is_hex_digit name.hex_digit name.hex_run name.hex_count name.hex_value name.behind_one name.escaped_of name.ident_escape_of name.nmstart_of name.nmchar_of name.bytes_of name.char_taken name.char_text name.chars_end name.chars_text name.name_from name.dash name.name_of name.ident_of name.chars_of name.identstring_of name.name_answer name.name_text number.is_digit number.one_digit number.digits number.decimal number.unsigned number.sign number.signed number.number quoted.escaped_byte quoted.quoted_of quoted.text_of quoted.quoted_taken quoted.quoted_text quoted.string_end quoted.string_text token.numeric_from token.numeric_of token.ident_like_of token.string_from token.is_quote token.string_of token.is_ident_start token.mark_of token.hash_of token.plus_of token.minus_of token.less_of token.token_with token.token_at token.token_of token.coded token.text_of token.token_answer token.token_text token.lexed_answer token.or_delim row.columns_of row.word row.row_of row.token_row row.token_from whitespace.comment_end whitespace.comment_of whitespace.is_whitespace whitespace.whitespace_item whitespace.skip_whitespace decimal.digit decimal.number decimal.digits decimal.numerator decimal.denominator decimal.rounds_to_zero colour.rgb colour.all_of colour.numeral colour.without_plus colour.digits_in colour.parse_u8 colour.parse_hex colour.three_digits colour.six_digits colour.hash_colour colour.three_numbers colour.rgb_of colour.rgb_colour colour.colour_of colour.behind_comma colour.background_of property.unsigned_zero property.number_zero property.any_of property.height_of property.first_word property.overflow_of property.display_of property.white_space_of property.content_of property.decl_of rules.colon_behind rules.property_of rules.value_behind rules.declaration_of rules.starts_at rules.more_rules rules.declarations_of value.bracket_of value.closing value.ending value.step_of value.stop value.cons value.on_step value.scan value.statement_of value.tokens_of value.is_mark value.marked value.value_from value.value_of words.is_word words.is_delim words.lookup words.on_found
test-cut = (refl, refl, refl)
