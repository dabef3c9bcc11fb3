-- Values and the lengths that they are, and what the call leaves, computed.
use Rattle.std.specs.Prelude.{[], ◌∷◌, ◌≡◌, refl, None, Ok, Err, replicate}
use Rattle.combinators.specs.Choice.{pick, or, and, is, within}
use Rattle.combinators.specs.LeastLengths.{stores_suffice}
use Rattle.combinators.specs.Parsed.{on_parsed, behind}
use Rattle.combinators.specs.Refusal.{refused}
use Rattle.combinators.specs.Repeat.{many, texts, took}
use Rattle.combinators.specs.Word.{same_text}
use Rattle.characters.specs.Literal.{text}
use Rattle.characters.specs.Utf8.{utf8, continuation, or_replacement, is_scalar, scalar_of, scalar_by, scalar_tail, lead_of, two, is_continuation, taken_of, valid, scalar_taken}
use Rattle.lexer.specs.Whitespace.{skip_whitespace, whitespace_item, is_whitespace, comment_of, comment_end}
use Rattle.lexer.specs.Name.{ident_of, name_of, name_from, dash, chars_end, chars_text, char_taken, char_text, bytes_of, nmchar_of, nmstart_of, folded_char, ident_escape_of, escaped_of, behind_one, hex_value, hex_count, hex_run, hex_digit, is_hex_digit, lower, is_nmchar, is_nmstart}
use Rattle.lexer.specs.Number.{decimal, digits, one_digit, is_digit, sign}
use Rattle.lexer.specs.Token.{numeric_from}
use Rattle.values.specs.Colour.{numeral}
use Rattle.values.specs.Words.{lookup, on_found}
use Rattle.values.proofs.HeightLaws.{integer_of, fraction_of, unsigned_of}
use Rattle.lengths.specs.Number.{numeric_token, text_start, plus, numeric_of, number, signed, unsigned}
use Rattle.lengths.specs.Length.{measured, length_of, token_length, number_length, dimension_length, with_unit, is_bad, is_too_fine, is_above, is_below, is_negative, decimals, digits_number, ten_thousandths, only_whitespace}
use Rattle.lengths.specs.HeightLength.{height_length, length_left, unchanged, refusal_of, numbers_of}
use Rattle.lengths.specs.declared.answers.Kind.TheVariants.{Units, Em, Ex}
use Rattle.lengths.specs.declared.answers.LengthError.TheVariants.{NotUtf8, BadLength}

-- READINGS 8a: signs, the point, what stands around the token
test-tokens : (length_of (text "1.5px") ≡ measured Units 5715000)
    × (length_of (text " 1.5px/**/ ") ≡ measured Units 5715000)
    × (length_of (text "+ 1.5px") ≡ measured Units 5715000)
    × (length_of (text "+/**/1.5px") ≡ measured Units 5715000)
    × (length_of (text "+-0px") ≡ measured Units 0)
    × (length_of (text "++1pt") ≡ measured Units 5080000)
    × (length_of (text "- 1px") ≡ Ok None)
    × (length_of (text "1.") ≡ Ok None)
    × (length_of (text "1..5") ≡ Ok None)
    × (length_of (text "1.5.5px") ≡ Ok None)
    × (length_of (text "1/**/.5px") ≡ Ok None)
    × (length_of (text "1e3px") ≡ Ok None)
    × (length_of (text "1px!important") ≡ Ok None)
    × (length_of (text "1px;") ≡ Ok None)
    × (length_of (text "(1px") ≡ Ok None)
    × (length_of (text "1px/*") ≡ Ok None)
    × (length_of (text "1pxé") ≡ Ok None)
    × (length_of (text "é") ≡ Ok None)
    × (length_of (text "px") ≡ Ok None)
    × (length_of (text "") ≡ Ok None)
unfolding length_of token_length number_length dimension_length with_unit is_bad is_too_fine is_above is_below is_negative decimals digits_number ten_thousandths only_whitespace numeric_token text_start plus numeric_of number signed unsigned integer_of fraction_of unsigned_of numeral lookup on_found same_text on_parsed behind numeric_from decimal digits one_digit is_digit sign ident_of name_of name_from dash chars_end chars_text char_taken char_text bytes_of nmchar_of nmstart_of folded_char ident_escape_of escaped_of behind_one hex_value hex_count hex_run hex_digit is_hex_digit lower is_nmchar is_nmstart skip_whitespace whitespace_item is_whitespace comment_of comment_end many texts took taken_of utf8 continuation or_replacement is_scalar scalar_of scalar_by scalar_tail lead_of two is_continuation pick or and is within text
test-tokens = (refl, refl, refl, refl, refl, refl, refl, refl, refl, refl, refl, refl, refl, refl, refl, refl, refl, refl, refl, refl)

-- 8b: units are names, folded unless escaped, and white space may stand before them
test-names : (length_of (text "5 PX") ≡ measured Units 19050000)
    × (length_of (text "5/**/pX") ≡ measured Units 19050000)
    × (length_of (text "5\\70x") ≡ measured Units 19050000)
    × (length_of (text "5\\50x") ≡ Ok None)
    × (length_of (text "5%") ≡ Ok None)
    × (length_of (text "5 %") ≡ Ok None)
    × (length_of (text "5rem") ≡ Ok None)
unfolding length_of token_length number_length dimension_length with_unit is_bad is_too_fine is_above is_below is_negative decimals digits_number ten_thousandths only_whitespace numeric_token text_start plus numeric_of number signed unsigned integer_of fraction_of unsigned_of numeral lookup on_found same_text on_parsed behind numeric_from decimal digits one_digit is_digit sign ident_of name_of name_from dash chars_end chars_text char_taken char_text bytes_of nmchar_of nmstart_of folded_char ident_escape_of escaped_of behind_one hex_value hex_count hex_run hex_digit is_hex_digit lower is_nmchar is_nmstart skip_whitespace whitespace_item is_whitespace comment_of comment_end many texts took taken_of utf8 continuation or_replacement is_scalar scalar_of scalar_by scalar_tail lead_of two is_continuation pick or and is within text
test-names = (refl, refl, refl, refl, refl, refl, refl)

-- 8c: without a unit
test-zeros : (length_of (text "0") ≡ measured Units 0)
    × (length_of (text "-0") ≡ measured Units 0)
    × (length_of (text ".0") ≡ measured Units 0)
    × (length_of (text "0.00000") ≡ measured Units 0)
    × (length_of (text ".0000000000000000000000000000000000000000000007") ≡ Ok None)
    × (length_of (text "5") ≡ Ok None)
    × (length_of (text "99999") ≡ Ok None)
    × (length_of (text "-1") ≡ Ok None)
unfolding length_of token_length number_length dimension_length with_unit is_bad is_too_fine is_above is_below is_negative decimals digits_number ten_thousandths only_whitespace numeric_token text_start plus numeric_of number signed unsigned integer_of fraction_of unsigned_of numeral lookup on_found same_text on_parsed behind numeric_from decimal digits one_digit is_digit sign ident_of name_of name_from dash chars_end chars_text char_taken char_text bytes_of nmchar_of nmstart_of folded_char ident_escape_of escaped_of behind_one hex_value hex_count hex_run hex_digit is_hex_digit lower is_nmchar is_nmstart skip_whitespace whitespace_item is_whitespace comment_of comment_end many texts took taken_of utf8 continuation or_replacement is_scalar scalar_of scalar_by scalar_tail lead_of two is_continuation pick or and is within text
test-zeros = (refl, refl, refl, refl, refl, refl, refl, refl)

-- 8d and 8e: refusal 12, at the first byte of the token
test-refusals : (length_of (text "1.50000px") ≡ Err (BadLength 0))
    × (length_of (text "-0.00000px") ≡ Err (BadLength 0))
    × (length_of (text "10000in") ≡ measured Units 3657600000000)
    × (length_of (text "10000.0001px") ≡ Err (BadLength 0))
    × (length_of (text "10001ex") ≡ Err (BadLength 0))
    × (length_of (text "99999999999999999999999px") ≡ Err (BadLength 0))
    × (length_of (text "-0px") ≡ measured Units 0)
    × (length_of (text "-0.0001px") ≡ Err (BadLength 0))
    × (length_of (text "-1em") ≡ Err (BadLength 0))
    × (length_of (text "1.00000rem") ≡ Ok None)
    × (length_of (text "1.00000px x") ≡ Ok None)
    × (length_of (text "0001px") ≡ measured Units 3810000)
    × (length_of (text "/**/+ 1.00000px") ≡ Err (BadLength 4))
    × (length_of (text " +-1px") ≡ Err (BadLength 1))
unfolding length_of token_length number_length dimension_length with_unit is_bad is_too_fine is_above is_below is_negative decimals digits_number ten_thousandths only_whitespace numeric_token text_start plus numeric_of number signed unsigned integer_of fraction_of unsigned_of numeral lookup on_found same_text on_parsed behind numeric_from decimal digits one_digit is_digit sign ident_of name_of name_from dash chars_end chars_text char_taken char_text bytes_of nmchar_of nmstart_of folded_char ident_escape_of escaped_of behind_one hex_value hex_count hex_run hex_digit is_hex_digit lower is_nmchar is_nmstart skip_whitespace whitespace_item is_whitespace comment_of comment_end many texts took taken_of utf8 continuation or_replacement is_scalar scalar_of scalar_by scalar_tail lead_of two is_continuation pick or and is within text
test-refusals = (refl, refl, refl, refl, refl, refl, refl, refl, refl, refl, refl, refl, refl, refl)

-- 8f: the units
test-factors : (length_of (text "1px") ≡ measured Units 3810000)
    × (length_of (text "1in") ≡ measured Units 365760000)
    × (length_of (text "1cm") ≡ measured Units 144000000)
    × (length_of (text "1mm") ≡ measured Units 14400000)
    × (length_of (text "1pt") ≡ measured Units 5080000)
    × (length_of (text "1pc") ≡ measured Units 60960000)
    × (length_of (text ".0001px") ≡ measured Units 381)
    × (length_of (text "1.5em") ≡ measured Em 15000)
    × (length_of (text ".0001ex") ≡ measured Ex 1)
unfolding length_of token_length number_length dimension_length with_unit is_bad is_too_fine is_above is_below is_negative decimals digits_number ten_thousandths only_whitespace numeric_token text_start plus numeric_of number signed unsigned integer_of fraction_of unsigned_of numeral lookup on_found same_text on_parsed behind numeric_from decimal digits one_digit is_digit sign ident_of name_of name_from dash chars_end chars_text char_taken char_text bytes_of nmchar_of nmstart_of folded_char ident_escape_of escaped_of behind_one hex_value hex_count hex_run hex_digit is_hex_digit lower is_nmchar is_nmstart skip_whitespace whitespace_item is_whitespace comment_of comment_end many texts took taken_of utf8 continuation or_replacement is_scalar scalar_of scalar_by scalar_tail lead_of two is_continuation pick or and is within text
test-factors = (refl, refl, refl, refl, refl, refl, refl, refl, refl)

-- 1 before 2, 2 before 3, 3 before 12; after 12 the stores are zero, after the others as they were
test-call : ((height_length (replicate 32769 0xff) [] [] [] []).answer.refusal ≡ refused 1)
    × ((height_length (replicate 32768 0xff) [] [] [] []).answer.refusal ≡ refused 2)
    × ((height_length (0xff ∷ []) (replicate 72 1) (replicate 72 1) (1 ∷ []) (replicate 13 1)).answer.refusal ≡ refused 2)
    × (height_length (0xff ∷ []) (replicate 72 1) (replicate 72 1) (1 ∷ []) (replicate 14 1)
    ≡ record { answer = numbers_of (Err NotUtf8); rules = replicate 72 1; tokens = replicate 72 1; brackets = 1 ∷ []; texts = replicate 14 1 })
    × (height_length (text "-1px") (replicate 96 1) (replicate 96 1) (replicate 4 1) (replicate 20 1)
    ≡ record { answer = numbers_of (Err (BadLength 0)); rules = replicate 96 0; tokens = replicate 96 0; brackets = replicate 4 0; texts = replicate 20 0 })
    × ((numbers_of (Err (BadLength 4))).refusal ≡ record { number = 12; text = 0; place = 4 })
unfolding height_length length_left unchanged numbers_of refusal_of stores_suffice valid scalar_taken length_of token_length number_length dimension_length with_unit is_bad is_too_fine is_above is_below is_negative decimals digits_number ten_thousandths only_whitespace numeric_token text_start plus numeric_of number signed unsigned integer_of fraction_of unsigned_of numeral lookup on_found same_text on_parsed behind numeric_from decimal digits one_digit is_digit sign ident_of name_of name_from dash chars_end chars_text char_taken char_text bytes_of nmchar_of nmstart_of folded_char ident_escape_of escaped_of behind_one hex_value hex_count hex_run hex_digit is_hex_digit lower is_nmchar is_nmstart skip_whitespace whitespace_item is_whitespace comment_of comment_end many texts took taken_of utf8 continuation or_replacement is_scalar scalar_of scalar_by scalar_tail lead_of two is_continuation pick or and is within text
test-call = (refl, refl, refl, refl, refl, refl)
