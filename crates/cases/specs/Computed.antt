-- Computed cases of result 1, beside those that document 01 marks P: what would surprise a reader of the CSS documents.
use Rattle.std.specs.Prelude.{◌≡◌, refl}
use Rattle.combinators.specs.Choice.{pick, or, and, is, within}
use Rattle.combinators.specs.Parsed.{ok, err, behind, or_else, on_parsed}
use Rattle.combinators.specs.Repeat.{many, texts, took}
use Rattle.combinators.specs.Word.{starts_with}
use Rattle.characters.specs.Utf8.{utf8, or_replacement, scalar_of, taken_of, is_scalar, scalar_by, scalar_tail, lead_of, two, three, four, is_continuation, continuation}
use Rattle.lexer.specs.Whitespace.{skip_whitespace, whitespace_item, is_whitespace, comment_of, comment_end}
use Rattle.lexer.specs.Name.{ident_of, identstring_of, chars_of, name_of, name_from, dash, chars_end, chars_text, char_taken, char_text, bytes_of, nmchar_of, nmstart_of, folded_char, ident_escape_of, escaped_of, behind_one, hex_value, hex_count, hex_run, hex_digit, is_hex_digit, lower, is_nmchar, is_nmstart}
use Rattle.lexer.specs.Number.{number, signed, sign, unsigned, decimal, digits, one_digit, is_digit}
use Rattle.lexer.specs.Quoted.{string_end, string_text, quoted_taken, quoted_text, quoted_of, escaped_byte}
use Rattle.lexer.specs.Quoted as quoted
use Rattle.lexer.specs.Token.{ident, string, delim, dimension, token_of, token_at, token_with, mark_of, is_ident_start, string_of, string_from, ident_like_of, numeric_of, numeric_from, is_quote, hash_of, plus_of, minus_of, less_of}
use Rattle.lexer.specs.Token as token
use Rattle.characters.specs.Literal.{text}

-- `5 px` is one dimension; `1.5` is `1` and then `.5`; a '+' is dropped from a number's text, and blanks may follow it
test-numbers : (token_of (text "5 px") ≡ ok 4 (dimension (text "5") (text "px"))) × (token_of (text "1.5") ≡ ok 1 (token.number (text "1")))
    × (token_of (text ".5") ≡ ok 2 (token.number (text ".5"))) × (token_of (text "+ 5px") ≡ ok 5 (dimension (text " 5") (text "px")))
unfolding token_of token_at token_with mark_of is_ident_start string_of string_from ident_like_of numeric_of numeric_from number signed sign unsigned decimal digits one_digit is_digit string_end string_text quoted_taken quoted_text quoted.text_of quoted_of escaped_byte ident_of identstring_of chars_of name_of name_from dash chars_end chars_text char_taken char_text bytes_of nmchar_of nmstart_of folded_char ident_escape_of escaped_of behind_one hex_value hex_count hex_run hex_digit is_hex_digit lower is_nmchar is_nmstart skip_whitespace whitespace_item is_whitespace comment_of comment_end behind or_else on_parsed many texts took taken_of utf8 continuation or_replacement is_scalar scalar_of scalar_by scalar_tail lead_of two three four is_continuation starts_with pick or and is within text is_quote hash_of plus_of minus_of less_of
test-numbers = (refl, refl, refl, refl)

-- an unclosed comment is none: its '/' is a delimiter; a character above U+0080 starts no token, U+0080 is a delimiter
test-starts : (token_of (text "/* x") ≡ ok 1 (delim 0x2f)) × (token_of (text "é") ≡ err) × (token_of (text "\u{80}") ≡ ok 2 (delim 0x80))
unfolding token_of token_at token_with mark_of is_ident_start string_of string_from ident_like_of numeric_of numeric_from number signed sign unsigned decimal digits one_digit is_digit string_end string_text quoted_taken quoted_text quoted.text_of quoted_of escaped_byte ident_of identstring_of chars_of name_of name_from dash chars_end chars_text char_taken char_text bytes_of nmchar_of nmstart_of folded_char ident_escape_of escaped_of behind_one hex_value hex_count hex_run hex_digit is_hex_digit lower is_nmchar is_nmstart skip_whitespace whitespace_item is_whitespace comment_of comment_end behind or_else on_parsed many texts took taken_of utf8 continuation or_replacement is_scalar scalar_of scalar_by scalar_tail lead_of two three four is_continuation starts_with pick or and is within text is_quote hash_of plus_of minus_of less_of
test-starts = (refl, refl, refl)

-- a backslash that ends the text adds nothing to a string, and is U+FFFD in a name
test-ends : (token_of (text "\"a\\") ≡ ok 3 (string (text "a"))) × (token_of (text "a\\") ≡ ok 2 (ident (text "a�")))
unfolding token_of token_at token_with mark_of is_ident_start string_of string_from ident_like_of numeric_of numeric_from number signed sign unsigned decimal digits one_digit is_digit string_end string_text quoted_taken quoted_text quoted.text_of quoted_of escaped_byte ident_of identstring_of chars_of name_of name_from dash chars_end chars_text char_taken char_text bytes_of nmchar_of nmstart_of folded_char ident_escape_of escaped_of behind_one hex_value hex_count hex_run hex_digit is_hex_digit lower is_nmchar is_nmstart skip_whitespace whitespace_item is_whitespace comment_of comment_end behind or_else on_parsed many texts took taken_of utf8 continuation or_replacement is_scalar scalar_of scalar_by scalar_tail lead_of two three four is_continuation starts_with pick or and is within text is_quote hash_of plus_of minus_of less_of
test-ends = (refl, refl)
