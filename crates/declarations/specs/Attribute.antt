-- Attributes: `parse_style_attribute` and `parse_color_attribute`, with `parse_faulty_color`, of src/css/parser.rs.
use Rattle.std.specs.Prelude.{ℕ, Bool, List, [], ◌∷◌, ◌≡◌, refl, leb, length, take, drop}
use Rattle.combinators.specs.Choice.{pick, or, and, is, within}
use Rattle.combinators.specs.Parsed.{on_parsed}
use Rattle.combinators.specs.Repeat.{many, took}
use Rattle.combinators.specs.All.{member}
use Rattle.characters.specs.Literal.{text}
use Rattle.characters.specs.Trim.{white_of, white_taken, trimmed_start}
use Rattle.characters.specs.Utf8.{utf8, continuation, is_continuation, lead_of, two, three, scalar_tail, scalar_by, scalar_of}
use Rattle.characters.specs.WhiteSpace.{is_white_space}
use Rattle.lexer.specs.Name.{is_hex_digit, hex_digit}
use Rattle.syntax.specs.Declaration.{Colour}
use Rattle.syntax.specs.Style.{StyleDecl}
use Rattle.values.specs.Words.{Found, found, missing, on_found}
use Rattle.values.specs.Value as values
use Rattle.values.specs.Colour.{all_of, colour_of, digits_in, numeral, parse_hex, rgb, rgb_of, without_plus}
use Rattle.declarations.specs.Rules.{declarations_of}
use Rattle.declarations.specs.Styles.{styles_of}

-- `parse_style_attribute`
unfoldable pub style_attribute : List ℕ → List StyleDecl
style_attribute s = styles_of (declarations_of s).declarations

-- characters of White_Space to the end of the text, or none
unfoldable pub all_white : List ℕ → Bool
all_white s = is (many white_taken 0 0 s) (length s)

-- without the White_Space at the end: what is left is the shortest text with nothing but White_Space behind it
unfoldable pub trimmed_end : List ℕ → List ℕ
trimmed_end [] = []
trimmed_end (x ∷ r) = pick (all_white (x ∷ r)) [] (x ∷ trimmed_end r)

-- `str::trim`
unfoldable pub trimmed : List ℕ → List ℕ
trimmed s = trimmed_end (trimmed_start s)

-- blanks and U+3000 around "a é"; nothing but White_Space; a lone byte of U+00A0, which is none
test-trimmed : (trimmed (text " \u{3000}a é\u{3000} ") ≡ text "a é") × (trimmed (text " \u{a0} ") ≡ []) × (trimmed (0x61 ∷ 0xa0 ∷ []) ≡ 0x61 ∷ 0xa0 ∷ [])
unfolding trimmed trimmed_start trimmed_end all_white many took white_taken white_of text utf8 continuation is_continuation lead_of two three scalar_tail scalar_by scalar_of is_white_space member pick or and is within
test-trimmed = (refl, refl, refl)

-- `parse_faulty_color`: the first six bytes as three pairs, each two hex digits, or '+' and one
unfoldable pub pairs : List ℕ → Found Colour
pairs t = rgb_of (parse_hex 255 (take 2 t)) (parse_hex 255 (take 2 (drop 2 t))) (parse_hex 255 (take 2 (drop 4 t)))

unfoldable pub faulty_colour : List ℕ → Found Colour
faulty_colour t = pick (leb 6 (length t)) (pairs t) missing

-- a '+' in place of the first of a pair; White_Space as the last byte
test-faulty : (faulty_colour (text "+a0B+cx") ≡ found (rgb 0x0a 0x0b 0x0c)) × (faulty_colour (text "00aab ") ≡ missing)
unfolding faulty_colour pairs rgb_of on_found parse_hex digits_in without_plus all_of numeral rgb is_hex_digit hex_digit text utf8 pick or and is within
test-faulty = (refl, refl)

unfoldable pub or_faulty : Found Colour → List ℕ → Found Colour
or_faulty (found c) s = found c
or_faulty missing s = faulty_colour (trimmed s)

-- `parse_color_attribute`: the statement that the value begins with, without its mark; where that is no colour, the fall-back on the whole value; where a bracket is wrong,
-- neither
unfoldable pub colour_attribute : List ℕ → Found Colour
colour_attribute s = on_parsed (values.value_of s) (λ n v. or_faulty (colour_of v.tokens) s) missing
