-- Names: `nmstart_char`, `nmchar_char`, `ident_escape`, `nmstart`, `nmchar`, `parse_ident` and `parse_identstring` of
-- src/css/parser.rs. A reader of one character answers the bytes that it takes and the scalar value that they stand for.
use Rattle.std.specs.Prelude.{ℕ, zero, suc, ◌+◌, ◌-◌, ◌*◌, Bool, List, [], ◌++◌, ◌≡◌, refl, length, get_or, take, drop, Option, Some, None}
use Rattle.std.specs.Option.{option_or}
use Prim.Native.Char.{code as ascii}
use Rattle.combinators.specs.Choice.{pick, or, and, is, within}
use Rattle.combinators.specs.Parsed.{Parsed, ok, err, behind}
use Rattle.combinators.specs.Repeat.{many, texts, took}
use Rattle.characters.specs.Literal.{text}
use Rattle.characters.specs.Utf8.{utf8, or_replacement, replacement_character, scalar_of, taken_of, is_scalar, scalar_by, scalar_tail, lead_of, two, is_continuation, continuation}
use Rattle.combinators.specs.declared.taken.Taken.{Taken}
use Rattle.lexer.specs.Whitespace.{skip_whitespace, whitespace_item, is_whitespace, comment_of, comment_end}
use Rattle.lexer.specs.Number.{is_digit}
use Rattle.lexer.specs.declared.Written.{Written}

-- ---- one character

-- '_', 'a'..='z', 'A'..='Z'
unfoldable pub is_nmstart : ℕ → Bool
is_nmstart x = or (is x (ascii "_")) (or (within x (ascii "a") (ascii "z")) (within x (ascii "A") (ascii "Z")))

-- these, '0'..='9' and '-'
unfoldable pub is_nmchar : ℕ → Bool
is_nmchar x = or (is_nmstart x) (or (is_digit x) (is x (ascii "-")))

-- from a capital letter to its small one
abbrev pub case_distance : ℕ
case_distance = 32

-- "Names fold A-Z to a-z unless escaped" (`to_ascii_lowercase`)
unfoldable pub lower : ℕ → ℕ
lower x = pick (within x (ascii "A") (ascii "Z")) (x + case_distance) x

-- `nmstart_char`, `nmchar_char`: a first character that p holds of, folded
unfoldable pub folded_char : (ℕ → Bool) → List ℕ → Option (Taken ℕ)
folded_char p s = pick (p (get_or s 0 0)) (Some (record { taken = 1; value = lower (get_or s 0 0) })) None

unfoldable pub is_hex_digit : ℕ → Bool
is_hex_digit x = or (within x (ascii "0") (ascii "9")) (or (within x (ascii "a") (ascii "f")) (within x (ascii "A") (ascii "F")))

-- what a hex digit is worth; 0 for any other byte
unfoldable pub hex_digit : ℕ → ℕ
hex_digit x =
    pick (within x (ascii "0") (ascii "9")) (x - ascii "0")
    (pick (within x (ascii "a") (ascii "f")) (x - ascii "a" + 10)
    (pick (within x (ascii "A") (ascii "F")) (x - ascii "A" + 10) 0))

-- hex digits at the start of s, at most k, counted on from i
unfoldable pub hex_run : ℕ → ℕ → List ℕ → ℕ
hex_run i zero s = i
hex_run i (suc k) s = let more = hex_run (i + 1) k (drop 1 s) in pick (is_hex_digit (get_or s 0 0)) more i

-- "An escape takes up to six hex digits"
abbrev pub maximum_digits : ℕ
maximum_digits = 6

-- how many it takes: "if they run to the end of the text, only the first is taken"
unfoldable pub hex_count : List ℕ → ℕ
hex_count t = pick (is (hex_run 0 maximum_digits t) (length t)) 1 (hex_run 0 maximum_digits t)

-- the number that k more digits of s write behind those that are worth a
unfoldable pub hex_value : ℕ → ℕ → List ℕ → ℕ
hex_value a zero s = a
hex_value a (suc k) s = hex_value (a * 16 + hex_digit (get_or s 0 0)) k (drop 1 s)

-- the same scalar value behind one byte more
unfoldable pub behind_one : Option (Taken ℕ) → Option (Taken ℕ)
behind_one (Some c) = Some (record { taken = 1 + c.taken; value = c.value })
behind_one None = None

-- behind the backslash: U+FFFD at the end of the text; hex digits, where surrogates and numbers above U+10FFFF are U+FFFD; or the next character. Otherwise than in CSS
-- no white space is taken behind the digits, zero is U+0000, and a line feed is a character like any other.
unfoldable pub escaped_of : List ℕ → Option (Taken ℕ)
escaped_of t =
    pick (is (length t) 0) (Some (record { taken = 1; value = replacement_character }))
    (pick (is_hex_digit (get_or t 0 0)) (Some (record { taken = 1 + hex_count t; value = or_replacement (hex_value 0 (hex_count t) t) }))
    (behind_one (scalar_of t)))

-- `ident_escape`
unfoldable pub ident_escape_of : List ℕ → Option (Taken ℕ)
ident_escape_of s = pick (is (get_or s 0 0) (ascii "\\")) (escaped_of (drop 1 s)) None

-- the first that reads (`alt`)
unfoldable pub nmstart_of : List ℕ → Option (Taken ℕ)
nmstart_of s = option_or (folded_char is_nmstart s) (ident_escape_of s)

unfoldable pub nmchar_of : List ℕ → Option (Taken ℕ)
nmchar_of s = option_or (folded_char is_nmchar s) (ident_escape_of s)

-- ---- names

-- what a character takes, and the bytes that it stands for
unfoldable pub bytes_of : Option (Taken ℕ) → List ℕ
bytes_of (Some c) = utf8 c.value
bytes_of None = []

unfoldable pub char_taken : List ℕ → ℕ
char_taken s = taken_of (nmchar_of s)

unfoldable pub char_text : List ℕ → List ℕ
char_text s = bytes_of (nmchar_of s)

-- `many0(nmchar)`: where it stops, and the text
unfoldable pub chars_end : List ℕ → ℕ
chars_end s = many char_taken 0 0 s

unfoldable pub chars_text : List ℕ → List ℕ
chars_text s = texts char_taken char_text 0 s

-- behind a first character of t, with the text b in front: the characters that follow
unfoldable pub name_from : List ℕ → List ℕ → Option (Taken ℕ) → Parsed (List ℕ)
name_from b t (Some c) = ok (length b + (c.taken + chars_end (drop c.taken t))) (b ++ (utf8 c.value ++ chars_text (drop c.taken t)))
name_from b t None = err

-- `opt(tag("-"))`
unfoldable pub dash : List ℕ → ℕ
dash t = pick (is (get_or t 0 0) (ascii "-")) 1 0

-- a '-' or none, `nmstart`, and characters
unfoldable pub name_of : List ℕ → Parsed (List ℕ)
name_of t = name_from (take (dash t) t) (drop (dash t) t) (nmstart_of (drop (dash t) t))

-- "`parse_ident` skips white space and comments first, so `5 px` is one Dimension"
unfoldable pub ident_of : List ℕ → Parsed (List ℕ)
ident_of s = behind (skip_whitespace s) (name_of (drop (skip_whitespace s) s))

-- one character or more
unfoldable pub chars_of : List ℕ → Parsed (List ℕ)
chars_of t = pick (is (chars_end t) 0) err (ok (chars_end t) (chars_text t))

-- `parse_identstring`
unfoldable pub identstring_of : List ℕ → Parsed (List ℕ)
identstring_of s = behind (skip_whitespace s) (chars_of (drop (skip_whitespace s) s))

-- ---- as the code answers: the bytes taken and the length of the text, which lies in the store
unfoldable pub name_answer : Parsed (List ℕ) → Option Written
name_answer (ok n b) = Some (record { taken = n; length = length b })
name_answer err = None

unfoldable pub name_text : Parsed (List ℕ) → List ℕ
name_text (ok n b) = b
name_text err = []

-- `\41` at the end of the text, before a blank and before `-`; `\d800x`, `\110000x`, `\` at the end, `\é`; `Ab\`
test-escapes : (ident_of (text "\\41") ≡ ok 3 (text "\u{4}1")) × (ident_of (text "\\41 ") ≡ ok 3 (text "A"))
    × (ident_of (text "\\41-") ≡ ok 4 (text "A-"))
    × (ident_of (text "\\d800x") ≡ ok 6 (text "�x"))
    × (ident_of (text "\\110000x") ≡ ok 8 (text "�x"))
    × (ident_of (text "\\") ≡ ok 1 (text "�")) × (ident_of (text "\\é") ≡ ok 3 (text "é"))
    × (ident_of (text "Ab\\") ≡ ok 3 (text "ab�"))
unfolding ident_of name_of name_from dash chars_end chars_text char_taken char_text bytes_of nmchar_of nmstart_of folded_char ident_escape_of escaped_of behind_one hex_value hex_count hex_run hex_digit is_hex_digit lower is_nmchar is_nmstart is_digit skip_whitespace whitespace_item is_whitespace comment_of behind many texts took taken_of utf8 continuation or_replacement is_scalar scalar_of scalar_by scalar_tail lead_of two is_continuation pick or and is within text
test-escapes = (refl, refl, refl, refl, refl, refl, refl, refl)

-- ` /**/-A1-b;`; `é`, `-`, `--a`, `1a` and nothing are none; `1\é;` has characters of names
test-names : (ident_of (text " /**/-A1-b;") ≡ ok 10 (text "-a1-b"))
    × (ident_of (text "é") ≡ err) × (ident_of (text "-") ≡ err) × (ident_of (text "--a") ≡ err) × (ident_of (text "1a") ≡ err)
    × (ident_of [] ≡ err) × (identstring_of (text "1\\é;") ≡ ok 4 (text "1é")) × (identstring_of (text " ") ≡ err)
unfolding ident_of identstring_of chars_of name_of name_from dash chars_end chars_text char_taken char_text bytes_of nmchar_of nmstart_of folded_char ident_escape_of escaped_of behind_one hex_value hex_count hex_run hex_digit is_hex_digit lower is_nmchar is_nmstart is_digit skip_whitespace whitespace_item is_whitespace comment_of comment_end behind many texts took taken_of utf8 continuation or_replacement is_scalar scalar_of scalar_by scalar_tail lead_of two is_continuation pick or and is within text
test-names = (refl, refl, refl, refl, refl, refl, refl, refl)
