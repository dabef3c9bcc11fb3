-- Numbers of S-8: "The new reading takes `1.5` as one number, however many its decimals; all else reads as document 01's tokens". Each gives the bytes
-- that it takes, 0 where it does not read.
use Rattle.std.specs.Prelude.{ℕ, ◌+◌, List, ◌≡◌, refl, get_or, drop}
use Prim.Native.Char.{code as ascii}
use Rattle.combinators.specs.Choice.{pick, or, and, is, within}
use Rattle.combinators.specs.Parsed.{Parsed, err, behind}
use Rattle.combinators.specs.Repeat.{many, took}
use Rattle.characters.specs.Literal.{text}
use Rattle.characters.specs.Utf8.{utf8, continuation}
use Rattle.lexer.specs.Number.{is_digit, one_digit, digits, decimal, sign}
use Rattle.lexer.specs.Token.{Token, numeric_from}
use Rattle.lexer.specs.Whitespace.{skip_whitespace, whitespace_item, is_whitespace, comment_of, comment_end}

-- a decimal, or else digits: the lexer's `unsigned` tries them the other way round, so that of `1.5` it takes `1`
unfoldable pub unsigned : List ℕ → ℕ
unsigned s = pick (is (decimal s) 0) (digits s) (decimal s)

-- a sign or none, and a number behind it, as the lexer's `signed`
unfoldable pub signed : List ℕ → ℕ
signed s =
    let n = unsigned (drop (sign s) s) in
    pick (is n 0) 0 (sign s + n)

-- white space or none, and then that, as the lexer's `number`
unfoldable pub number : List ℕ → ℕ
number s =
    let w = skip_whitespace s in
    let n = signed (drop w s) in
    pick (is n 0) 0 (w + n)

-- a number; with '%' behind it a percentage, with a name behind it a dimension, as the lexer's `numeric_of`
unfoldable pub numeric_of : List ℕ → Parsed Token
numeric_of s = pick (is (number s) 0) err (numeric_from (number s) s)

-- a '+' at the start of a token is dropped from the number's text, and white space, comments and one more sign may follow it
unfoldable pub plus : List ℕ → ℕ
plus t = pick (is (get_or t 0 0) (ascii "+")) 1 0

-- where a number's text begins: behind white space and comments, and that '+'
unfoldable pub text_start : List ℕ → ℕ
text_start s = skip_whitespace s + plus (drop (skip_whitespace s) s)

-- the number, percentage or dimension that a text begins with
unfoldable pub numeric_token : List ℕ → Parsed Token
numeric_token s = behind (text_start s) (numeric_of (drop (text_start s) s))

-- "1.5", ".5", " -1.25x", "- 1", "+.", "5.", "1..5", "1.5.5"
test-number : (number (text "1.5") ≡ 3) × (number (text ".5") ≡ 2) × (number (text " -1.25x") ≡ 6)
    × (number (text "- 1") ≡ 0) × (number (text "+.") ≡ 0) × (number (text "5.") ≡ 1) × (number (text "1..5") ≡ 1) × (number (text "1.5.5") ≡ 3)
unfolding number signed sign unsigned decimal digits one_digit is_digit skip_whitespace many took whitespace_item comment_of comment_end is_whitespace pick or and is within text utf8 continuation
test-number = (refl, refl, refl, refl, refl, refl, refl, refl)
