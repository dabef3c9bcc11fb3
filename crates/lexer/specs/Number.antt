-- Numbers: `parse_integer`, `parse_decimal` and `parse_number` of src/css/parser.rs as recognisers. Each gives the bytes that it
-- takes, 0 where it does not read.
use Rattle.std.specs.Prelude.{ℕ, ◌+◌, Bool, List, ◌≡◌, refl, get_or, drop}
use Rattle.combinators.specs.Choice.{pick, or, and, is, within}
use Prim.Native.Char.{code as ascii}
use Rattle.combinators.specs.Repeat.{many, took}
use Rattle.characters.specs.Literal.{text}
use Rattle.characters.specs.Utf8.{utf8, continuation}
use Rattle.lexer.specs.Whitespace.{skip_whitespace, whitespace_item, is_whitespace, comment_of, comment_end}

unfoldable pub is_digit : ℕ → Bool
is_digit x = within x (ascii "0") (ascii "9")

unfoldable pub one_digit : List ℕ → ℕ
one_digit s = pick (is_digit (get_or s 0 0)) 1 0

-- `digit0`: the digits that a text begins with. `parse_integer` takes them too, and reads where there is one (`digit1`).
unfoldable pub digits : List ℕ → ℕ
digits s = many one_digit 0 0 s

-- `parse_decimal`: digits or none, a full stop, and digits
unfoldable pub decimal : List ℕ → ℕ
decimal s =
    let n = digits s in
    let m = digits (drop (n + 1) s) in
    pick (is (get_or s n 0) (ascii ".")) (pick (is m 0) 0 (n + 1 + m)) 0

-- `alt((parse_integer, parse_decimal))`: "`1.5` is Number `1`, then Number `.5`"
unfoldable pub unsigned : List ℕ → ℕ
unsigned s = pick (is (digits s) 0) (decimal s) (digits s)

-- `opt(alt((tag("-"), tag("+"))))`
unfoldable pub sign : List ℕ → ℕ
sign s = pick (or (is (get_or s 0 0) (ascii "-")) (is (get_or s 0 0) (ascii "+"))) 1 0

-- a sign or none, and a number behind it
unfoldable pub signed : List ℕ → ℕ
signed s =
    let n = unsigned (drop (sign s) s) in
    pick (is n 0) 0 (sign s + n)

-- `parse_number`: white space or none, and then that
unfoldable pub number : List ℕ → ℕ
number s =
    let w = skip_whitespace s in
    let n = signed (drop w s) in
    pick (is n 0) 0 (w + n)

-- "1.5", ".5", " -12x", "- 1", "+.", "5."
test-number : (number (text "1.5") ≡ 1) × (number (text ".5") ≡ 2) × (number (text " -12x") ≡ 4)
    × (number (text "- 1") ≡ 0) × (number (text "+.") ≡ 0) × (number (text "5.") ≡ 1) × (decimal (text "1.5") ≡ 3)
unfolding number signed sign unsigned decimal digits one_digit is_digit skip_whitespace many took whitespace_item comment_of comment_end is_whitespace pick or and is within text utf8 continuation
test-number = (refl, refl, refl, refl, refl, refl, refl)
