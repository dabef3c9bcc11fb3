-- What the code reads off token rows for a colour: the tokens of `rgb(` r `,` g `,` b `)`, and the last comma.
use Rattle.std.specs.Prelude.{ℕ, zero, suc, ◌+◌, ◌*◌, Bool, List, get_or}
use Rattle.combinators.specs.Choice.{pick, and, is}
use Rattle.combinators.specs.Word.{same_text}
use Rattle.characters.specs.Literal.{text}
use Rattle.lexer.specs.TokenRow.{token_width, kind_column, function_kind, number_kind, comma_kind, close_round_kind}
use Rattle.syntax.specs.Declaration.{Colour}
use Rattle.values.specs.Words.{Found}
use Rattle.values.specs.Colour.{three_numbers}
use Rattle.values.specs.View.{first_text}

-- the row at p is of the kind n
abbrev pub kind_at : List ℕ → ℕ → ℕ → Bool
kind_at rows p n = is (get_or rows (p + kind_column) 0) n

-- the tokens of a call of `rgb`
abbrev pub rgb_count : ℕ
rgb_count = 7

-- the first token is `rgb(`
unfoldable pub rgb_name : List ℕ → List ℕ → Bool
rgb_name rows store = and (kind_at rows 0 function_kind) (same_text (first_text rows store 0) (text "rgb"))

-- a number stands at p and a token of the kind n at q
unfoldable pub number_before : List ℕ → ℕ → ℕ → ℕ → Bool
number_before rows p q n = and (kind_at rows p number_kind) (kind_at rows q n)

-- behind the first token stand three numbers parted by commas, and `)`
unfoldable pub rgb_kinds : List ℕ → Bool
rgb_kinds rows =
    and (number_before rows token_width (2 * token_width) comma_kind)
    (and (number_before rows (3 * token_width) (4 * token_width) comma_kind)
    (number_before rows (5 * token_width) (6 * token_width) close_round_kind))

-- the colour of the three numbers
unfoldable pub rgb_here : List ℕ → List ℕ → Found Colour
rgb_here rows store =
    three_numbers (first_text rows store token_width) (first_text rows store (3 * token_width)) (first_text rows store (5 * token_width))

-- the number of the first token behind the last comma of n tokens, 0 without one
unfoldable pub last_part : List ℕ → ℕ → ℕ
last_part rows zero = 0
last_part rows (suc i) = pick (kind_at rows (i * token_width) comma_kind) (suc i) (last_part rows i)
