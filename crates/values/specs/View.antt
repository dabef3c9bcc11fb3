-- Tokens read back from their rows, with their texts cut from the store.
use Rattle.std.specs.Prelude.{ℕ, ◌+◌, ◌/◌, List, [], ◌∷◌, ◌≡◌, refl, length, get_or, drop}
use Rattle.combinators.specs.Choice.{pick, is}
use Rattle.combinators.specs.Part.{part}
use Rattle.lexer.specs.Token.{Token, ident, function, hash, string, bad_string, delim, number, dimension, percentage, cdo, cdc, colon, semicolon, comma, open_square, close_square, open_round, close_round, open_brace, close_brace}
use Rattle.lexer.specs.TokenRow.{token_width, start_column, first_column, second_column, dimension_kind, delim_kind, token_from, token_in}
use Rattle.lexer.specs.declared.tokens.Token as lexer
use Rattle.lexer.specs.declared.tokens.Token.TheVariants as code
use Rattle.syntax.specs.Stream.{Read, read_many}

-- the token whose texts start at s in the store; a unit lies behind its number
unfoldable pub token_with : List ℕ → ℕ → lexer.Token → Token
token_with store s (code.Ident n) = ident (part store s n)
token_with store s (code.Function n) = function (part store s n)
token_with store s (code.Hash n) = hash (part store s n)
token_with store s (code.String n) = string (part store s n)
token_with store s (code.BadString n) = bad_string (part store s n)
token_with store s (code.Delim c) = delim c
token_with store s (code.Number n) = number (part store s n)
token_with store s (code.Dimension n m) = dimension (part store s n) (part store (s + n) m)
token_with store s (code.Percentage n) = percentage (part store s n)
token_with store s code.CDO = cdo
token_with store s code.CDC = cdc
token_with store s code.Colon = colon
token_with store s code.Semicolon = semicolon
token_with store s code.Comma = comma
token_with store s code.OpenSquare = open_square
token_with store s code.CloseSquare = close_square
token_with store s code.OpenRound = open_round
token_with store s code.CloseRound = close_round
token_with store s code.OpenBrace = open_brace
token_with store s code.CloseBrace = close_brace

-- the token whose row stands first, by the store; the rows behind it
unfoldable pub read_token : List ℕ → List ℕ → Read Token
read_token store t = record { value = token_with store (get_or t start_column 0) (token_in t 0); rest = drop token_width t }

-- the token whose row starts at a place
unfoldable pub token_here : List ℕ → List ℕ → ℕ → Token
token_here rows store p = (read_token store (drop p rows)).value

-- the text that the row at a place names; and the second text of a dimension, its unit
unfoldable pub first_text : List ℕ → List ℕ → ℕ → List ℕ
first_text rows store p = part store (get_or rows (p + start_column) 0) (get_or rows (p + first_column) 0)

unfoldable pub second_text : List ℕ → List ℕ → ℕ → List ℕ
second_text rows store p = part store (get_or rows (p + start_column) 0 + get_or rows (p + first_column) 0) (get_or rows (p + second_column) 0)

-- the first n tokens of rows, by the store of their texts
unfoldable pub tokens_at : List ℕ → List ℕ → ℕ → List Token
tokens_at rows store n = (read_many (read_token store) n rows).value

-- how many tokens rows hold, which are cut to whole rows
unfoldable pub token_count : List ℕ → ℕ
token_count rows = length rows / token_width

-- the two tokens of "7px/", whose texts lie behind the byte 9
case : tokens_at (dimension_kind ∷ 0 ∷ 1 ∷ 1 ∷ 2 ∷ delim_kind ∷ 3 ∷ 4 ∷ 0x2f ∷ 0 ∷ 1 ∷ []) (9 ∷ 0x37 ∷ 0x70 ∷ 0x78 ∷ 9 ∷ []) 2
    ≡ dimension (0x37 ∷ []) (0x70 ∷ 0x78 ∷ []) ∷ delim 0x2f ∷ []
unfolding tokens_at read_many read_token token_with token_in token_from part pick is
case = refl
