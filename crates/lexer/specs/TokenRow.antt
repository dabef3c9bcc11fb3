-- Token rows: how tokens lie in lent numbers of 32 bits. A row says the token's kind, the byte of the text where the token starts,
-- where its text starts in the text store, and two numbers more: the length of that text, or of a dimension's number and unit,
-- or the scalar value of a delimiter. A unit lies behind its number.
use Rattle.std.specs.Prelude.{ℕ, ◌+◌, ◌%◌, ◌^◌, List, [], ◌∷◌, ◌≡◌, refl, get_or}
use Rattle.combinators.specs.Choice.{pick, is}
use Rattle.lexer.specs.Token.{Token, coded}
use Rattle.combinators.specs.declared.columns.Columns.{Columns}
use Rattle.lexer.specs.declared.tokens.Token as declared
use Rattle.lexer.specs.declared.tokens.Token.TheVariants as code

-- numbers in a row
abbrev pub token_width : ℕ
token_width = 5

-- where the kind, the place of the text and the two last numbers stand in a row
abbrev pub kind_column : ℕ
kind_column = 0

abbrev pub start_column : ℕ
start_column = 2

abbrev pub first_column : ℕ
first_column = 3

abbrev pub second_column : ℕ
second_column = 4

-- the kinds; no token has 0, so that a cleared row is told from a written one
abbrev pub ident_kind : ℕ
ident_kind = 1

abbrev pub function_kind : ℕ
function_kind = 2

abbrev pub hash_kind : ℕ
hash_kind = 3

abbrev pub string_kind : ℕ
string_kind = 4

abbrev pub bad_string_kind : ℕ
bad_string_kind = 5

abbrev pub delim_kind : ℕ
delim_kind = 6

abbrev pub number_kind : ℕ
number_kind = 7

abbrev pub dimension_kind : ℕ
dimension_kind = 8

abbrev pub percentage_kind : ℕ
percentage_kind = 9

abbrev pub cdo_kind : ℕ
cdo_kind = 10

abbrev pub cdc_kind : ℕ
cdc_kind = 11

abbrev pub colon_kind : ℕ
colon_kind = 12

abbrev pub semicolon_kind : ℕ
semicolon_kind = 13

abbrev pub comma_kind : ℕ
comma_kind = 14

abbrev pub open_square_kind : ℕ
open_square_kind = 15

abbrev pub close_square_kind : ℕ
close_square_kind = 16

abbrev pub open_round_kind : ℕ
open_round_kind = 17

abbrev pub close_round_kind : ℕ
close_round_kind = 18

abbrev pub open_brace_kind : ℕ
open_brace_kind = 19

abbrev pub close_brace_kind : ℕ
close_brace_kind = 20

-- a token's kind and its two numbers
unfoldable pub columns_of : declared.Token → Columns
columns_of (code.Ident n) = record { kind = ident_kind; first = n; second = 0 }
columns_of (code.Function n) = record { kind = function_kind; first = n; second = 0 }
columns_of (code.Hash n) = record { kind = hash_kind; first = n; second = 0 }
columns_of (code.String n) = record { kind = string_kind; first = n; second = 0 }
columns_of (code.BadString n) = record { kind = bad_string_kind; first = n; second = 0 }
columns_of (code.Delim n) = record { kind = delim_kind; first = n; second = 0 }
columns_of (code.Number n) = record { kind = number_kind; first = n; second = 0 }
columns_of (code.Dimension n m) = record { kind = dimension_kind; first = n; second = m }
columns_of (code.Percentage n) = record { kind = percentage_kind; first = n; second = 0 }
columns_of code.CDO = record { kind = cdo_kind; first = 0; second = 0 }
columns_of code.CDC = record { kind = cdc_kind; first = 0; second = 0 }
columns_of code.Colon = record { kind = colon_kind; first = 0; second = 0 }
columns_of code.Semicolon = record { kind = semicolon_kind; first = 0; second = 0 }
columns_of code.Comma = record { kind = comma_kind; first = 0; second = 0 }
columns_of code.OpenSquare = record { kind = open_square_kind; first = 0; second = 0 }
columns_of code.CloseSquare = record { kind = close_square_kind; first = 0; second = 0 }
columns_of code.OpenRound = record { kind = open_round_kind; first = 0; second = 0 }
columns_of code.CloseRound = record { kind = close_round_kind; first = 0; second = 0 }
columns_of code.OpenBrace = record { kind = open_brace_kind; first = 0; second = 0 }
columns_of code.CloseBrace = record { kind = close_brace_kind; first = 0; second = 0 }

-- a number of 32 bits. Every length and place of an accepted sheet or page is far below 2^32.
unfoldable pub word : ℕ → ℕ
word x = x % 2 ^ 32

-- the row of a token that starts at a byte of the text and whose text starts at a place of the store
unfoldable pub row_of : ℕ → ℕ → declared.Token → List ℕ
row_of byte start k = (columns_of k).kind ∷ word byte ∷ word start ∷ word (columns_of k).first ∷ word (columns_of k).second ∷ []

unfoldable pub token_row : ℕ → ℕ → Token → List ℕ
token_row byte start k = row_of byte start (coded k)

-- the mark of a kind: a closing brace where no other fits. Rows are counted, so none is read that no token wrote.
unfoldable pub mark_from : ℕ → declared.Token
mark_from k =
    pick (is k cdo_kind) code.CDO
    (pick (is k cdc_kind) code.CDC
    (pick (is k colon_kind) code.Colon
    (pick (is k semicolon_kind) code.Semicolon
    (pick (is k comma_kind) code.Comma
    (pick (is k open_square_kind) code.OpenSquare
    (pick (is k close_square_kind) code.CloseSquare
    (pick (is k open_round_kind) code.OpenRound
    (pick (is k close_round_kind) code.CloseRound
    (pick (is k open_brace_kind) code.OpenBrace
    code.CloseBrace)))))))))

-- the token that a kind and two numbers say
unfoldable pub token_from : ℕ → ℕ → ℕ → declared.Token
token_from k a b =
    pick (is k ident_kind) (code.Ident a)
    (pick (is k function_kind) (code.Function a)
    (pick (is k hash_kind) (code.Hash a)
    (pick (is k string_kind) (code.String a)
    (pick (is k bad_string_kind) (code.BadString a)
    (pick (is k delim_kind) (code.Delim a)
    (pick (is k number_kind) (code.Number a)
    (pick (is k dimension_kind) (code.Dimension a b)
    (pick (is k percentage_kind) (code.Percentage a)
    (mark_from k)))))))))

-- the token whose row starts at a place
unfoldable pub token_in : List ℕ → ℕ → declared.Token
token_in rows at = token_from (get_or rows (at + kind_column) 0) (get_or rows (at + first_column) 0) (get_or rows (at + second_column) 0)

-- the columns of a token read back as the token
pub columns-back : (k : declared.Token) → token_from (columns_of k).kind (columns_of k).first (columns_of k).second ≡ k
unfolding token_from mark_from columns_of pick is
columns-back (code.Ident n) = refl
columns-back (code.Function n) = refl
columns-back (code.Hash n) = refl
columns-back (code.String n) = refl
columns-back (code.BadString n) = refl
columns-back (code.Delim n) = refl
columns-back (code.Number n) = refl
columns-back (code.Dimension n m) = refl
columns-back (code.Percentage n) = refl
columns-back code.CDO = refl
columns-back code.CDC = refl
columns-back code.Colon = refl
columns-back code.Semicolon = refl
columns-back code.Comma = refl
columns-back code.OpenSquare = refl
columns-back code.CloseSquare = refl
columns-back code.OpenRound = refl
columns-back code.CloseRound = refl
columns-back code.OpenBrace = refl
columns-back code.CloseBrace = refl
