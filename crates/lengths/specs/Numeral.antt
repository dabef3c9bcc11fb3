-- A number as the code keeps it: digits beyond what a length can have are not counted on.
use Rattle.std.specs.Prelude.{ℕ, ◌+◌, ◌*◌, ◌^◌, Bool, List, ◌++◌, ◌≡◌, refl, ltb, length, take, drop}
use Rattle.combinators.specs.Choice.{pick}
use Rattle.lexer.specs.Name.{hex_digit}
use Rattle.lexer.specs.Number.{digits}
use Rattle.values.specs.Colour.{numeral}
use Rattle.lengths.specs.Length.{ten, most_number, most_decimals, digits_number, decimals, is_negative}
use Rattle.lengths.specs.declared.numerals.Numeral.{Numeral}

-- the most that the digits of a length can make, those of its decimals included
abbrev pub most_digits : ℕ
most_digits = 100000000

most : most_digits ≡ most_number * ten ^ most_decimals
most = refl

-- a number, or one above the most
unfoldable pub capped : ℕ → ℕ
capped v = pick (ltb most_digits v) (most_digits + 1) v

-- of a text behind its sign
unfoldable pub unsigned_numeral : Bool → List ℕ → Numeral
unsigned_numeral negative u =
    record {
      negative = negative;
      decimals = length (drop (digits u + 1) u);
      digits = capped (numeral ten hex_digit 0 (take (digits u) u ++ drop (digits u + 1) u));
    }

-- of a number's text
unfoldable pub numeral_of : List ℕ → Numeral
numeral_of n = record { negative = is_negative n; decimals = decimals n; digits = capped (digits_number n) }
