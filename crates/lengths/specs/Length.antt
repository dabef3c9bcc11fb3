-- The length that a height's value is (document 02, S-8): no length, so much of a kind, or refusal 12 with its place.
use Rattle.std.specs.Prelude.{ℕ, ◌-◌, ◌*◌, ◌^◌, Bool, Option, Some, None, Result, Ok, Err, List, ◌++◌, ltb, length, get_or, drop}
use Prim.Native.Char.{code as ascii}
use Rattle.combinators.specs.Choice.{pick, or, and, is}
use Rattle.combinators.specs.Parsed.{on_parsed}
use Rattle.lexer.specs.Name.{hex_digit}
use Rattle.lexer.specs.Token.{Token, number, dimension}
use Rattle.lexer.specs.Whitespace.{skip_whitespace}
use Rattle.values.specs.Colour.{numeral}
use Rattle.values.specs.Words.{lookup, on_found}
use Rattle.values.proofs.HeightLaws.{integer_of, fraction_of}
use Rattle.lengths.specs.Number.{numeric_token}
use Rattle.lengths.specs.Unit.{units}
use Rattle.lengths.specs.declared.answers.Kind.{Kind}
use Rattle.lengths.specs.declared.answers.Kind.TheVariants.{Units}
use Rattle.lengths.specs.declared.answers.Length.{Length}
use Rattle.lengths.specs.declared.answers.LengthError.{LengthError}
use Rattle.lengths.specs.declared.answers.LengthError.TheVariants.{BadLength}

-- ---- what the text of a number says: white space and comments or none, a sign or none, and digits with a point or none

abbrev pub ten : ℕ
ten = 10

-- its digits, before and behind the point, read as one number
unfoldable pub digits_number : List ℕ → ℕ
digits_number n = numeral ten hex_digit 0 (integer_of n ++ fraction_of n)

-- how many stand behind the point
unfoldable pub decimals : List ℕ → ℕ
decimals n = length (fraction_of n)

unfoldable pub is_negative : List ℕ → Bool
is_negative n = is (get_or (drop (skip_whitespace n) n) 0 0) (ascii "-")

-- ---- refusal 12

-- a ten-thousandth has so many decimals, and no length has more
abbrev pub most_decimals : ℕ
most_decimals = 4

-- no length is above this, in its own unit
abbrev pub most_number : ℕ
most_number = 10000

-- "has five or more decimals", zeros too
unfoldable pub is_too_fine : List ℕ → Bool
is_too_fine n = ltb most_decimals (decimals n)

-- "is above 10,000"
unfoldable pub is_above : List ℕ → Bool
is_above n = ltb (most_number * ten ^ decimals n) (digits_number n)

-- "is below zero", which `-0` is not
unfoldable pub is_below : List ℕ → Bool
is_below n = and (is_negative n) (ltb 0 (digits_number n))

unfoldable pub is_bad : List ℕ → Bool
is_bad n = or (is_too_fine n) (or (is_above n) (is_below n))

-- ---- lengths

-- so much of a kind
abbrev pub measured : Kind → ℕ → Result (Option Length) LengthError
measured kind amount = Ok (Some (record { kind = kind; amount = amount }))

-- the number in ten-thousandths, where it has four decimals or fewer
unfoldable pub ten_thousandths : List ℕ → ℕ
ten_thousandths n = digits_number n * ten ^ (most_decimals - decimals n)

-- a number with one of the eight units
unfoldable pub with_unit : ℕ → List ℕ → Kind → ℕ → Result (Option Length) LengthError
with_unit place n kind factor = pick (is_bad n) (Err (BadLength place)) (measured kind (ten_thousandths n * factor))

-- a number with a unit: "Every other value, as one with another unit, .. is no length"
unfoldable pub dimension_length : ℕ → List ℕ → List ℕ → Result (Option Length) LengthError
dimension_length place n unit = on_found (lookup unit units) (λ u. with_unit place n u.kind u.factor) (Ok None)

-- a number without a unit: no length "with none unless it is exactly zero"
unfoldable pub number_length : List ℕ → Result (Option Length) LengthError
number_length n = pick (is (digits_number n) 0) (measured Units 0) (Ok None)

-- a token that starts at a place, as `height_of` takes it apart
unfoldable pub token_length : ℕ → Token → Result (Option Length) LengthError
token_length place (dimension n u) = dimension_length place n u
token_length place (number n) = number_length n
token_length place _ = Ok None

-- "anything but white space and comments"
unfoldable pub only_whitespace : List ℕ → Bool
only_whitespace s = is (skip_whitespace s) (length s)

-- a value: one such token, "with anything but white space and comments around it, is no length"; its place is its first byte
unfoldable pub length_of : List ℕ → Result (Option Length) LengthError
length_of s = on_parsed (numeric_token s) (λ n k. pick (only_whitespace (drop n s)) (token_length (skip_whitespace s) k) (Ok None)) (Ok None)
