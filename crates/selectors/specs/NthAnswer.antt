-- The numbers of `nth-child` as the code answers them, in the form of the compiled sheet.
use Rattle.std.specs.Prelude.{ℕ, ◌+◌, Bool, Option, Some, None, List, ◌≡◌, refl, length, drop}
use Rattle.combinators.specs.Choice.{pick, or, and, is, within}
use Rattle.combinators.specs.Repeat.{many, took}
use Rattle.characters.specs.Literal.{text}
use Rattle.characters.specs.Utf8.{utf8}
use Rattle.lexer.specs.Name.{hex_digit}
use Rattle.lexer.specs.Number.{is_digit, one_digit, digits, sign}
use Rattle.syntax.specs.Signed.{signed_number}
use Rattle.values.specs.Words.{on_found}
use Rattle.values.specs.Colour.{numeral, digits_in}
use Rattle.selectors.specs.Outcome.{reads, on_outcome}
use Rattle.selectors.specs.Selector.{is_minus, signed, greatest, converted}
use Rattle.selectors.specs.declared.nth.SignedInteger.{SignedInteger}

-- the number that n digits of t from i on write, with a minus or without, where it is converted
unfoldable pub integer_by : List ℕ → ℕ → ℕ → Bool → Option ℕ
integer_by t i n minus = on_outcome (converted t i n minus (reads 0)) (λ _ v. Some (signed_number v)) None (λ _. None)

-- the number that the bytes of d write, where they are digits and it fits; 1 where there is none
unfoldable pub converted_answer : List ℕ → Bool → Option ℕ
converted_answer d minus =
    pick (is (length d) 0) (Some (signed_number (signed minus 1)))
    (on_found (digits_in is_digit 10 hex_digit greatest d) (λ v. Some (signed_number (signed minus v))) None)

-- a sign or none and digits or none at the start of t
unfoldable pub integer_of : List ℕ → SignedInteger
integer_of t =
    let i = sign t in
    let n = digits (drop i t) in
    record { sign = i; taken = i + n; value = integer_by t i n (is_minus t 0) }

-- "-12n", and digits that do not fit
case-integer : (integer_of (text "-12n") ≡ record { sign = 1; taken = 3; value = Some 23 })
    × (integer_of (text "2147483648") ≡ record { sign = 0; taken = 10; value = None }) × (integer_of (text "+n") ≡ record { sign = 1; taken = 1; value = Some 2 })
unfolding integer_of integer_by converted on_outcome signed sign is_minus digits one_digit is_digit many took numeral hex_digit signed_number pick or and is within text utf8
case-integer = (refl, refl, refl)

-- the greatest number of `i32` in the form of the compiled sheet
abbrev pub greatest_signed : ℕ
greatest_signed = 4294967294
