-- Colours and numbers as the code answers them.
use Rattle.std.specs.Prelude.{ℕ, Bool, ltb, Option, Some, None}
use Rattle.combinators.specs.Choice.{and}
use Rattle.lexer.specs.Name.{is_hex_digit, hex_digit}
use Rattle.syntax.specs.Declaration.{Colour}
use Rattle.syntax.specs.Layout.{colour_number}
use Rattle.values.specs.Words.{Found, on_found}

-- x is a digit in the base
unfoldable pub is_digit_in : ℕ → ℕ → Bool
is_digit_in base x = and (is_hex_digit x) (ltb (hex_digit x) base)

unfoldable pub number_answer : Found ℕ → Option ℕ
number_answer f = on_found f Some None

unfoldable pub colour_answer : Found Colour → Option ℕ
colour_answer f = on_found f (λ c. Some (colour_number c)) None
