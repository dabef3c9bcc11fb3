-- What is printed of a colour.
use Rattle.std.specs.Prelude.{ℕ, List, ◌∷◌}
use Rattle.streams.specs.Printed.{hexadecimal}

-- `#`
abbrev pub number_sign : ℕ
number_sign = 0x23

-- a colour has so many hexadecimal digits
abbrev pub colour_digits : ℕ
colour_digits = 6

-- the number sign and the digits, with zeros in front
unfoldable pub colour_text : ℕ → List ℕ
colour_text colour = number_sign ∷ hexadecimal colour_digits colour
