-- What is printed of a number and of a text.
use Rattle.std.specs.Prelude.{◌≡◌, ℕ, ◌-◌, Bool, false, not, ◌&&◌, ◌||◌, ◌==◌, nat_lt, List, [], ◌∷◌, ◌++◌, length, replicate, chars, if◌then◌else◌}
use Rattle.std.specs.Char.{encode_utf8}
use Rattle.std.specs.Fmt.{digits}
use Rattle.std.specs.Fn.{Shared}
use Rattle.std.specs.List.{flat_map}

-- the digit zero
abbrev pub zero_digit : ℕ
zero_digit = 48

abbrev pub quote : ℕ
quote = 0x22

abbrev pub backslash : ℕ
backslash = 0x5c

-- a number by its hexadecimal digits, with zeros in front up to so many digits
unfoldable pub hexadecimal : ℕ → ℕ → List ℕ
hexadecimal width n = replicate (width - length (digits 16 false n)) zero_digit ++ digits 16 false n

-- `\x` and the digits of a character, at least two
unfoldable pub escape : ℕ → List ℕ
escape c = backslash ∷ 0x78 ∷ hexadecimal 2 c

-- a character that stands for itself, or its escape
unfoldable pub shown : (ℕ → Bool) → ℕ → List ℕ
shown plain c = if plain c then encode_utf8 c else escape c

-- each call of f, at a character, answers as the test does
abbrev pub IsTest : {F : Type 0} → Shared F (ℕ × Unit {0}) Bool → F → (ℕ → Bool) → Type 0
IsTest g f test = (c : ℕ) (b : Bool) → g.post f (c, tt) b → b ≡ test c

-- a text by its characters
unfoldable pub escaped : (ℕ → Bool) → List ℕ → List ℕ
escaped plain text = flat_map (shown plain) (chars text)

-- between double quotes control characters, a quote and a backslash do not stand for themselves
abbrev pub is_quotable : ℕ → Bool
is_quotable c = not (nat_lt c 0x20 || c == 0x7f) && not (c == quote) && not (c == backslash)

-- a text between them
unfoldable pub quoted : List ℕ → List ℕ
quoted text = quote ∷ escaped is_quotable text ++ quote ∷ []
