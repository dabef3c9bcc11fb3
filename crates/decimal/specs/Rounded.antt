-- The decimal as an f32 (IEEE 754 binary32: rounded to the nearest, ties to even), and whether it equals zero.
use Rattle.std.specs.Prelude.{ℕ, ◌+◌, ◌≡◌, refl, Bool, true, false, List, [], ◌∷◌, ◌++◌, pos, Float, replicate}
use Rattle.std.specs.Float.{fin, binary32}
use Rattle.std.specs.Float.Ieee.{round, eq}
use Prim.Native.Char.{code as ascii}
use Rattle.combinators.specs.Choice.{pick, and, within}
use Rattle.decimal.specs.Decimal.{digit, number, digits, numerator, denominator, rounds_to_zero}

-- Rust's `x == 0.0`: IEEE 754 compares both zeros as equal
abbrev pub is_zero : Float → Bool
is_zero x = eq x (fin false 0 (pos 0))

-- the decimal with the digits i before the point and f behind it, negative if s, rounded to binary32
unfoldable pub decimal32 : Bool → List ℕ → List ℕ → Float
decimal32 s i f = round binary32 s (numerator i f) (denominator f)

-- 7 * 10^-46 is at most 2^-150
seven : rounds_to_zero [] (replicate 45 (ascii "0") ++ ((ascii "0" + 7) ∷ [])) ≡ true
unfolding rounds_to_zero numerator denominator number digits digit within and pick
seven = refl

-- 8 * 10^-46 is not
eight : rounds_to_zero [] (replicate 45 (ascii "0") ++ ((ascii "0" + 8) ∷ [])) ≡ false
unfolding rounds_to_zero numerator denominator number digits digit within and pick
eight = refl

-- "0" is, and "1" is not
no_fraction : (rounds_to_zero (ascii "0" ∷ []) [] ≡ true) × (rounds_to_zero ((ascii "0" + 1) ∷ []) [] ≡ false)
unfolding rounds_to_zero numerator denominator number digits digit within and pick
no_fraction = (refl, refl)
