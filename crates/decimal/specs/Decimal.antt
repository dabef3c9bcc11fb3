-- When a decimal is at most 2^-150, the largest number that rounds to zero as an f32: the exact statement, on the digits before
-- and behind the point.
use Rattle.std.specs.Prelude.{ℕ, ◌+◌, ◌-◌, ◌*◌, ◌^◌, Bool, List, [], ◌∷◌, leb, length}
use Prim.Native.Char.{code as ascii}
use Rattle.combinators.specs.Choice.{pick, within}

-- what an ASCII digit is worth; any other byte counts as 0, so that the statement is about any bytes
unfoldable pub digit : ℕ → ℕ
digit x = pick (within x (ascii "0") (ascii "9")) (x - ascii "0") 0

-- digits read as one number
unfoldable pub number : List ℕ → ℕ
number [] = 0
number (d ∷ ds) = d * 10 ^ length ds + number ds

unfoldable pub digits : List ℕ → List ℕ
digits [] = []
digits (x ∷ xs) = digit x ∷ digits xs

-- the decimal whose digits before the point are i and behind it f, as a fraction
unfoldable pub numerator : List ℕ → List ℕ → ℕ
numerator i f = number (digits i) * 10 ^ length f + number (digits f)

unfoldable pub denominator : List ℕ → ℕ
denominator f = 10 ^ length f

-- "the decimal is rounded to the nearest f32, ties to even, so it is zero exactly if, sign aside, it is at most 2^-150": numerator / denominator ≤
-- 1 / 2^150
unfoldable pub rounds_to_zero : List ℕ → List ℕ → Bool
rounds_to_zero i f = leb (numerator i f * 2 ^ 150) (denominator f)
