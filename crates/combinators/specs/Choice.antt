-- Choices and tests. Each is shut, so that a proof goes by the laws of `proofs/Rules.antt`; a computed case opens them.
use Rattle.std.specs.Prelude.{ℕ, Bool, true, false, eqb, leb}

-- the first where the test holds, the second where it does not
unfoldable pub pick : {A : Type 0} → Bool → A → A → A
pick true a b = a
pick false a b = b

unfoldable pub or : Bool → Bool → Bool
or true b = true
or false b = b

unfoldable pub and : Bool → Bool → Bool
and true b = b
and false b = false

-- x is k
unfoldable pub is : ℕ → ℕ → Bool
is x k = eqb x k

-- x is from lo to hi, both included
unfoldable pub within : ℕ → ℕ → ℕ → Bool
within x lo hi = and (leb lo x) (leb x hi)
