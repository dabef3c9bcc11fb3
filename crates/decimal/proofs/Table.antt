-- The table of the decimal places of 2^-150: what it is as a number, and that its entries are digits.
use Prim.Native.Nat.{ℕ, zero, suc, ◌^◌, ◌<◌}
use mathlib.Core.Path.{◌≡◌, refl, ap}
use mathlib.Core.Bool.{Bool, true}
use mathlib.Core.List.{List, [], ◌∷◌}
use native.Mathlib.Omega.{arith}
use borrow.Author.Tests.{ltb-true}
use lib.Dec.{ltb}
use lib.ListN.{length, get_or}
use Prim.Native.Char.{code as ascii}
use Rattle.combinators.specs.Choice.{and}
use Rattle.combinators.proofs.Rules.{and-true, pick-holds, within-true}
use Rattle.decimal.specs.Decimal.{digit, number, digits}
use Rattle.decimal.specs.Places.{places}

-- "The table of the 150 decimal places of 2^-150, read as one number, is 5^150"
pub places-rule : number places ≡ 5 ^ 150
unfolding number places
places-rule = refl

-- the table has 150 places
pub places_count : length places ≡ 150
unfolding places
places_count = refl

-- ---- digits are below 10
-- each number of the list is below 10
abbrev pub BelowTen : List ℕ → Type 0
BelowTen ds = (k : ℕ) → get_or ds k 0 < 10

-- the same as a test, which computes
unfoldable all_below_ten : List ℕ → Bool
all_below_ten [] = true
all_below_ten (d ∷ ds) = and (ltb d 10) (all_below_ten ds)

-- the test says so of each
all-below-ten : (ds : List ℕ) → all_below_ten ds ≡ true → BelowTen ds
unfolding all_below_ten
all-below-ten [] e k = omega arith
all-below-ten (d ∷ ds) e zero = ltb-true d 10 (and-true (ltb d 10) (all_below_ten ds) e).0
all-below-ten (d ∷ ds) e (suc k) = all-below-ten ds (and-true (ltb d 10) (all_below_ten ds) e).1 k

-- each place of the table is a digit
pub places-below-ten : BelowTen places
unfolding all_below_ten places and
places-below-ten = all-below-ten places refl

-- and what any byte is worth
digit-below-ten : (x : ℕ) → digit x < 10
unfolding digit
digit-below-ten x =
    pick-holds (λ n. n < 10) _ _ _
    (λ e. let p = within-true x (ascii "0") (ascii "9") e in omega (arith, p))
    (λ e. omega arith)

-- the digits that are read of a text are each below ten
pub digits-below-ten : (s : List ℕ) → BelowTen (digits s)
unfolding digits
digits-below-ten [] k = omega arith
digits-below-ten (x ∷ s) zero = digit-below-ten x
digits-below-ten (x ∷ s) (suc k) = digits-below-ten s k

-- there is a digit for each byte
pub digits-length : (s : List ℕ) → length (digits s) ≡ length s
unfolding digits
digits-length [] = refl
digits-length (x ∷ s) = ap suc (digits-length s)
