-- The zero test of the digits before the point and of those behind it, put together.
use Prim.Native.Nat.{ℕ, suc, ◌+◌, ◌≤◌, suc-le-suc}
use mathlib.Core.Path.{◌≡◌, refl, sym, ap, ◌∙◌}
use mathlib.Core.Bool.{Bool, true, false}
use mathlib.Core.List.{List, [], ◌∷◌}
use native.Mathlib.Nat.{zero-add, add-zero}
use native.Mathlib.Omega.{arith}
use lib.ListN.{length, get_or, drop}
use Rattle.combinators.specs.Choice.{pick, and, is}
use Rattle.combinators.proofs.Rules.{pick-holds, and-true, and-gives, and-gives-false, is_true}
use Rattle.decimal.specs.Decimal.{digits, rounds_to_zero}
use Rattle.decimal.specs.Places.{places, all_zero, at_most}
use Rattle.decimal.specs.Looked.{looked_at, digits_test, zero_test}
use Rattle.decimal.specs.declared.ZeroTest.{ZeroTest}
use Rattle.decimal.proofs.Table.{digits-length}
use Rattle.decimal.proofs.Compare.{rounds-to-zero-digits}
use Rattle.decimal.proofs.Steps.{at-most-none, looked-same}

-- no more digits are looked at than there are
pub looked-within : (ds ts : List ℕ) → looked_at ds ts ≤ length ds
unfolding looked_at
looked-within [] ts = omega arith
looked-within (d ∷ ds) ts =
    suc-le-suc (pick-holds (λ n. n ≤ length ds) (is d (get_or ts 0 0)) (looked_at ds (drop 1 ts)) 0 (λ e. looked-within ds (drop 1 ts)) (λ e. omega arith))

-- so the count of a test's digits fits where their length does
pub test-within : (r : ZeroTest) (ts s : List ℕ) → r ≡ digits_test ts s → r.looked ≤ length s
unfolding digits_test
test-within r ts s e = rw (e, ← digits-length s) (looked-within (digits s) ts)

-- zeros before the point are all looked at
zeros-looked : (ds : List ℕ) → all_zero ds ≡ true → looked_at ds [] ≡ length ds
unfolding all_zero
zeros-looked [] e = unfold looked_at in refl
zeros-looked (d ∷ ds) e =
    let q = and-true (is d 0) (all_zero ds) e in
    looked-same d ds [] 0 refl (is_true d 0 q.0) ∙ ap suc (zeros-looked ds q.1)

-- ---- the test w of the digits i before the point, and the test b of the digits f behind it
module _ (i f : List ℕ) (w : ZeroTest) (e : w ≡ digits_test [] i) where
  -- the test says whether those before the point are all 0
  before-zero : w.zero ≡ all_zero (digits i)
  unfolding digits_test
  before-zero = ap (λ (t : ZeroTest). t.zero) e ∙ sym (at-most-none (digits i))

  -- zeros leave it to those behind the point
  pub zero-before : (b : ZeroTest) → b ≡ digits_test places f → w.zero ≡ true
      → record { zero = b.zero; looked = length i + b.looked } ≡ zero_test i f
  unfolding digits_test zero_test
  zero-before b k p =
      let z : all_zero (digits i) ≡ true = sym before-zero ∙ p in
      let a : at_most (digits f) places ≡ rounds_to_zero i f = and-gives _ _ _ z refl ∙ sym (rounds-to-zero-digits i f) in
      rw (k, a, z) (unfold pick in refl)

  -- any other digit decides
  pub not-zero-before : w.zero ≡ false → w ≡ zero_test i f
  unfolding digits_test zero_test
  not-zero-before p =
      let z : all_zero (digits i) ≡ false = sym before-zero ∙ p in
      let a : false ≡ rounds_to_zero i f = and-gives-false _ _ z ∙ sym (rounds-to-zero-digits i f) in
      e ∙ rw (← a, z, ← at-most-none (digits i), z) (unfold pick in refl)

-- without its count the test is the answer of document 01
pub answer-alone : (i f : List ℕ) (r : ZeroTest) → r ≡ zero_test i f → r.zero ≡ rounds_to_zero i f
unfolding zero_test
answer-alone i f r e = ap (λ (t : ZeroTest). t.zero) e

-- ---- a number that has one part only
-- digits before a point alone, against an empty table
pub whole-test : (s : List ℕ) → zero_test s [] ≡ digits_test [] s
unfolding digits_test zero_test digits at_most looked_at and pick
whole-test s = rw (rounds-to-zero-digits s [], ← at-most-none (digits s)) (go (all_zero (digits s)) refl)
  where
    go : (t : Bool) → all_zero (digits s) ≡ t
        → ◌≡◌ {A = ZeroTest} record { zero = and t true; looked = pick t (length s + 0) (looked_at (digits s) []) } record { zero = t; looked = looked_at (digits s) [] }
    go true e = rw (add-zero (length s), zeros-looked (digits s) e, digits-length s)
    go false e = refl

-- digits behind a point alone, against the places
pub decimals-test : (s : List ℕ) → zero_test [] s ≡ digits_test places s
unfolding digits_test zero_test all_zero digits and pick
decimals-test s = rw (rounds-to-zero-digits [] s, zero-add (looked_at (digits s) places))
