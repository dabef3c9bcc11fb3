-- The zero test looks at no digit too few and at none too many: what specs/Decided.antt claims, of whole numbers and of decimals.
use Prim.Native.Nat.{ℕ, zero, suc, ◌+◌, ◌<◌}
use mathlib.Core.Path.{◌≡◌, refl, sym, ap, ◌∙◌}
use mathlib.Core.Bool.{Bool, false}
use mathlib.Core.Logic.{⊎_elim}
use mathlib.Core.List.{List, [], ◌∷◌, ◌++◌}
use native.Mathlib.Nat.{le_of_suc-le-suc}
use native.Mathlib.Omega.{arith}
use lib.ListN.{length, get_or, take, drop}
use lib.Seq.{get_or-drop, drop-drop}
use Rattle.combinators.specs.All.{All}
use Prim.Native.Char.{code as ascii}
use Rattle.combinators.specs.Choice.{and, is}
use Rattle.combinators.proofs.Rules.{never, pick_true, within-yes, same-or-other}
use Rattle.decimal.specs.Decimal.{digit, digits, rounds_to_zero}
use Rattle.decimal.specs.Places.{places, all_zero, at_most}
use Rattle.decimal.specs.Looked.{looked_at, digits_test, zero_test, written}
use Rattle.decimal.specs.Decided.{IsDigit, Depends, Decided}
use Rattle.decimal.specs.declared.ZeroTest.{ZeroTest}
use Rattle.decimal.proofs.Table.{BelowTen, places-below-ten, digits-length}
use Rattle.decimal.proofs.Steps.{at-most-same, at-most-other, looked-same, looked-other}
use Rattle.decimal.proofs.Parts.{looked-within, whole-test, decimals-test}

-- ---- digits ds against the table ts
-- what follows the digits that were looked at does not matter
looked-settles : (ds ts es : List ℕ) → looked_at ds ts < length ds → at_most (take (looked_at ds ts) ds ++ es) ts ≡ at_most ds ts
looked-settles [] ts es h = absurd (omega arith)
looked-settles (d ∷ ds) ts es h =
    let t = get_or ts 0 0 in
    ⊎_elim
    (λ (e : d ≡ t).
    let k = looked-same d ds ts t refl e in
    rw k (at-most-same d _ ts t refl e ∙ looked-settles ds (drop 1 ts) es (le_of_suc-le-suc (rw k at h)) ∙ sym (at-most-same d ds ts t refl e)))
    (λ (n : ¬ (d ≡ t)). rw (looked-other d ds ts t refl n) (sym (at-most-other d es ts t refl n) ∙ at-most-other d ds ts t refl n))
    (same-or-other d t)

-- after fewer the digits that follow are compared with the places that are left
looked-through : (ds ts es : List ℕ) (j : ℕ) → j < looked_at ds ts → at_most (take j ds ++ es) ts ≡ at_most es (drop j ts)
looked-through ds ts es zero h = refl
looked-through [] ts es (suc j) h = unfold looked_at in absurd (omega arith)
looked-through (d ∷ ds) ts es (suc j) h =
    let t = get_or ts 0 0 in
    ⊎_elim
    (λ (e : d ≡ t).
    at-most-same d _ ts t refl e
    ∙ looked-through ds (drop 1 ts) es j (le_of_suc-le-suc (rw (looked-same d ds ts t refl e) at h))
    ∙ ap (at_most es) (drop-drop j 1 ts ∙ ap (λ (n : ℕ). drop n ts) (one-add j)))
    (λ (n : ¬ (d ≡ t)). let l = looked-other d ds ts t refl n in absurd (omega arith))
    (same-or-other d t)
  where
    one-add : (j : ℕ) → 1 + j ≡ suc j
    one-add j = omega arith

-- the places themselves and a 1 behind them are above the places
places-and-one : (ts : List ℕ) → at_most (ts ++ (1 ∷ [])) ts ≡ false
places-and-one [] = unfold at_most all_zero and is in refl
places-and-one (t ∷ ts) = at-most-same t _ (t ∷ ts) t refl refl ∙ places-and-one ts

-- ---- digits as bytes
-- bytes behind others: their digits stand behind those of the others
digits_append : (a b : List ℕ) → digits (a ++ b) ≡ digits a ++ digits b
unfolding digits
digits_append [] b = refl
digits_append (x ∷ a) b = ap (λ ds. digit x ∷ ds) (digits_append a b)

-- the digits of the first j bytes
digits-take : (j : ℕ) (s : List ℕ) → digits (take j s) ≡ take j (digits s)
unfolding digits
digits-take zero s = refl
digits-take (suc j) [] = refl
digits-take (suc j) (x ∷ s) = ap (λ ds. digit x ∷ ds) (digits-take j s)

-- numbers below 10 are written as digits
written-digits : (ds : List ℕ) → BelowTen ds → All IsDigit (written ds)
unfolding written
written-digits [] h = tt
written-digits (d ∷ ds) h = let l = h 0 in ((omega arith, omega arith), written-digits ds (λ k. h (suc k)))

-- a number below 10 is what its digit is worth
digit-written : (d : ℕ) → d < 10 → digit (ascii "0" + d) ≡ d
unfolding digit
digit-written d h = sym (pick_true _ _ _ _ (within-yes (ascii "0" + d) (ascii "0") (ascii "9") (omega arith) (omega arith)) (omega arith))

-- and so of a list of them
digits-written : (ds : List ℕ) → BelowTen ds → digits (written ds) ≡ ds
unfolding digits written
digits-written [] h = refl
digits-written (d ∷ ds) h = rw (digit-written d (h 0), digits-written ds (λ k. h (suc k)))

-- numbers below 10 with a 1 behind them are below 10
one-below-ten : (ts : List ℕ) → BelowTen ts → BelowTen (ts ++ (1 ∷ []))
one-below-ten [] h zero = omega arith
one-below-ten [] h (suc k) = omega arith
one-below-ten (t ∷ ts) h zero = h 0
one-below-ten (t ∷ ts) h (suc k) = one-below-ten ts (λ k. h (suc k)) k

-- ---- a test that compares with a table, and gives the answer that is asked for
module _ (answer : List ℕ → Bool) (test : List ℕ → ZeroTest) (table : List ℕ) (b : BelowTen table)
    (a : (s : List ℕ) → (test s).zero ≡ answer s) (e : (s : List ℕ) → test s ≡ digits_test table s) where
  -- the answer of such a test is the comparison of the digits with the table
  test_zero : (s : List ℕ) → (test s).zero ≡ at_most (digits s) table
  unfolding digits_test
  test_zero s = ap (λ (r : ZeroTest). r.zero) (e s)

  -- its count is that of the digits that are looked at against the table
  test-looked : (s : List ℕ) → (test s).looked ≡ looked_at (digits s) table
  unfolding digits_test
  test-looked s = ap (λ (r : ZeroTest). r.looked) (e s)

  -- its answer for the first j digits of d and others behind them
  test-behind : (d s : List ℕ) (j : ℕ) → (test (take j d ++ s)).zero ≡ at_most (take j (digits d) ++ digits s) table
  test-behind d s j = test_zero (take j d ++ s) ∙ rw (digits_append (take j d) s, digits-take j d)

  -- with no digit behind them the answer is zero; with the table's own places and a 1 it is not
  depends : (d : List ℕ) (j : ℕ) → j < looked_at (digits d) table → Depends test (take j d)
  unfolding digits at_most
  depends d j h =
      record {
        one = [];
        other = written above;
        digits-one = tt;
        digits-other = written-digits above below-ten;
        differ = λ q. never (sym (behind (written above) ∙ rw (digits-written above below-ten) (places-and-one left)) ∙ sym q ∙ behind []);
      }
    where
      left : List ℕ
      left = drop j table

      above : List ℕ
      above = left ++ (1 ∷ [])

      below-ten : BelowTen above
      below-ten = one-below-ten left (λ k. rw (get_or-drop j table k 0) (b (j + k)))

      behind : (s : List ℕ) → (test (take j d ++ s)).zero ≡ at_most (digits s) left
      behind s = test-behind d s j ∙ looked-through (digits d) table (digits s) j h

  -- it ends where it is decided
  pub decided : (d : List ℕ) → Decided answer test d
  decided d =
      record {
        answered = a d;
        counted = rw (test-looked d, ← digits-length d) (looked-within (digits d) table);
        settled = λ h s.
            let k = test-looked d in
            rw k (test-behind d s (looked_at (digits d) table)
            ∙ looked-settles (digits d) table (digits s) (rw (digits-length d) (rw k at h))
            ∙ sym (test_zero d));
        needed = λ j h. depends d j (rw (test-looked d) at h);
      }

-- ---- the two kinds of numbers
-- a whole number: all digits stand before the point
pub whole-number-decided : (d : List ℕ) → Decided (λ s. rounds_to_zero s []) (λ s. zero_test s []) d
unfolding zero_test
whole-number-decided = decided (λ s. rounds_to_zero s []) (λ s. zero_test s []) [] (λ k. omega arith) (λ s. refl) whole-test

-- a decimal: all digits stand behind the point. No number has digits on both sides
pub decimals-decided : (d : List ℕ) → Decided (rounds_to_zero []) (zero_test []) d
unfolding zero_test
decimals-decided = decided (rounds_to_zero []) (zero_test []) places places-below-ten (λ s. refl) decimals-test
