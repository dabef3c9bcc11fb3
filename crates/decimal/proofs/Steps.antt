-- What the code finds at a byte, and at an index of the digits, says what the definitions say.
use Prim.Native.Nat.{ℕ, suc, ◌+◌, ◌<◌, ◌≤◌}
use mathlib.Core.Path.{◌≡◌, refl, sym, ap, ◌∙◌}
use mathlib.Core.Bool.{true, false}
use mathlib.Core.Logic.{⊎_elim}
use mathlib.Core.List.{List, [], ◌∷◌}
use native.Mathlib.Nat.{zero-add, add-zero}
use native.Mathlib.Numerals.{add-one}
use native.Mathlib.Omega.{arith}
use borrow.Author.Tests.{lt-ltb, le-ltb}
use lib.Dec.{ltb}
use lib.ListN.{length, get_or, drop, drop_of_length-le}
use lib.Seq.{drop-cons, drop-drop}
use Rattle.combinators.specs.Choice.{pick}
use Rattle.combinators.proofs.Lists.{first}
use Rattle.combinators.proofs.Rules.{lt-or-ge, pick_true, pick-false, is-yes, is-no, and-gives, and-gives-false}
use Rattle.decimal.specs.Decimal.{digit, digits}
use Rattle.decimal.specs.Places.{all_zero, at_most}
use Rattle.decimal.specs.Looked.{looked_at, digits_test}

-- ---- the digits of s from i on
-- at its end there are none
digits-end : (s : List ℕ) (i : ℕ) → length s ≤ i → digits (drop i s) ≡ []
unfolding digits
digits-end s i h = rw (drop_of_length-le s h)

-- before it, d is the first
digits_from : (s : List ℕ) (i d : ℕ) → i < length s → d ≡ digit (get_or s i 0) → digits (drop i s) ≡ d ∷ digits (drop (i + 1) s)
unfolding digits
digits_from s i d h e = rw (e, add-one i, drop-cons s i 0 h)

-- ---- whether digits are all 0
module _ (d : ℕ) (ds : List ℕ) where
  -- a digit that is not 0 decides
  nonzero-decides : ¬ (d ≡ 0) → false ≡ all_zero (d ∷ ds)
  unfolding all_zero
  nonzero-decides p = and-gives-false _ _ (is-no d 0 p)

  -- a 0 leaves it to the digits behind it
  zero-passes : d ≡ 0 → all_zero ds ≡ all_zero (d ∷ ds)
  unfolding all_zero
  zero-passes p = and-gives _ _ _ (is-yes d 0 p) refl

-- none but zeros are at most no digits
pub at-most-none : (ds : List ℕ) → all_zero ds ≡ at_most ds []
unfolding at_most all_zero
at-most-none [] = refl
at-most-none (d ∷ ds) = refl

-- ---- digits compared with those of ts, which go on with zeros: the first decides unless it is equal
at-most-first : (d : ℕ) (ds ts : List ℕ)
    → at_most (d ∷ ds) ts ≡ pick (ltb d (get_or ts 0 0)) true (pick (ltb (get_or ts 0 0) d) false (at_most ds (drop 1 ts)))
unfolding at_most
at-most-first d ds (t ∷ ts) = refl
at-most-first d ds [] =
    pick-false _ _ _ _ (le-ltb d 0 (omega arith))
    (⊎_elim
    (λ (h : 0 < d). pick_true _ _ _ _ (lt-ltb 0 d h) (sym (nonzero-decides d ds (λ e. omega arith))))
    (λ (h : d ≤ 0). pick-false _ _ _ _ (le-ltb 0 d h) (sym (zero-passes d ds (omega arith)) ∙ at-most-none ds))
    (lt-or-ge 0 d))

-- d stands before the digits ds, and the first of ts is t
module _ (d : ℕ) (ds ts : List ℕ) (t : ℕ) (k : t ≡ get_or ts 0 0) where
  -- the first digits decide unless they are equal
  first-digits : at_most (d ∷ ds) ts ≡ pick (ltb d t) true (pick (ltb t d) false (at_most ds (drop 1 ts)))
  first-digits = at-most-first d ds ts ∙ rw k

  -- equal ones leave it to those behind them
  pub at-most-same : d ≡ t → at_most (d ∷ ds) ts ≡ at_most ds (drop 1 ts)
  at-most-same e =
      first-digits ∙ sym (pick-false _ _ _ _ (le-ltb d t (omega arith)) (pick-false _ _ _ _ (le-ltb t d (omega arith)) refl))

  -- others decide: the less digit is that of the less number
  pub at-most-other : ¬ (d ≡ t) → ltb d t ≡ at_most (d ∷ ds) ts
  at-most-other n =
      ⊎_elim
      (λ (h : d < t). lt-ltb d t h ∙ pick_true _ _ _ _ (lt-ltb d t h) refl)
      (λ (h : t ≤ d). le-ltb d t h ∙ pick-false _ _ _ _ (le-ltb d t h) (pick_true _ _ _ _ (lt-ltb t d (above h)) refl))
      (lt-or-ge d t)
      ∙ sym first-digits
    where
      above : t ≤ d → t < d
      above h = ⊎_elim (λ (l : t < d). l) (λ (l : d ≤ t). absurd (n (omega arith))) (lt-or-ge t d)

  -- behind equal ones it is looked on
  pub looked-same : d ≡ t → looked_at (d ∷ ds) ts ≡ suc (looked_at ds (drop 1 ts))
  unfolding looked_at
  looked-same e = ap suc (sym (pick_true _ _ _ _ (is-yes d _ (e ∙ k)) refl))

  -- behind others it is not
  pub looked-other : ¬ (d ≡ t) → looked_at (d ∷ ds) ts ≡ 1
  unfolding looked_at
  looked-other n = ap suc (sym (pick-false _ _ _ _ (is-no d _ (λ e. n (e ∙ sym k))) refl))

-- ---- the test of the digits of s, of which the first i are those of ts
pub record Compared (s ts : List ℕ) (i : ℕ) : Type 0 where
  -- those that are left have the answer of all,
  same : at_most (digits s) ts ≡ at_most (digits (drop i s)) (drop i ts)
  -- and the first i were looked at
  counted : looked_at (digits s) ts ≡ i + looked_at (digits (drop i s)) (drop i ts)

-- before the first digit
pub compared-none : (s ts : List ℕ) → Compared s ts 0
compared-none s ts = record { same = refl; counted = sym (zero-add _) }

-- d is the digit at i, and t that of ts
module _ (s ts : List ℕ) (i d t : ℕ) (h : i < length s) (e : d ≡ digit (get_or s i 0)) (k : t ≡ get_or ts i 0) (v : Compared s ts i) where
  -- t is the first of what is left of ts
  place : t ≡ get_or (drop i ts) 0 0
  place = k ∙ sym (first ts i)

  -- they differ: the test is decided
  pub digit-differs : ¬ (d ≡ t) → record { zero = ltb d t; looked = i + 1 } ≡ digits_test ts s
  unfolding digits_test
  digit-differs n =
      let a = v.same ∙ ap (λ ds. at_most ds (drop i ts)) (digits_from s i d h e) ∙ sym (at-most-other d _ (drop i ts) t place n) in
      let l = v.counted ∙ ap (λ ds. i + looked_at ds (drop i ts)) (digits_from s i d h e) ∙ ap (λ m. i + m) (looked-other d _ (drop i ts) t place n) in
      rw (a, l)

  -- they are equal: one more is looked at
  pub digit-equal : d ≡ t → Compared s ts (i + 1)
  digit-equal q =
      record {
        same =
            v.same
            ∙ ap (λ ds. at_most ds (drop i ts)) (digits_from s i d h e)
            ∙ at-most-same d _ (drop i ts) t place q
            ∙ rw (drop-drop 1 i ts);
        counted =
            v.counted
            ∙ ap (λ ds. i + looked_at ds (drop i ts)) (digits_from s i d h e)
            ∙ ap (λ m. i + m) (looked-same d _ (drop i ts) t place q)
            ∙ rw (drop-drop 1 i ts) (one_more i _);
      }
    where
      one_more : (i m : ℕ) → i + suc m ≡ i + 1 + m
      one_more i m = omega arith

-- no digit is left, and none differed
pub digits-equal : (s ts : List ℕ) (i : ℕ) → length s ≤ i → Compared s ts i → record { zero = true; looked = i } ≡ digits_test ts s
unfolding digits_test at_most looked_at
digits-equal s ts i h v =
    let a : at_most (digits s) ts ≡ true = v.same ∙ ap (λ ds. at_most ds (drop i ts)) (digits-end s i h) in
    let l : looked_at (digits s) ts ≡ i = v.counted ∙ ap (λ ds. i + looked_at ds (drop i ts)) (digits-end s i h) ∙ add-zero i in
    rw (a, l)
