-- The comparison of digits with the places of 2^-150 is the comparison of the numbers.
use Prim.Native.Nat.{ℕ, zero, suc, ◌+◌, ◌*◌, ◌^◌, ◌≤◌, ◌<◌}
use mathlib.Core.Path.{◌≡◌, refl, sym, ap, ◌∙◌}
use mathlib.Core.Bool.{true, false}
use mathlib.Core.Logic.{⊎_elim}
use mathlib.Core.List.{List, [], ◌∷◌}
use native.Mathlib.Nat.{pow-suc, add-mul, mul_assoc, mul_comm, suc-mul, zero-mul, zero-add, mul-le-mul_left, mul-le-mul_right, mul-lt-mul_of_pos_right, eq-or-lt_of_le, le_of_mul-le-mul_right}
use native.Mathlib.Omega.{arith}
use borrow.Author.Tests.{lt-ltb, le-ltb, le-leb, lt-leb, leb-true}
use lib.Dec.{ltb, leb, lit<}
use lib.ListN.{length}
use Rattle.combinators.specs.Choice.{pick, and, is}
use Rattle.combinators.proofs.Rules.{lt-or-ge, same_test, pick_true, pick-false, is-yes, is-no, is_true, and-true, and_both, and-gives, and-gives-false}
use Rattle.decimal.specs.Decimal.{number, digits, numerator, denominator, rounds_to_zero}
use Rattle.decimal.specs.Places.{places, all_zero, at_most}
use Rattle.decimal.proofs.Table.{BelowTen, places-rule, places_count, places-below-ten, digits-below-ten, digits-length}

-- two orders of which each follows from the other
pub same-order : (a b c d : ℕ) → (a ≤ b → c ≤ d) → (c ≤ d → a ≤ b) → leb a b ≡ leb c d
same-order a b c d f g =
    same_test (leb a b) (leb c d) (λ e. le-leb c d (f (leb-true a b e))) (λ e. le-leb a b (g (leb-true c d e)))

-- a power of ten is not 0
pub ten-pos : (k : ℕ) → 0 < 10 ^ k
ten-pos zero = omega arith
ten-pos (suc k) = let h = ten-pos k in rw (pow-suc 10 k) (omega arith)

-- ---- digits that are all 0
-- a sum with a multiple is 0 exactly if both parts are
zero-sum : (d p n : ℕ) → 0 < p → and (is d 0) (is n 0) ≡ is (d * p + n) 0
zero-sum d p n h =
    same_test _ _
    (λ e.
    let q = and-true (is d 0) (is n 0) e in
    is-yes _ _ (rw (is_true d 0 q.0, is_true n 0 q.1, zero-mul p)))
    (λ e.
    let z = is_true (d * p + n) 0 e in
    let l : d * 1 ≤ d * p = mul-le-mul_left d h in
    and_both _ _ (is-yes d 0 (omega arith)) (is-yes n 0 (omega arith)))

-- digits are all 0 exactly if the number is
pub all-zero-number : (ds : List ℕ) → all_zero ds ≡ is (number ds) 0
unfolding all_zero number
all-zero-number [] = sym (is-yes 0 0 refl)
all-zero-number (d ∷ ds) = rw (all-zero-number ds) (zero-sum d (10 ^ length ds) (number ds) (ten-pos (length ds)))

-- ---- digits behind a point
-- n digits are below 10^n
number_lt : (ds : List ℕ) → BelowTen ds → number ds < 10 ^ length ds
unfolding number
number_lt [] h = omega arith
number_lt (d ∷ ds) h = rw (pow-suc 10 (length ds)) (leading (h 0) (number_lt ds (λ k. h (suc k))))
  where
    leading : {d v p : ℕ} → d < 10 → v < p → d * p + v < p * 10
    leading {d} {v} {p} h l = let m : d * p ≤ 9 * p = mul-le-mul_right p (omega arith) in omega arith

-- the leading digits d and t, and behind them the digits of v and w, as many as the powers of ten p and q have zeros
module _ (d t v w p q : ℕ) (hv : v < p) (hw : w < q) where
  -- the left side multiplied out, ten being a factor of all of it
  left : (d * p + v) * (q * 10) ≡ (d * (p * q) + v * q) * 10
  left = rw (← mul_assoc (d * p + v) q 10, add-mul (d * p) v q, mul_assoc d p q)

  -- the right side multiplied out, ten being a factor of all of it
  right : (t * q + w) * (p * 10) ≡ (t * (p * q) + w * p) * 10
  right = rw (← mul_assoc (t * q + w) p 10, add-mul (t * q) w p, mul_assoc t q p, mul_comm q p)

  -- the digits behind the leading ones make less than one of those
  left-rest : v * q < p * q
  left-rest = mul-lt-mul_of_pos_right hv (omega arith)

  -- on the right, too, the digits behind the leading one make less than one of those
  right-rest : w * p < p * q
  right-rest = rw (mul_comm p q) (mul-lt-mul_of_pos_right hw (omega arith))

  -- so the less leading digit is the less number
  below : d < t → (d * p + v) * (q * 10) ≤ (t * q + w) * (p * 10)
  below h =
      let l : suc d * (p * q) ≤ t * (p * q) = mul-le-mul_right (p * q) h in
      omega (arith, left, right, left-rest, suc-mul d (p * q))

  -- the greater leading digit is the greater number
  above : t < d → (t * q + w) * (p * 10) < (d * p + v) * (q * 10)
  above h =
      let l : suc t * (p * q) ≤ d * (p * q) = mul-le-mul_right (p * q) h in
      omega (arith, left, right, right-rest, suc-mul t (p * q))

  -- and equal ones leave it to the rest
  equal : t ≡ d → leb ((d * p + v) * (q * 10)) ((t * q + w) * (p * 10)) ≡ leb (v * q) (w * p)
  equal e =
      let m : t * (p * q) ≡ d * (p * q) = ap (λ (n : ℕ). n * (p * q)) e in
      same-order ((d * p + v) * (q * 10)) ((t * q + w) * (p * 10)) (v * q) (w * p)
      (λ h. omega (arith, left, right))
      (λ h. omega (arith, left, right))

  -- together: the leading digits decide unless they are equal
  leading-digit : leb ((d * p + v) * (q * 10)) ((t * q + w) * (p * 10)) ≡ pick (ltb d t) true (pick (ltb t d) false (leb (v * q) (w * p)))
  leading-digit =
      ⊎_elim
      (λ (h : d < t). pick_true _ _ _ _ (lt-ltb d t h) (le-leb _ _ (below h)))
      (λ (h : t ≤ d).
      pick-false _ _ _ _ (le-ltb d t h)
      (⊎_elim
      (λ (e : t ≡ d). pick-false _ _ _ _ (le-ltb t d (omega arith)) (equal e))
      (λ (l : t < d). pick_true _ _ _ _ (lt-ltb t d l) (lt-leb _ _ (above l)))
      (eq-or-lt_of_le h)))
      (lt-or-ge d t)

-- a number is at most 0 exactly if it is 0
is-at-most-zero : (n m : ℕ) → is n 0 ≡ leb (n * 1) (0 * m)
is-at-most-zero n m =
    same_test _ _
    (λ e. let z = is_true n 0 e in le-leb (n * 1) (0 * m) (omega arith))
    (λ e. let l = leb-true (n * 1) (0 * m) e in is-yes n 0 (omega arith))

-- digits compared one by one are compared as numbers: 0.d ≤ 0.t
pub at-most-number : (ds ts : List ℕ) → BelowTen ds → BelowTen ts
    → at_most ds ts ≡ leb (number ds * 10 ^ length ts) (number ts * 10 ^ length ds)
unfolding at_most number
at-most-number [] ts h k = sym (le-leb (0 * 10 ^ length ts) (number ts * 1) (omega arith))
at-most-number (d ∷ ds) [] h k = all-zero-number (d ∷ ds) ∙ is-at-most-zero (number (d ∷ ds)) (10 ^ length (d ∷ ds))
at-most-number (d ∷ ds) (t ∷ ts) h k =
    let hv = number_lt ds (λ n. h (suc n)) in
    let hw = number_lt ts (λ n. k (suc n)) in
    rw (pow-suc 10 (length ts), pow-suc 10 (length ds), at-most-number ds ts (λ n. h (suc n)) (λ n. k (suc n)))
    (sym (leading-digit d t (number ds) (number ts) (10 ^ length ds) (10 ^ length ts) hv hw))

-- ---- 2^-150: over variables, since `omega` takes no number of more than 38 digits
-- both sides of v / m ≤ 1 / p expanded by n
expand : (p n v m : ℕ) → 0 < n → leb (v * (p * n)) (n * m) ≡ leb (v * p) m
expand p n v m h =
    same-order (v * (p * n)) (n * m) (v * p) m
    (λ e. le_of_mul-le-mul_right (rw (mul_assoc v p n, mul_comm m n) e) h)
    (λ e. rw (← mul_assoc v p n, mul_comm n m) (mul-le-mul_right n e))

-- (n m + v) / m is at most 1 / p, p above 1, exactly if n is 0 and v / m is at most 1 / p
whole-and-rest : (n m v p : ℕ) → 0 < m → 1 < p → leb ((n * m + v) * p) m ≡ and (is n 0) (leb (v * p) m)
whole-and-rest n m v p hm hp =
    ⊎_elim
    (λ (h : 0 < n).
    let a : 1 * m ≤ n * m = mul-le-mul_right m h in
    let b : (n * m + v) * 2 ≤ (n * m + v) * p = mul-le-mul_left (n * m + v) hp in
    lt-leb ((n * m + v) * p) m (omega arith) ∙ and-gives-false _ _ (is-no n 0 (λ e. omega arith)))
    (λ (h : n ≤ 0).
    let z : n ≡ 0 = omega arith in
    and-gives _ _ _ (is-yes n 0 z) (rw (z, zero-mul m, zero-add v)))
    (lt-or-ge 0 n)

-- digits behind a point are at most the places exactly if the number that they stand for is at most 2^-150
pub at-most-places : (f : List ℕ) → leb (number (digits f) * 2 ^ 150) (10 ^ length f) ≡ at_most (digits f) places
at-most-places f =
    sym
    (at-most-number (digits f) places (digits-below-ten f) places-below-ten
    ∙ rw (places-rule, places_count, digits-length f) (expand (2 ^ 150) (5 ^ 150) (number (digits f)) (10 ^ length f) (lit< tt)))

-- "it is zero exactly if, sign aside, it is at most 2^-150": no digit before the point counts, and those behind it are at most the places
pub rounds-to-zero-digits : (i f : List ℕ) → rounds_to_zero i f ≡ and (all_zero (digits i)) (at_most (digits f) places)
unfolding rounds_to_zero numerator denominator
rounds-to-zero-digits i f =
    whole-and-rest (number (digits i)) (10 ^ length f) (number (digits f)) (2 ^ 150) (ten-pos (length f)) (lit< tt)
    ∙ rw (all-zero-number (digits i), at-most-places f)
