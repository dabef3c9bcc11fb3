-- IEEE 754: the value of a format nearest to num / den, ties to even, equals zero exactly if num / den is at most half of the
-- format's smallest positive value. That is 2^-low, and for binary32 low is 149.
use Prim.Native.Nat.{ℕ, zero, suc, ◌+◌, ◌-◌, ◌*◌, ◌/◌, ◌%◌, ◌^◌, ◌≤◌, ◌<◌, compare, Ordering}
use mathlib.Core.Path.{◌≡◌, refl, sym, ap, ◌∙◌}
use mathlib.Core.Bool.{Bool, true, false, cond}
use mathlib.Core.Logic.{⊎_elim}
use mathlib.Core.List.{List}
use native.Mathlib.Nat.{le_trans, mul-one, zero-mul, mul_comm, mul_assoc, mul-pos, mul-le-mul_left, mod-eq_of_lt, le-div_iff_mul-le, pow-suc}
use native.Mathlib.Omega.{arith}
use borrow.Author.Tests.{ltb-false, le-leb, lt-leb, eq-eqb, ne_eqb}
use lib.Count.{count_trailing_zeros}
use lib.Dec.{leb, ltb, eqb, is_le, lit<}
use lib.Ieee.{inf, Format, binary32, prec, emax, low, up, down, minus, size, nearest, odd, units, round, eq}
use lib.Ieee.Digits.{size_reaches, odd_val}
use lib.Ieee.Fits.{round_is, two, two-le_pos, down_pos}
use lib.Ieee.Nearest.{closest, closest_mono, nearest-ge}
use lib.Ieee.Order.{drop}
use lib.ListN.{length}
use lib.Pow.{pow_pos}
use Rattle.combinators.proofs.Rules.{lt-or-ge}
use Rattle.decimal.specs.Decimal.{numerator, denominator, rounds_to_zero}
use Rattle.decimal.specs.Rounded.{is_zero, decimal32}
use Rattle.decimal.proofs.Compare.{same-order, ten-pos}

-- ---- q units of 2^k equal zero exactly if q is 0
-- a times a power of two is not 0, so a is not
no_zero : (a q k d l : ℕ) → 0 < d → a * 2 ^ l ≡ suc q * 2 ^ k * d → ¬ (a ≡ 0)
no_zero a q k d l h p z =
    let w : 0 < suc q * 2 ^ k * d = mul-pos (mul-pos (positive q) (pow_pos k)) h in
    let y : a * 2 ^ l ≡ 0 = rw z (zero-mul (2 ^ l)) in
    omega arith
  where
    positive : (n : ℕ) → 0 < suc n
    positive n = omega arith

-- with the significand made odd
odd-zero : (d : ℕ) (s : Bool) (q k l : ℕ) → is_zero (odd d s q k l) ≡ eqb q 0
unfolding odd eq
odd-zero d true zero k l = refl
odd-zero d false zero k l = refl
odd-zero d s (suc q) k l =
    let t = count_trailing_zeros d (suc q) in
    let m = suc q / 2 ^ t in
    let e = minus (k + t) l in
    let v : m * up e * 2 ^ l ≡ suc q * 2 ^ k * down e = odd_val d s (suc q) k l in
    let n = no_zero (m * up e) q k (down e) l (down_pos e) v in
    rw (ne_eqb (m * up e * 1) (0 * down e) (λ z. n (omega arith)), ne_eqb (suc q) 0 (λ z. omega arith))

-- with an overflow to infinity
units-zero : (f : Format) (s : Bool) (q k : ℕ) → is_zero (units f s q k) ≡ eqb q 0
unfolding units
units-zero f s q k = go (ltb (q * 2 ^ k) (2 ^ (low f + suc (emax f)))) (ltb-false (q * 2 ^ k) (2 ^ (low f + suc (emax f))))
  where
    high : (q k v : ℕ) → 0 < v → v ≤ q * 2 ^ k → ¬ (q ≡ 0)
    high q k v p h z = let y : q * 2 ^ k ≡ 0 = rw z (zero-mul (2 ^ k)) in omega arith

    go : (b : Bool) → (b ≡ false → 2 ^ (low f + suc (emax f)) ≤ q * 2 ^ k)
        → is_zero (cond b (odd (suc (prec f)) s q k (low f)) (inf s)) ≡ eqb q 0
    go true h = odd-zero (suc (prec f)) s q k (low f)
    go false h = unfold eq in sym (ne_eqb q 0 (high q k (2 ^ (low f + suc (emax f))) (pow_pos (low f + suc (emax f))) (h refl)))

-- ---- the whole number nearest to a / b
-- above a half the next is the nearest
above_half : (w : ℕ) (o : Ordering) → is_le o ≡ false → nearest w o ≡ suc w
above_half w Ordering.lt e = absurd (let z : ◌≡◌ {A = ℕ} 0 1 = cc in omega arith)
above_half w Ordering.eq e = absurd (let z : ◌≡◌ {A = ℕ} 0 1 = cc in omega arith)
above_half w Ordering.gt e = refl

module _ (a b : ℕ) (B : 0 < b) where
  -- up to a half it is 0: a tie goes to the even one
  nearest-is-zero : a * 2 ≤ b → closest a b ≡ 0
  nearest-is-zero h = let z : closest a b ≤ closest 1 2 = closest_mono a b 1 2 B (lit< tt) (omega arith) in omega (arith, z)

  -- above a half it is not
  nearest-is-positive : b < a * 2 → 0 < closest a b
  nearest-is-positive h =
      ⊎_elim
      (λ (l : a < b).
      let g : closest a b ≡ suc (a / b) = above_half (a / b) (compare (a % b * 2) b) (lt-leb (a % b * 2) b (rw (mod-eq_of_lt l) h)) in
      omega (arith, g))
      (λ (l : b ≤ a). le_trans ((le-div_iff_mul-le B).1 (omega arith)) (nearest-ge (a / b) (compare (a % b * 2) b)))
      (lt-or-ge a b)

  -- the whole number nearest to a / b is 0 exactly if twice a is at most b
  closest-zero : eqb (closest a b) 0 ≡ leb (a * 2) b
  closest-zero =
      ⊎_elim
      (λ (h : b < a * 2). ne_eqb (closest a b) 0 (λ z. let p = nearest-is-positive h in omega (arith, p, z)) ∙ sym (lt-leb (a * 2) b h))
      (λ (h : a * 2 ≤ b). eq-eqb (closest a b) 0 (nearest-is-zero h) ∙ sym (le-leb (a * 2) b h))
      (lt-or-ge b (a * 2))

-- ---- where binary digits are dropped to fit the precision, n / den is not small
module _ (f : Format) (n den : ℕ) (D : 0 < den) where
  -- of none, none is dropped
  none_dropped : (z p : ℕ) → z ≤ 0 → z - p ≡ 0
  none_dropped z p e = omega arith

  -- of some, not all are
  not-all-dropped : (z p : ℕ) → 0 < p → 0 < z → z - p < z
  not-all-dropped z p P Z = omega arith

  -- so what is at most half a unit with them dropped is at most half a unit
  small-before : n * 2 ≤ den * 2 ^ drop (prec f) n den → n * 2 ≤ den
  small-before h =
      let z = size (n / den) in
      let k = z - prec f in
      ⊎_elim
      (λ (Z : 0 < z).
      let r : 2 ^ k * den ≤ n = (le-div_iff_mul-le D).0 (size_reaches (n / den) k (not-all-dropped z (prec f) (two-le_pos (prec f) (two f)) Z)) in
      let c : 2 ^ k * den ≡ den * 2 ^ k = mul_comm (2 ^ k) den in
      let p : 0 < den * 2 ^ k = mul-pos D (pow_pos k) in
      absurd (omega arith))
      (λ (e : z ≤ 0). rw (none_dropped z (prec f) e, mul-one den) at h)
      (lt-or-ge 0 z)

  -- and what is at most half a unit is so with them dropped
  small-after : n * 2 ≤ den → n * 2 ≤ den * 2 ^ drop (prec f) n den
  small-after h =
      let k = drop (prec f) n den in
      let q : den * 1 ≤ den * 2 ^ k = mul-le-mul_left den (pow_pos k) in
      omega arith

-- ---- for any format: up to half of the smallest positive value
-- a fraction rounds to zero exactly if it is at most half of the format's smallest positive value
round-zero : (f : Format) (s : Bool) (num den : ℕ) → 0 < den → is_zero (round f s num den) ≡ leb (num * 2 ^ suc (low f)) den
round-zero f s num den D =
    let n = num * 2 ^ low f in
    let k = drop (prec f) n den in
    let u = den * 2 ^ k in
    let t : n * 2 ≡ num * 2 ^ suc (low f) = mul_assoc num (2 ^ low f) 2 ∙ ap (λ (x : ℕ). num * x) (sym (pow-suc 2 (low f))) in
    ap is_zero (round_is f s num den)
    ∙ units-zero f s (closest n u) k
    ∙ closest-zero n u (mul-pos D (pow_pos k))
    ∙ same-order (n * 2) u (n * 2) den (small-before f n den D) (small-after f n den D)
    ∙ ap (λ (x : ℕ). leb x den) t

-- a fraction as an f32 is zero exactly if it is at most 2^-150
pub rounds-to-zero : (s : Bool) (num den : ℕ) → 0 < den → is_zero (round binary32 s num den) ≡ leb (num * 2 ^ 150) den
rounds-to-zero = round-zero binary32

-- "the decimal is rounded to the nearest f32, ties to even, so it is zero exactly if, sign aside, it is at most 2^-150"
pub zero-test : (s : Bool) (i f : List ℕ) → is_zero (decimal32 s i f) ≡ rounds_to_zero i f
unfolding decimal32 rounds_to_zero denominator
zero-test s i f = rounds-to-zero s (numerator i f) (10 ^ length f) (ten-pos (length f))
