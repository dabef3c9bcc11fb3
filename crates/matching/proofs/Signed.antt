-- Signed numbers of 64 bits: sizes of differences and quotients, tests on the bits that a local holds, and the returns of `nth` and `signed_of`.
use Prim.Native.Nat.{ℕ, zero, suc, ◌+◌, ◌-◌, ◌/◌, ◌%◌, ◌^◌, ◌≤◌, ◌<◌}
use mathlib.Core.Bool.{Bool, true, false, cond}
use mathlib.Core.Path.{◌≡◌, refl, sym, ap, ◌∙◌, subst}
use native.Mathlib.Nat.{div-le_self, zero-add}
use native.Mathlib.Omega.{arith}
use lib.Dec.{ltb, eqb}
use lib.IntN.{ℤ, pos, negsuc, neg_ℤ, nat_abs, ◌+ℤ◌, ◌-ℤ◌}
use lib.Signed.{le_z, quot_z, rem_z, mag_rem}
use mir.Syntax.{w64, w32}
use mir.Val.{SFits, Fits, to_z, of_z}
use mir.Facts.{to_z-of_z}
use mir.ValLaws.{sfits_le}
use borrow.Author.Tests.{eq-eqb, ne_eqb}
use Rattle.combinators.specs.Choice.{is}
use Rattle.combinators.proofs.Rules.{pick_true, pick-false, is-yes, is-no}
use Rattle.syntax.specs.Signed.{signed_of}
use Rattle.matching.specs.Nth.{Small, is_zero, nth_matches}

-- ---- sizes

-- |x - y| is at most |x| + |y| + 1
difference : (b : Bool) (a c : ℕ) → nat_abs (cond b (negsuc (c - suc a)) (pos (a - c))) ≤ a + c + 1
difference true a c = omega arith
difference false a c = omega arith

-- a number and its negative have the same size
neg-size : (y : ℤ) → nat_abs (neg_ℤ y) ≡ nat_abs y
neg-size (pos zero) = refl
neg-size (pos (suc n)) = refl
neg-size (negsuc n) = refl

-- |x + y| is at most |x| + |y| + 1
add-size : (x y : ℤ) → nat_abs (x +ℤ y) ≤ nat_abs x + nat_abs y + 1
add-size (pos a) (pos b) = omega arith
add-size (pos a) (negsuc b) = difference (ltb a (suc b)) a (suc b)
add-size (negsuc a) (pos b) = let h = difference (ltb b (suc a)) b (suc a) in omega arith
add-size (negsuc a) (negsuc b) = omega arith

-- a difference is in size at most both sizes and one
sub-size : (x y : ℤ) → nat_abs (x -ℤ y) ≤ nat_abs x + nat_abs y + 1
sub-size x y = let h = add-size x (neg_ℤ y) in let k = neg-size y in omega arith

-- |z / d| is at most |z|
neg-pos : (q : ℕ) → nat_abs (neg_ℤ (pos q)) ≡ q
neg-pos zero = refl
neg-pos (suc q) = refl

-- a quotient is in size no greater than what is divided
quot-size : (z d : ℤ) → nat_abs (quot_z z d) ≤ nat_abs z
quot-size (pos a) (pos b) = div-le_self a b
quot-size (pos a) (negsuc b) = rw (neg-pos (a / suc b)) (div-le_self a (suc b))
quot-size (negsuc a) (pos b) = rw (neg-pos (suc a / b)) (div-le_self (suc a) b)
quot-size (negsuc a) (negsuc b) = div-le_self (suc a) (suc b)

-- a signed number of a size below 2^63 fits 64 bits
fits-by-size : (z : ℤ) → nat_abs z < 2 ^ 63 → SFits w64 z
fits-by-size (pos n) h = record { sfits = h }
fits-by-size (negsuc n) h = record { sfits = omega arith }

-- ---- bits

-- the bits of a number are 0 where it is
zero_test : (z : ℤ) → SFits w64 z → eqb (of_z w64 z) 0 ≡ is_zero z
unfolding is_zero is
zero_test (pos n) f = refl
zero_test (negsuc n) f = let h : n < 2 ^ 63 = f.sfits in ne_eqb (2 ^ 64 - suc n) 0 (λ e. omega arith) ∙ sym (ne_eqb (suc n) 0 (λ e. omega arith))

-- a number below 2^63, read as one with a sign
pub read_back : (n : ℕ) → n < 2 ^ 63 → to_z w64 n ≡ pos n
read_back n h = to_z-of_z {w = w64} {z = pos n} (record { sfits = h })

-- ---- `nth`: x is the place as a number with a sign, of which nothing else is asked
module _ {a b x : ℤ} {idx : ℕ} (fa : SFits w64 a) (fb : SFits w64 b) (wide : x ≡ pos idx) (small : Small a b idx) where
  -- the place less b is in size below 2^63
  offset-size : nat_abs (pos idx -ℤ b) < 2 ^ 63
  offset-size = omega (arith, sub-size (pos idx) b, small.idx-small, small.b-small)

  -- so the place less b fits 64 bits with its sign
  offset-fits : SFits w64 (pos idx -ℤ b)
  offset-fits = fits-by-size (pos idx -ℤ b) offset-size

  -- so does its quotient by a
  quotient_fits : SFits w64 (quot_z (pos idx -ℤ b) a)
  quotient_fits = fits-by-size (quot_z (pos idx -ℤ b) a) (omega (arith, quot-size (pos idx -ℤ b) a, offset-size))

  -- the offset as it is computed and as it is read back, and a as it is read back
  abbrev D : ℤ
  D = to_z w64 (of_z w64 x) -ℤ to_z w64 (of_z w64 b)

  abbrev DD : ℤ
  DD = to_z w64 (of_z w64 D)

  abbrev AA : ℤ
  AA = to_z w64 (of_z w64 a)

  -- the offset as it is computed is the place less b
  d-is : D ≡ pos idx -ℤ b
  d-is =
      ap (λ (z : ℤ). z -ℤ to_z w64 (of_z w64 b)) (ap (λ (z : ℤ). to_z w64 (of_z w64 z)) wide ∙ read_back idx (omega (arith, small.idx-small)))
      ∙ ap (λ (y : ℤ). pos idx -ℤ y) (to_z-of_z fb)

  -- the offset as it is read back from its bits is the place less b
  dd-is : DD ≡ pos idx -ℤ b
  dd-is = ap (λ (z : ℤ). to_z w64 (of_z w64 z)) d-is ∙ to_z-of_z offset-fits

  -- the remainder as it is computed is that of the place less b, by a
  rem_is : rem_z DD AA ≡ rem_z (pos idx -ℤ b) a
  rem_is = ap (λ (z : ℤ). rem_z z AA) dd-is ∙ ap (λ (y : ℤ). rem_z (pos idx -ℤ b) y) (to_z-of_z fa)

  -- the quotient as it is computed is that of the place less b, by a
  quot_is : quot_z DD AA ≡ quot_z (pos idx -ℤ b) a
  quot_is = ap (λ (z : ℤ). quot_z z AA) dd-is ∙ ap (λ (y : ℤ). quot_z (pos idx -ℤ b) y) (to_z-of_z fa)

  -- the place less b fits 64 bits
  pub offset-computed : SFits w64 D
  offset-computed = subst (SFits w64) (sym d-is) offset-fits

  -- the quotient as it is computed fits 64 bits with its sign
  pub quotient-computed : SFits w64 (quot_z DD AA)
  quotient-computed = subst (SFits w64) (sym quot_is) quotient_fits

  -- the bits of the computed remainder are 0 exactly if the place less b is divided by a without remainder
  rem-test : eqb (of_z w64 (rem_z DD AA)) 0 ≡ is_zero (rem_z (pos idx -ℤ b) a)
  rem-test =
      ap (λ (z : ℤ). eqb (of_z w64 z) 0) rem_is
      ∙ zero_test (rem_z (pos idx -ℤ b) a) (sfits_le (mag_rem (pos idx -ℤ b) a) offset-fits)

  -- where a is 0 the place has to be b
  pub nth-constant : of_z w64 a ≡ 0 → eqb (of_z w64 D) 0 ≡ nth_matches a b idx
  unfolding nth_matches
  nth-constant z =
      pick_true _ _ _ (is_zero a) (sym (zero_test a fa) ∙ eq-eqb (of_z w64 a) 0 z)
      (ap (λ (y : ℤ). eqb (of_z w64 y) 0) d-is ∙ zero_test (pos idx -ℤ b) offset-fits)

  module _ (some : ¬ (of_z w64 a ≡ 0)) where
    -- where the bits of a are not 0, a is not 0
    a-some : is_zero a ≡ false
    a-some = sym (zero_test a fa) ∙ ne_eqb (of_z w64 a) 0 some

    -- the offset is a multiple of a
    pub nth-multiple : of_z w64 (rem_z DD AA) ≡ 0 → le_z (pos 0) (to_z w64 (of_z w64 (quot_z DD AA))) ≡ nth_matches a b idx
    unfolding nth_matches
    nth-multiple z =
        pick-false _ _ _ (is_zero a) a-some
        (pick_true _ _ _ (is_zero (rem_z (pos idx -ℤ b) a)) (sym rem-test ∙ eq-eqb (of_z w64 (rem_z DD AA)) 0 z)
        (ap (le_z (pos 0)) (ap (λ (y : ℤ). to_z w64 (of_z w64 y)) quot_is ∙ to_z-of_z quotient_fits)))

    -- where the remainder is not 0 the place is no multiple
    pub nth-other : ¬ (of_z w64 (rem_z DD AA) ≡ 0) → false ≡ nth_matches a b idx
    unfolding nth_matches
    nth-other z =
        pick-false _ _ _ (is_zero a) a-some
        (pick-false _ _ _ (is_zero (rem_z (pos idx -ℤ b) a)) (sym rem-test ∙ ne_eqb (of_z w64 (rem_z DD AA)) 0 z) refl)

-- ---- `signed_of`: h is the half with room for a sign
-- -1 less k is the negative number that is one greater in size than k
minus : (k : ℕ) → negsuc 0 -ℤ pos k ≡ negsuc k
minus zero = refl
minus (suc k) = ap (λ (j : ℕ). negsuc (suc j)) (zero-add k)

module _ {v : ℕ} {h : ℤ} (fv : Fits w32 v) (fh : SFits w64 h) (e : h ≡ pos (v / 2)) where
  -- half of a number of 32 bits is below 2^31
  half : v / 2 < 2 ^ 31
  half = let q : v < 2 ^ 32 = fv.fits in omega arith

  -- -1 less the half is the negative number that an odd one stands for
  odd_is : negsuc 0 -ℤ to_z w64 (of_z w64 h) ≡ negsuc (v / 2)
  odd_is = ap (λ (x : ℤ). negsuc 0 -ℤ x) (to_z-of_z fh ∙ e) ∙ minus (v / 2)

  -- the half reads back from its bits as it is
  even_is : to_z w64 (of_z w64 h) ≡ pos (v / 2)
  even_is = to_z-of_z fh ∙ e

  -- an even number is not negative
  pub signed-even : v % 2 ≡ 0 → to_z w64 (of_z w64 h) ≡ signed_of v
  unfolding signed_of
  signed-even z = pick_true _ _ _ (is (v % 2) 0) (is-yes (v % 2) 0 z) even_is

  -- the negative number that an odd one stands for fits 64 bits
  pub odd-computed : SFits w64 (negsuc 0 -ℤ to_z w64 (of_z w64 h))
  odd-computed = subst (SFits w64) (sym odd_is) (record { sfits = omega (arith, half) })

  -- the negative number reads back from its bits as it is
  back_is : to_z w64 (of_z w64 (negsuc 0 -ℤ to_z w64 (of_z w64 h))) ≡ negsuc (v / 2)
  back_is = to_z-of_z odd-computed ∙ odd_is

  -- an odd number is negative
  pub signed_odd : ¬ (v % 2 ≡ 0) → to_z w64 (of_z w64 (negsuc 0 -ℤ to_z w64 (of_z w64 h))) ≡ signed_of v
  unfolding signed_of
  signed_odd z = pick-false _ _ _ (is (v % 2) 0) (is-no (v % 2) 0 z) back_is
