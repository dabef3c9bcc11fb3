-- A signed number is a multiple of another by a factor of 0 or more exactly if the remainder is 0 and the quotient is not negative; nth-child(an+b) by that.
use Prim.Native.Nat.{ℕ, zero, suc, ◌*◌, ◌/◌, ◌%◌}
use mathlib.Core.Bool.{Bool, true, false}
use mathlib.Core.Path.{◌≡◌, refl, sym, ap, ◌∙◌}
use native.Mathlib.Nat.{zero-mod, zero-div, mod-add-div, mul-mod_right, mul-zero}
use native.Mathlib.Omega.{arith}
use borrow.Author.Tests.{le-leb}
use lib.IntN.{ℤ, pos, negsuc, neg_ℤ, nat_abs, ◌+ℤ◌, ◌-ℤ◌, ◌*ℤ◌, pos-ne-negsuc, zero-*ℤ, +ℤ-neg_ℤ_cancel, -ℤ-+ℤ_cancel}
use lib.Signed.{le_z, quot_z, rem_z}
use Rattle.combinators.specs.Choice.{pick}
use Rattle.combinators.proofs.Rules.{never, is_true, is-yes}
use Rattle.matching.specs.Nth.{is_zero, nth_matches, NthChild}

-- ---- 0
-- a number that is tested to be 0 is 0
pub zero_is : (z : ℤ) → is_zero z ≡ true → z ≡ pos 0
unfolding is_zero
zero_is (pos n) e = ap pos (is_true n 0 e)
zero_is (negsuc n) e = let h : suc n ≡ 0 = is_true (suc n) 0 e in absurd (omega arith)

-- 0 passes the test for 0
is-zero : (z : ℤ) → z ≡ pos 0 → is_zero z ≡ true
unfolding is_zero
is-zero z e = ap (λ (x : ℤ). is_zero x) e ∙ is-yes 0 0 refl

-- a number whose negative is 0 is 0
neg-zero : (r : ℕ) → neg_ℤ (pos r) ≡ pos 0 → r ≡ 0
neg-zero zero e = refl
neg-zero (suc r) e = absurd (pos-ne-negsuc 0 r (sym e))

-- the negative of a number is not negative only where it is 0
neg-le : (r : ℕ) → le_z (pos 0) (neg_ℤ (pos r)) ≡ true → r ≡ 0
neg-le zero e = refl
neg-le (suc r) e = never e

-- numbers that are equal as signed ones are equal as natural ones
pos-is : {m n : ℕ} → pos m ≡ pos n → m ≡ n
pos-is e = cc

-- ---- multiples

-- d is a times a number that is not negative
abbrev pub Times : ℤ → ℤ → Type 0
Times d a = (n : ℕ) × (d ≡ a *ℤ pos n)

-- where the remainder is 0, a number is the divisor times the quotient
whole : (x m : ℕ) → x % m ≡ 0 → x ≡ m * (x / m)
whole x m e = let h = mod-add-div x m in omega arith

-- with remainder 0 and a quotient that is not negative, the quotient is the factor
times : (d a : ℤ) → rem_z d a ≡ pos 0 → le_z (pos 0) (quot_z d a) ≡ true → Times d a
times (pos x) (pos m) r q = (x / m, ap pos (whole x m (pos-is r)))
times (pos x) (negsuc y) r q =
    let e : x / suc y ≡ 0 = neg-le (x / suc y) q in
    let f : x ≡ suc y * (x / suc y) = whole x (suc y) (pos-is r) in
    (0, ap pos (f ∙ ap (λ (k : ℕ). suc y * k) e ∙ mul-zero (suc y)) ∙ sym (ap (λ (k : ℕ). neg_ℤ (pos k)) (mul-zero (suc y))))
times (negsuc x) (pos m) r q =
    let e : suc x / m ≡ 0 = neg-le (suc x / m) q in
    let f : suc x ≡ m * (suc x / m) = whole (suc x) m (neg-zero (suc x % m) r) in
    let g : suc x ≡ 0 = f ∙ ap (λ (k : ℕ). m * k) e ∙ mul-zero m in
    absurd (omega arith)
times (negsuc x) (negsuc y) r q =
    (suc x / suc y, ap (λ (k : ℕ). neg_ℤ (pos k)) (whole (suc x) (suc y) (neg-zero (suc x % suc y) r)))

-- the remainder of a negative number is the negative of the remainder of its size
rem-neg : (t : ℕ) (d : ℤ) → rem_z (neg_ℤ (pos t)) d ≡ neg_ℤ (pos (t % nat_abs d))
rem-neg zero d = rw (zero-mod (nat_abs d))
rem-neg (suc t) d = refl

-- a number that is 0 or negative, divided by a negative one, has the quotient of their sizes
quot-neg : (t y : ℕ) → quot_z (neg_ℤ (pos t)) (negsuc y) ≡ pos (t / suc y)
quot-neg zero y = rw (zero-div (suc y))
quot-neg (suc t) y = refl

-- a multiple leaves no remainder
rem-times : (a : ℤ) (n : ℕ) → rem_z (a *ℤ pos n) a ≡ pos 0
rem-times (pos m) n = ap pos (mul-mod_right m n)
rem-times (negsuc y) n = rem-neg (suc y * n) (negsuc y) ∙ ap (λ (k : ℕ). neg_ℤ (pos k)) (mul-mod_right (suc y) n)

-- and its quotient is not negative
quot-times : (a : ℤ) (n : ℕ) → le_z (pos 0) (quot_z (a *ℤ pos n) a) ≡ true
quot-times (pos m) n = le-leb 0 (m * n / m) (omega arith)
quot-times (negsuc y) n = rw (quot-neg (suc y * n) y) (le-leb 0 (suc y * n / suc y) (omega arith))

-- what is a times some n of 0 or more leaves no remainder by a
times-rem : (d a : ℤ) → Times d a → rem_z d a ≡ pos 0
times-rem d a w = ap (λ (z : ℤ). rem_z z a) w.1 ∙ rem-times a w.0

-- what is a times some n of 0 or more has a quotient by a that is not negative
times-quot : (d a : ℤ) → Times d a → le_z (pos 0) (quot_z d a) ≡ true
times-quot d a w = ap (λ (z : ℤ). le_z (pos 0) (quot_z z a)) w.1 ∙ quot-times a w.0

-- ---- nth-child

-- p: a is 0, z: the offset is 0, r: the remainder is 0, q: the quotient is not negative
module _ (a d : ℤ) where
  -- where the test passes, d is a times some n of 0 or more
  sound : (p z r q : Bool) → is_zero a ≡ p → is_zero d ≡ z → is_zero (rem_z d a) ≡ r → le_z (pos 0) (quot_z d a) ≡ q → pick p z (pick r q false) ≡ true → Times d a
  unfolding pick
  sound true z r q ea ed er eq e = (0, zero_is d (ed ∙ e) ∙ sym (ap (λ (x : ℤ). x *ℤ pos 0) (zero_is a ea)))
  sound false z true q ea ed er eq e = times d a (zero_is (rem_z d a) er) (eq ∙ e)
  sound false z false q ea ed er eq e = never e

  -- where d is a times some n of 0 or more, the test passes
  complete : (p z r q : Bool) → is_zero a ≡ p → is_zero d ≡ z → is_zero (rem_z d a) ≡ r → le_z (pos 0) (quot_z d a) ≡ q → Times d a → pick p z (pick r q false) ≡ true
  unfolding pick
  complete true z r q ea ed er eq w = sym ed ∙ is-zero d (w.1 ∙ ap (λ (x : ℤ). x *ℤ pos w.0) (zero_is a ea) ∙ zero-*ℤ (pos w.0))
  complete false z true q ea ed er eq w = sym eq ∙ times-quot d a w
  complete false z false q ea ed er eq w = never (sym er ∙ is-zero (rem_z d a) (times-rem d a w))

-- the test says whether idx is a·n + b for some n of 0 or more
pub nth-sound : (a b : ℤ) (idx : ℕ) → nth_matches a b idx ≡ true → NthChild a b idx
unfolding nth_matches
nth-sound a b idx e =
    let w = sound a (pos idx -ℤ b) _ _ _ _ refl refl refl refl e in
    (w.0, sym (-ℤ-+ℤ_cancel (pos idx) b) ∙ ap (λ (z : ℤ). z +ℤ b) w.1)

-- where idx is a·n + b for some n of 0 or more, the test says so
pub nth-complete : (a b : ℤ) (idx : ℕ) → NthChild a b idx → nth_matches a b idx ≡ true
unfolding nth_matches
nth-complete a b idx w =
    complete a (pos idx -ℤ b) _ _ _ _ refl refl refl refl
    (w.0, ap (λ (z : ℤ). z -ℤ b) w.1 ∙ +ℤ-neg_ℤ_cancel (a *ℤ pos w.0) b)
