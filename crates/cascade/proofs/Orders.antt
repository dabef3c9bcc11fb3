-- The order of specificities: how the tests of the code tell it, and that it is the one of Selectors Level 3. Assumes nothing.
use Rattle.std.specs.Ordering.{partial_lt}
use Rattle.std.proofs.lemmas.Grind.{common_steps}
use Rattle.combinators.specs.Choice.{pick}
use Rattle.cascade.specs.contracts.specificity.SpecificityPartialOrd.TheImpl as derive
use mathlib.Core.Path.{◌≡◌, refl, sym, ◌∙◌}
use mathlib.Core.Bool.{Bool, true, false}
use mathlib.Core.Logic.{◌⊎◌, inl, inr, ⊎_elim}
use Prim.Native.Nat.{ℕ, ◌≤◌, ◌<◌}
use native.Mathlib.Omega.{arith}
use borrow.Author.Tests.{lt-ltb, le-ltb, ltb-true, ltb-false}
use Rattle.combinators.proofs.Rules.{never, pick_true, pick-false, lt-or-ge}
use Rattle.syntax.specs.Layout.{flag}
use Rattle.cascade.specs.declared.specificity.Specificity.{Specificity}
use Rattle.cascade.specs.Specificity.{less_then, less_by_selector, less, LessSpecific, by-inline, by-id, by-class, by-type}

module _ (a b : ℕ) (rest : Bool) where
  -- a lower number decides for below
  pub then-lower : a < b → true ≡ less_then a b rest
  unfolding less_then
  then-lower h = pick_true _ _ _ _ (lt-ltb a b h) refl

  -- a higher one against it
  pub then-higher : b < a → false ≡ less_then a b rest
  unfolding less_then
  then-higher h = pick-false _ _ _ _ (le-ltb a b (omega arith)) (pick_true _ _ _ _ (lt-ltb b a h) refl)

  -- and the same number leaves it to what follows
  pub then_same : (r : Bool) → a ≤ b → b ≤ a → r ≡ rest → r ≡ less_then a b rest
  unfolding less_then
  then_same r h l e = pick-false _ _ _ _ (le-ltb a b l) (pick-false _ _ _ _ (le-ltb b a h) e)

module _ (p q rest : Bool) where
  -- the same flag leaves it to what follows
  pub flags-same : (r : Bool) → p ≡ q → r ≡ rest → r ≡ less_then (flag p) (flag q) rest
  flags-same r e f = rw e (then_same (flag q) (flag q) rest r (omega arith) (omega arith) f)

  -- one that is not set is below one that is
  pub flag-below : p ≡ false → q ≡ true → true ≡ less_then (flag p) (flag q) rest
  unfolding flag
  flag-below e f = rw (e, f) (then-lower 0 1 rest (omega arith))

-- the order of the fields, which the derive of the code tells, is this one
pub derived : (a b : Specificity) → partial_lt derive.partial_cmp-value.it a b ≡ less a b
unfolding less less_then less_by_selector flag pick
derived a b = grind (arith, common_steps)

-- ---- what the order says: a number is lower, or the same and what follows says it
module _ (a b : ℕ) (rest : Bool) where
  -- it holds where a number is lower, or the same and what follows holds
  pub then-true : less_then a b rest ≡ true → (a < b) ⊎ ((a ≡ b) × (rest ≡ true))
  then-true e =
      ⊎_elim inl
      (λ (h : b ≤ a).
      ⊎_elim (λ (k : b < a). never (then-higher a b rest k ∙ e)) (λ (k : a ≤ b). inr (omega arith, then_same a b rest rest k h refl ∙ e)) (lt-or-ge b a))
      (lt-or-ge a b)

  -- it does not where a number is higher, or the same and what follows does not
  pub then-false : less_then a b rest ≡ false → (b < a) ⊎ ((a ≡ b) × (rest ≡ false))
  then-false e =
      ⊎_elim (λ (h : a < b). never (sym (then-lower a b rest h ∙ e)))
      (λ (h : b ≤ a). ⊎_elim inl (λ (k : a ≤ b). inr (omega arith, then_same a b rest rest k h refl ∙ e)) (lt-or-ge b a))
      (lt-or-ge a b)

  -- the same numbers leave it to what follows
  pub then_equal : (r : Bool) → a ≡ b → r ≡ rest → r ≡ less_then a b rest
  then_equal r e f = then_same a b rest r (omega arith) (omega arith) f

-- below carries over, where it does in what follows; and so does not below
module _ (a b c : ℕ) (p q r : Bool) where
  -- what is below something is below what that is below
  pub then-trans : (p ≡ true → q ≡ true → r ≡ true) → less_then a b p ≡ true → less_then b c q ≡ true → less_then a c r ≡ true
  then-trans f e₁ e₂ =
      ⊎_elim
      (λ (h : a < b). ⊎_elim (λ (k : b < c). sym (then-lower a c r (omega arith))) (λ (k : (b ≡ c) × (q ≡ true)). sym (then-lower a c r (omega (arith, k.0)))) (then-true b c q e₂))
      (λ (h : (a ≡ b) × (p ≡ true)). ⊎_elim (λ (k : b < c). sym (then-lower a c r (omega (arith, h.0)))) (λ (k : (b ≡ c) × (q ≡ true)). sym (then_equal a c r true (h.0 ∙ k.0) (sym (f h.1 k.1)))) (then-true b c q e₂))
      (then-true a b p e₁)

  -- not below what is not below
  pub then-trans-not : (p ≡ false → q ≡ false → r ≡ false) → less_then a b p ≡ false → less_then b c q ≡ false → less_then a c r ≡ false
  then-trans-not f e₁ e₂ =
      ⊎_elim
      (λ (h : b < a). ⊎_elim (λ (k : c < b). sym (then-higher a c r (omega arith))) (λ (k : (b ≡ c) × (q ≡ false)). sym (then-higher a c r (omega (arith, k.0)))) (then-false b c q e₂))
      (λ (h : (a ≡ b) × (p ≡ false)). ⊎_elim (λ (k : c < b). sym (then-higher a c r (omega (arith, h.0)))) (λ (k : (b ≡ c) × (q ≡ false)). sym (then_equal a c r false (h.0 ∙ k.0) (sym (f h.1 k.1)))) (then-false b c q e₂))
      (then-false a b p e₁)

-- ---- the order of specificities carries over, and so does its absence
module _ (a b c : Specificity) where
  -- less specific than what is less specific
  pub less-trans : less a b ≡ true → less b c ≡ true → less a c ≡ true
  unfolding less less_by_selector
  less-trans =
      then-trans (flag a.inline) (flag b.inline) (flag c.inline) _ _ _
      (then-trans a.id b.id c.id _ _ _
      (then-trans a.class b.class c.class _ _ _
      (λ p q. lt-ltb a.typ c.typ (omega (arith, ltb-true a.typ b.typ p, ltb-true b.typ c.typ q)))))

  -- not less specific than what is not less specific
  pub less-trans-not : less a b ≡ false → less b c ≡ false → less a c ≡ false
  unfolding less less_by_selector
  less-trans-not =
      then-trans-not (flag a.inline) (flag b.inline) (flag c.inline) _ _ _
      (then-trans-not a.id b.id c.id _ _ _
      (then-trans-not a.class b.class c.class _ _ _
      (λ p q. le-ltb a.typ c.typ (omega (arith, ltb-false a.typ b.typ p, ltb-false b.typ c.typ q)))))

-- ---- it is the order of Selectors Level 3
-- a flag with the less number is not set, and the other is
flags-differ : (p q : Bool) → flag p < flag q → (p ≡ false) × (q ≡ true)
unfolding flag
flags-differ true true h = absurd (omega arith)
flags-differ true false h = absurd (omega arith)
flags-differ false true h = (refl, refl)
flags-differ false false h = absurd (omega arith)

-- flags with the same number are the same
flags-agree : (p q : Bool) → flag p ≡ flag q → p ≡ q
unfolding flag
flags-agree true true h = refl
flags-agree true false h = absurd (omega arith)
flags-agree false true h = absurd (omega arith)
flags-agree false false h = refl

module _ (a b : Specificity) where
  -- where both are inline or neither is, what the test of the counts says is the order
  by-selector : a.inline ≡ b.inline → less_by_selector a b ≡ true → LessSpecific a b
  unfolding less_by_selector
  by-selector i e =
      ⊎_elim (λ h. by-id i h)
      (λ h. ⊎_elim (λ k. by-class i h.0 k) (λ k. by-type i h.0 k.0 (ltb-true a.typ b.typ k.1)) (then-true a.class b.class _ h.1))
      (then-true a.id b.id _ e)

  -- what the test says of two specificities
  pub less-says : less a b ≡ true → LessSpecific a b
  unfolding less
  less-says e =
      ⊎_elim (λ h. let d = flags-differ a.inline b.inline h in by-inline d.0 d.1)
      (λ h. by-selector (flags-agree a.inline b.inline h.0) h.1)
      (then-true (flag a.inline) (flag b.inline) _ e)

  -- and that it says all there is
  pub less-said : LessSpecific a b → less a b ≡ true
  unfolding less less_by_selector
  less-said (by-inline p q) = sym (flag-below a.inline b.inline (less_by_selector a b) p q)
  less-said (by-id i h) = sym (flags-same a.inline b.inline (less_by_selector a b) true i (then-lower a.id b.id _ h))
  less-said (by-class i d h) = sym (flags-same a.inline b.inline (less_by_selector a b) true i (then_equal a.id b.id _ true d (then-lower a.class b.class _ h)))
  less-said (by-type i d c h) = sym (flags-same a.inline b.inline (less_by_selector a b) true i (then_equal a.id b.id _ true d (then_equal a.class b.class _ true c (sym (lt-ltb a.typ b.typ h)))))
