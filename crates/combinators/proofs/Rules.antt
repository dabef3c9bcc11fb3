-- What choices and tests say, and how `search` goes through a definition made of them: `search cases`, `search orders`.
use mathlib.Core.Path.{◌≡◌, refl, sym, ◌∙◌}
use mathlib.Core.Bool.{Bool, true, false}
use mathlib.Core.Logic.{◌⊎◌, inl, inr}
use Prim.Native.Nat.{ℕ, ◌+◌, ◌≤◌, ◌<◌}
use native.Mathlib.Omega.{arith}
use borrow.Author.Rules.{rules}
use borrow.Author.Tests.{eq-eqb, ne_eqb, eqb-true, eqb-false, leb-true, leb-false, le-leb, lt-leb, ltb-true, ltb-false}
use lib.Dec.{T, leb, ltb, ltb→lt}
use Rattle.combinators.specs.Choice.{pick, or, and, is, within}

-- the two answers of a test differ
pub never : {A : Type 0} → false ≡ true → A
never e = absurd (let z : ◌≡◌ {A = ℕ} 0 1 = cc in omega arith)

module _ {A : Type 0} (v x y : A) (t : Bool) where
  -- the first of a choice
  pub pick_true : t ≡ true → v ≡ x → v ≡ pick t x y
  unfolding pick
  pick_true e p = rw e p

  -- a test that fails picks the second
  pub pick-false : t ≡ false → v ≡ y → v ≡ pick t x y
  unfolding pick
  pick-false e p = rw e p

module _ {A : Type 0} (v x y : A) (a b : ℕ) where
  -- the first of a choice by an order
  pub at_most : a ≤ b → v ≡ x → v ≡ pick (leb a b) x y
  at_most h p = pick_true v x y _ (le-leb a b h) p

  -- a number that is greater picks the second
  pub above : b < a → v ≡ y → v ≡ pick (leb a b) x y
  above h p = pick-false v x y _ (lt-leb a b h) p

-- what is at least k is above all that is below k
pub past : (k b x : ℕ) → k ≤ x → T (ltb b k) → b < x
past k b x h l = omega (arith, ltb→lt b k l)

-- what holds of both arms holds of a choice
pub pick-holds : {A : Type 0} (P : A → Type 0) (t : Bool) (x y : A) → (t ≡ true → P x) → (t ≡ false → P y) → P (pick t x y)
unfolding pick
pick-holds P true x y f g = f refl
pick-holds P false x y f g = g refl

-- the same of a choice by an order
pub by_order : {A : Type 0} (P : A → Type 0) (a b : ℕ) (x y : A) → (a ≤ b → P x) → (b < a → P y) → P (pick (leb a b) x y)
by_order P a b x y f g = pick-holds P (leb a b) x y (λ e. f (leb-true a b e)) (λ e. g (leb-false a b e))

-- a test holds or it does not
pub either_way : (t : Bool) → (t ≡ true) ⊎ (t ≡ false)
either_way true = inl refl
either_way false = inr refl

-- two statements that each follow from the other
abbrev pub Exactly : Type 0 → Type 0 → Type 0
Exactly P Q = (P → Q) × (Q → P)

-- what follows from either part of an `or`
pub either : (P : Type 0) (a b : Bool) → or a b ≡ true → (a ≡ true → P) → (b ≡ true → P) → P
unfolding or
either P true b e f g = f refl
either P false b e f g = g e

module _ (a b : Bool) where
  -- the first of two tests holds
  pub or_left : a ≡ true → or a b ≡ true
  unfolding or
  or_left e = rw e

  -- where the first test fails and the second holds, `or` does
  pub or_right : a ≡ false → b ≡ true → or a b ≡ true
  unfolding or
  or_right e p = rw (e, p)

  -- where neither test holds, `or` does not
  pub or-none : a ≡ false → b ≡ false → or a b ≡ false
  unfolding or
  or-none e p = rw (e, p)

  -- where both tests hold, `and` does
  pub and_both : a ≡ true → b ≡ true → and a b ≡ true
  unfolding and
  and_both e p = rw (e, p)

  -- where the first test fails, `and` does not hold
  pub and_left : a ≡ false → and a b ≡ false
  unfolding and
  and_left e = rw e

  -- the same for an answer on the left
  pub or-gives-true : a ≡ true → true ≡ or a b
  or-gives-true e = sym (or_left e)

  -- the second decides where the first fails
  pub or-gives : (r : Bool) → a ≡ false → r ≡ b → r ≡ or a b
  unfolding or
  or-gives r e p = rw e p

  -- the second decides where the first holds
  pub and-gives : (r : Bool) → a ≡ true → r ≡ b → r ≡ and a b
  unfolding and
  and-gives r e p = rw e p

  -- where the first test fails, `and` does
  pub and-gives-false : a ≡ false → false ≡ and a b
  and-gives-false e = sym (and_left e)

-- the second of two tests holds
pub or-second : (a b : Bool) → b ≡ true → or a b ≡ true
unfolding or
or-second true b e = refl
or-second false b e = e

-- neither of two tests holds where their `or` fails
pub neither : (a b : Bool) → or a b ≡ false → (a ≡ false) × (b ≡ false)
unfolding or
neither true b e = never (sym e)
neither false b e = (refl, e)

-- a test beside one that holds
pub and_yes : (a : Bool) → and a true ≡ a
unfolding and
and_yes true = refl
and_yes false = refl

-- a test beside one that fails does not hold
pub and_no : (a : Bool) → and a false ≡ false
unfolding and
and_no true = refl
and_no false = refl

-- the second of two tests fails
pub and_right : (a b : Bool) → b ≡ false → and a b ≡ false
and_right a b e = rw (e, and_no a)

-- both hold where all does
pub and-true : (a b : Bool) → and a b ≡ true → (a ≡ true) × (b ≡ true)
unfolding and
and-true true b e = (refl, e)
and-true false b e = (e, cc)

-- a test beside one that fails
pub or-false : (a b : Bool) → b ≡ false → or a b ≡ a
unfolding or
or-false true b e = refl
or-false false b e = e

-- of three tests it does not matter which two are taken together
pub or_assoc : (a b c : Bool) → or a (or b c) ≡ or (or a b) c
unfolding or
or_assoc true b c = refl
or_assoc false b c = refl

-- two tests that each follow from the other
pub same_test : (a b : Bool) → (a ≡ true → b ≡ true) → (b ≡ true → a ≡ true) → a ≡ b
same_test true b f g = sym (f refl)
same_test false true f g = g refl
same_test false false f g = refl

-- ---- a test that a call made, or the code
-- a test that a call answered has the answer that was found
pub told : (r a v : Bool) → r ≡ a → r ≡ v → a ≡ v
told r a v e p = sym e ∙ p

-- the code found the two numbers equal
pub is-yes : (x k : ℕ) → x ≡ k → is x k ≡ true
unfolding is
is-yes x k e = eq-eqb x k e

-- the test of two different numbers fails
pub is-no : (x k : ℕ) → ¬ (x ≡ k) → is x k ≡ false
unfolding is
is-no x k e = ne_eqb x k e

-- the same of a byte y that a call gave
pub is-yes-of : (y x k : ℕ) → y ≡ x → y ≡ k → is x k ≡ true
is-yes-of y x k e p = is-yes x k (sym e ∙ p)

-- and of one that it is not
pub is-no-of : (y x k : ℕ) → y ≡ x → ¬ (y ≡ k) → is x k ≡ false
is-no-of y x k e d = is-no x k (λ p. d (e ∙ p))

-- of two numbers the first is less, or at least the second
pub lt-or-ge : (m n : ℕ) → (m < n) ⊎ (n ≤ m)
lt-or-ge m n = go (ltb m n) refl
  where
    go : (t : Bool) → ltb m n ≡ t → (m < n) ⊎ (n ≤ m)
    go true e = inl (ltb-true m n e)
    go false e = inr (ltb-false m n e)

-- ---- what a test says
-- that two numbers are equal
pub is_true : (x k : ℕ) → is x k ≡ true → x ≡ k
unfolding is
is_true x k e = eqb-true x k e

-- and, where it fails, that they are not
pub is_false : (x k : ℕ) → is x k ≡ false → ¬ (x ≡ k)
unfolding is
is_false x k e = eqb-false x k e

-- two numbers are the same or not
pub same-or-other : (x y : ℕ) → (x ≡ y) ⊎ (¬ (x ≡ y))
same-or-other x y = go (is x y) refl
  where
    go : (t : Bool) → is x y ≡ t → (x ≡ y) ⊎ (¬ (x ≡ y))
    go true e = inl (is_true x y e)
    go false e = inr (is_false x y e)

-- the same number added on both sides changes no test
pub is-from : (n x y : ℕ) → is (n + x) (n + y) ≡ is x y
is-from n x y = go (is x y) refl
  where
    go : (t : Bool) → is x y ≡ t → is (n + x) (n + y) ≡ is x y
    go true e = let p = is_true x y e in is-yes (n + x) (n + y) (omega arith) ∙ sym e
    go false e = is-no (n + x) (n + y) (λ p. is_false x y e (omega arith)) ∙ sym e

-- no number below a range is within it
pub within-false : (x lo hi : ℕ) → x < lo → false ≡ within x lo hi
unfolding within
within-false x lo hi h = and-gives-false _ _ (lt-leb lo x h)

-- no number above a range is within it
pub within-past : (x lo hi : ℕ) → hi < x → within x lo hi ≡ false
unfolding within
within-past x lo hi h = and_right _ _ (lt-leb x hi h)

-- above the lower end the upper one decides
pub within-rest : (x lo hi : ℕ) → lo ≤ x → leb x hi ≡ within x lo hi
unfolding within
within-rest x lo hi h = and-gives _ _ _ (le-leb lo x h) refl

-- a number within a range is between its ends
pub within-true : (x lo hi : ℕ) → within x lo hi ≡ true → (lo ≤ x) × (x ≤ hi)
unfolding within
within-true x lo hi e =
    let p = and-true (leb lo x) (leb x hi) e in
    (leb-true lo x p.0, leb-true x hi p.1)

-- a number between two is within them
pub within-yes : (x lo hi : ℕ) → lo ≤ x → x ≤ hi → within x lo hi ≡ true
within-yes x lo hi h l = sym (within-rest x lo hi h) ∙ le-leb x hi l

-- for choices by tests
pub ruleset cases = (
  rules,
  pick_true,
  pick-false,
  or_left,
  or_right,
  or-none,
  and_both,
  and_left,
  and_right,
  or-gives-true,
  or-gives,
  and-gives,
  and-gives-false,
  told,
  is-yes,
  is-no,
  is-yes-of,
  is-no-of,
)

-- for choices by orders, of a number that lies between two literals
pub ruleset ranges = (at_most, above, past, refl, tt)
