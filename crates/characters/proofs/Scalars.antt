-- Scalar values: their bytes, which numbers they are, what stands for a number that is none, and that a text holds what is read from it.
use Rattle.std.proofs.Common.{Option, Some, None}
use mathlib.Core.Path.{◌≡◌, refl, sym}
use mathlib.Core.List.{List, [], ◌∷◌}
use mathlib.Core.Bool.{Bool, true}
use Prim.Native.Nat.{ℕ, ◌+◌, ◌/◌, ◌%◌, ◌<◌, ◌≤◌}
use native.Mathlib.Omega.{arith}
use borrow.Author.Tests.{leb-true, leb-false, le-leb, lt-leb}
use lib.Dec.{leb}
use lib.ListN.{length, get_or}
use Rattle.combinators.specs.Choice.{pick, within}
use Rattle.combinators.proofs.Rules.{
  pick_true,
  at_most,
  above,
  pick-holds,
  either,
  or_left,
  or_right,
  is_false,
  within-true,
  within-yes,
}
use Rattle.combinators.proofs.Lists.{there}
use Rattle.characters.specs.Utf8.{utf8, continuation, is_continuation, is_scalar, or_replacement, lead_of, scalar_tail, scalar_by, scalar_of}
use Rattle.combinators.specs.declared.taken.Taken.{Taken}
use Rattle.characters.specs.declared.utf8.Lead.{Lead}

-- ---- the bytes of a scalar value, row by row of Table 3-6
module _ (v : ℕ) where
  -- an ASCII character is its own byte
  pub utf8-ascii : v ≤ 0x7f → utf8 v ≡ v ∷ []
  unfolding utf8
  utf8-ascii h = sym (at_most _ _ _ v 0x7f h refl)

  -- up to U+07FF two bytes
  pub utf8-two : 0x7f < v → v ≤ 0x7ff → utf8 v ≡ (0xc0 + v / 64) ∷ continuation v ∷ []
  unfolding utf8
  utf8-two l h = sym (above _ _ _ v 0x7f l (at_most _ _ _ v 0x7ff h refl))

  -- a scalar value above U+07FF and up to U+FFFF is three bytes
  pub utf8-three : 0x7ff < v → v ≤ 0xffff → utf8 v ≡ (0xe0 + v / 4096) ∷ continuation (v / 64) ∷ continuation v ∷ []
  unfolding utf8
  utf8-three l h = sym (above _ _ _ v 0x7f (omega arith) (above _ _ _ v 0x7ff l (at_most _ _ _ v 0xffff h refl)))

  -- a scalar value above U+FFFF has four bytes
  pub utf8-four : 0xffff < v → utf8 v ≡ (0xf0 + v / 262144 % 8) ∷ continuation (v / 4096) ∷ continuation (v / 64) ∷ continuation v ∷ []
  unfolding utf8
  utf8-four l = sym (above _ _ _ v 0x7f (omega arith) (above _ _ _ v 0x7ff (omega arith) (above _ _ _ v 0xffff l refl)))

  -- from one to four bytes
  utf8-long : (1 ≤ length (utf8 v)) × (length (utf8 v) ≤ 4)
  unfolding utf8
  utf8-long =
      pick-holds P _ _ _ (λ _. (omega arith, omega arith))
      (λ _. pick-holds P _ _ _ (λ _. (omega arith, omega arith))
      (λ _. pick-holds P _ _ _ (λ _. (omega arith, omega arith)) (λ _. (omega arith, omega arith))))
    where
      P : List ℕ → Type 0
      P l = (1 ≤ length l) × (length l ≤ 4)

  -- a scalar value has at least one byte
  pub utf8-some : 1 ≤ length (utf8 v)
  utf8-some = utf8-long.0

  -- a scalar value has at most four bytes
  pub utf8-le : length (utf8 v) ≤ 4
  utf8-le = utf8-long.1

  -- at most two below U+0800
  pub utf8-small : v ≤ 0x7ff → length (utf8 v) ≤ 2
  unfolding utf8
  utf8-small h =
      pick-holds (λ (l : List ℕ). length l ≤ 2) _ _ _ (λ _. omega arith)
      (λ _. pick-holds (λ (l : List ℕ). length l ≤ 2) _ _ _ (λ _. omega arith) (λ e. absurd (omega (arith, leb-false v 0x7ff e))))

-- ---- which numbers are scalar values
-- what holds below the surrogates and above them holds of every scalar value
pub by_scalar : (P : Type 0) (v : ℕ) → is_scalar v ≡ true → (v ≤ 0xd7ff → P) → (0xe000 ≤ v → v ≤ 0x10ffff → P) → P
unfolding is_scalar
by_scalar P v e f g =
    either P (leb v 0xd7ff) (within v 0xe000 0x10ffff) e (λ h. f (leb-true v 0xd7ff h))
    (λ h. let b = within-true v 0xe000 0x10ffff h in g b.0 b.1)

-- a number below the surrogates is one
pub scalar-low : (v : ℕ) → v ≤ 0xd7ff → is_scalar v ≡ true
unfolding is_scalar
scalar-low v h = or_left _ _ (le-leb v 0xd7ff h)

-- and so is a code point above them
pub scalar-high : (v : ℕ) → 0xe000 ≤ v → v ≤ 0x10ffff → is_scalar v ≡ true
unfolding is_scalar
scalar-high v l h = or_right _ _ (lt-leb v 0xd7ff (omega arith)) (within-yes v 0xe000 0x10ffff l h)

-- ---- a number, or U+FFFD where it is no scalar value
-- below the surrogates it stays as it is
pub or-replacement-same : (v : ℕ) → v ≤ 0xd7ff → or_replacement v ≡ v
unfolding or_replacement
or-replacement-same v h = sym (pick_true _ _ _ _ (scalar-low v h) refl)

-- ---- what is read from a text is in it
-- the range of a continuation byte
pub continuation-range : (x : ℕ) → is_continuation x ≡ true → (0x80 ≤ x) × (x ≤ 0xbf)
unfolding is_continuation
continuation-range x e = within-true x 0x80 0xbf e

-- a continuation byte is there
continuation-there : (s : List ℕ) (i : ℕ) → is_continuation (get_or s i 0) ≡ true → i < length s
continuation-there s i e = there s i (omega (arith, (continuation-range (get_or s i 0) e).0))

-- a row asks for a second byte that is not 0
unfoldable Second : Option Lead → Type 0
Second (Some l) = 1 ≤ l.low
Second None = Unit

-- a choice between such rows is such a row
second-of : (t : Bool) (x y : Option Lead) → Second x → Second y → Second (pick t x y)
second-of t x y p q = pick-holds Second t x y (λ _. p) (λ _. q)

-- every row of the table is
second : (x : ℕ) → Second (lead_of x)
unfolding lead_of Second
second x =
    second-of _ _ _ tt
    (second-of _ _ _ (omega arith)
    (second-of _ _ _ (omega arith)
    (second-of _ _ _ (omega arith)
    (second-of _ _ _ (omega arith)
    (second-of _ _ _ (omega arith)
    (second-of _ _ _ (omega arith)
    (second-of _ _ _ (omega arith)
    (second-of _ _ _ (omega arith) tt))))))))

-- a scalar value takes a byte or more, all of them in the text
unfoldable Held : List ℕ → Option (Taken ℕ) → Type 0
Held s (Some c) = (1 ≤ c.taken) × (c.taken ≤ length s)
Held s None = 0 ≤ length s

module _ (s : List ℕ) where
  -- n bytes that are there
  held-value : (n v : ℕ) → 1 ≤ n → n ≤ length s → Held s (Some (record { taken = n; value = v }))
  unfolding Held
  held-value n v h k = (h, k)

  -- where nothing is read, nothing is asked
  held_none : Held s None
  unfolding Held
  held_none = omega arith

  -- behind the second byte each byte is a continuation byte
  held-tail : (long : ℕ) → 2 ≤ length s → Held s (scalar_tail long s)
  unfolding scalar_tail
  held-tail long h =
      pick-holds (Held s) _ _ _ (λ _. held-value 2 _ (omega arith) h)
      (λ _. pick-holds (Held s) _ _ _
      (λ c. pick-holds (Held s) _ _ _ (λ _. held-value 3 _ (omega arith) (continuation-there s 2 c))
      (λ _. pick-holds (Held s) _ _ _ (λ d. held-value 4 _ (omega arith) (continuation-there s 3 d)) (λ _. held_none)))
      (λ _. held_none))

  -- the second byte is in the range of its row
  held-row : (r : Option Lead) → Second r → Held s (scalar_by r s)
  unfolding scalar_by Second
  held-row (Some l) r =
      pick-holds (Held s) _ _ _
      (λ w. held-tail l.long (there s 1 (omega (arith, (within-true (get_or s 1 0) l.low l.high w).0))))
      (λ _. held_none)
  held-row None r = held_none

  -- so it is with what any text begins with
  held : Held s (scalar_of s)
  unfolding scalar_of
  held =
      pick-holds (Held s) _ _ _ (λ _. held_none)
      (λ e. let d = is_false (length s) 0 e in
      pick-holds (Held s) _ _ _ (λ _. held-value 1 _ (omega arith) (omega arith)) (λ _. held-row (lead_of (get_or s 0 0)) (second (get_or s 0 0))))

  -- a scalar value that was read takes a byte or more, and no more than there are
  pub scalar-some : (n v : ℕ) → scalar_of s ≡ Some (record { taken = n; value = v }) → (1 ≤ n) × (n ≤ length s)
  unfolding Held
  scalar-some n v e = rw e at held
