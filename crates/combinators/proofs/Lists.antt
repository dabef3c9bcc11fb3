-- Facts on texts as lists that any reader uses.
use mathlib.Core.Path.{◌≡◌, refl, sym, ap, ◌∙◌}
use mathlib.Core.List.{List, [], ◌∷◌}
use mathlib.Core.Bool.{Bool, true, false}
use Prim.Native.Nat.{ℕ, zero, suc, ◌-◌, ◌<◌, ◌≤◌, suc-le-suc}
use native.Mathlib.Nat.{add-zero}
use native.Mathlib.Omega.{arith}
use lib.ListN.{length, get_or, take, drop, length-drop}
use lib.Seq.{get_or-drop, take_all, take-suc}
use Rattle.combinators.specs.Choice.{is}
use Rattle.combinators.proofs.Rules.{never, is-no}

-- a byte that is not 0 is there
pub inside : (s : List ℕ) (i b : ℕ) → get_or s i 0 ≡ suc b → i < length s
inside [] i b e = absurd (omega arith)
inside (x ∷ r) zero b e = omega arith
inside (x ∷ r) (suc i) b e = suc-le-suc (inside r i b e)

-- the same of a byte of at least 1
pub there : (s : List ℕ) (i : ℕ) → 1 ≤ get_or s i 0 → i < length s
there s i h = inside s i (get_or s i 0 - 1) (omega arith)

-- a byte that passes a test is there, where 0 does not pass, which a place past the end reads as
pub test-there : (p : ℕ → Bool) → p 0 ≡ false → (s : List ℕ) (i : ℕ) → p (get_or s i 0) ≡ true → i < length s
test-there p z [] i e = never (sym z ∙ e)
test-there p z (x ∷ r) zero e = omega arith
test-there p z (x ∷ r) (suc i) e = suc-le-suc (test-there p z r i e)

-- a byte that is k is there, where k is not 0
pub byte-there : (s : List ℕ) (i k : ℕ) → 0 < k → is (get_or s i 0) k ≡ true → i < length s
byte-there s i k h e = test-there (λ x. is x k) (is-no 0 k (λ z. omega arith)) s i e

-- what `&s[a..]` lends, as the code says it: as many as are left, of what stands from a on
abbrev pub lent_from : {A : Type 0} → List A → ℕ → List A
lent_from s a = take (length s - a) (drop a s)

-- it is the rest of the text
pub rest : {A : Type 0} (s : List A) (a : ℕ) → lent_from s a ≡ drop a s
rest s a = take_all (length s - a) (drop a s) (omega (arith, length-drop a s))

-- and as long as what is left
pub length-rest : {A : Type 0} (s : List A) (a : ℕ) → length (lent_from s a) ≡ length s - a
length-rest s a = ap length (rest s a) ∙ length-drop a s

-- the byte at i is the first of the rest from i on
pub first : (s : List ℕ) (i : ℕ) → get_or (drop i s) 0 0 ≡ get_or s i 0
first s i = get_or-drop i s 0 0 ∙ rw (add-zero i)

-- a list that has no length is empty
pub nil-of : {A : Type 0} (b : List A) → length b ≤ 0 → b ≡ []
nil-of [] h = refl
nil-of (x ∷ b) h = absurd (omega arith)

module _ (s : List ℕ) where
  -- the first byte of a text that has one
  pub front-one : 1 ≤ length s → take 1 s ≡ get_or s 0 0 ∷ []
  front-one h = take-suc s 0 0 h

  -- the first two bytes of a text, one by one
  pub front-two : 2 ≤ length s → take 2 s ≡ get_or s 0 0 ∷ get_or s 1 0 ∷ []
  front-two h = take-suc s 1 0 h ∙ rw (front-one (omega arith))

  -- the first three bytes of a text, one by one
  pub front-three : 3 ≤ length s → take 3 s ≡ get_or s 0 0 ∷ get_or s 1 0 ∷ get_or s 2 0 ∷ []
  front-three h = take-suc s 2 0 h ∙ rw (front-two (omega arith))

  -- the first four bytes of a text, one by one
  pub front-four : 4 ≤ length s → take 4 s ≡ get_or s 0 0 ∷ get_or s 1 0 ∷ get_or s 2 0 ∷ get_or s 3 0 ∷ []
  front-four h = take-suc s 3 0 h ∙ rw (front-three (omega arith))
