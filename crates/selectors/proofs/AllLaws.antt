-- Sums over lists and what they say of all values, and what holds of all that an outcome may have read.
use mathlib.Core.Path.{◌≡◌, refl, ap, subst}
use mathlib.Core.List.{List, [], ◌∷◌, ◌++◌, map}
use Prim.Native.Nat.{ℕ, ◌+◌, ◌≤◌}
use native.Mathlib.Omega.{arith}
use lib.ListN.{length, length-append}
use Rattle.combinators.specs.All.{All}
use Rattle.syntax.specs.RuleSize.{sizes}
use Rattle.syntax.specs.Stream.{texts_many}
use Rattle.selectors.specs.Outcome.{Outcome, reads, fails, panics, on_outcome, behind, or_else}

-- ---- sums
-- no size is above the sum of all
pub each-size : {A : Type 0} (f : A → ℕ) (m : ℕ) (xs : List A) → sizes f xs ≤ m → All (λ a. f a ≤ m) xs
unfolding sizes
each-size f m [] h = tt
each-size f m (x ∷ xs) h = (omega arith, each-size f m xs (omega arith))

-- the sum of two lists
pub sizes-append : {A : Type 0} (f : A → ℕ) (xs ys : List A) → sizes f (xs ++ ys) ≡ sizes f xs + sizes f ys
unfolding sizes
sizes-append f [] ys = omega arith
sizes-append f (x ∷ xs) ys = omega (arith, sizes-append f xs ys)

-- a function that keeps every size keeps the sum
pub sizes-map : {A : Type 0} (f : A → ℕ) (g : A → A) → ((a : A) → f (g a) ≡ f a) → (xs : List A) → sizes f (map g xs) ≡ sizes f xs
unfolding sizes
sizes-map f g e [] = refl
sizes-map f g e (x ∷ xs) = omega (arith, e x, sizes-map f g e xs)

-- no text is longer than all together
pub each-text : {A : Type 0} (x : A → List ℕ) (m : ℕ) (xs : List A) → length (texts_many x xs) ≤ m → All (λ a. length (x a) ≤ m) xs
unfolding texts_many
each-text x m [] h = tt
each-text x m (a ∷ xs) h =
    let e = length-append (x a) (texts_many x xs) in
    (omega arith, each-text x m xs (omega arith))

-- a function that keeps every text keeps all together
pub texts-map : {A : Type 0} (x : A → List ℕ) (g : A → A) → ((a : A) → x (g a) ≡ x a) → (xs : List A) → texts_many x (map g xs) ≡ texts_many x xs
unfolding texts_many
texts-map x g e [] = refl
texts-map x g e (a ∷ xs) = rw (e a, texts-map x g e xs)

-- ---- outcomes
-- one that reads, or where the crate panics, is none that fails
read_code : {A : Type 0} → Outcome A → ℕ
read_code (reads n a) = 1
read_code fails = 0
read_code (panics p) = 2

-- a reading is no failure
pub reads-no : {A : Type 0} {n : ℕ} {a : A} → reads n a ≡ fails → ⊥
unfolding read_code
reads-no e = absurd (let z : ◌≡◌ {A = ℕ} 1 0 = ap read_code e in omega arith)

-- a panic is no failure
pub panics-no : {A : Type 0} {p : ℕ} → ◌≡◌ {A = Outcome A} (panics p) fails → ⊥
unfolding read_code
panics-no {A} e = absurd (let z : ◌≡◌ {A = ℕ} 2 0 = ap (read_code {A = A}) e in omega arith)

-- what holds of the bytes taken and of what was read, where something was; the crate panics at m or before
abbrev pub Where : {A : Type 0} → ℕ → (ℕ → A → Type 0) → Outcome A → Type 0
Where m P (reads n a) = P n a
Where m P fails = Unit
Where m P (panics p) = p ≤ m

-- what holds where an outcome reads holds of what it read
pub where-read : {A : Type 0} (m : ℕ) (P : ℕ → A → Type 0) (o : Outcome A) (n : ℕ) (a : A) → o ≡ reads n a → Where m P o → P n a
where-read m P o n a e w = subst (Where m P) e w

-- by where the crate panics
pub where-panics : {A : Type 0} (m : ℕ) (P : ℕ → A → Type 0) (o : Outcome A) (p : ℕ) → o ≡ panics p → Where m P o → p ≤ m
where-panics m P o p e w = subst (Where m P) e w

-- what holds of all that may be read, moved behind some bytes, holds there
pub where-behind : {A B : Type 0} (m i : ℕ) (P : ℕ → A → Type 0) (Q : ℕ → B → Type 0) (k : ℕ) (o : Outcome A) (f : A → B)
    → ((n : ℕ) (a : A) → P n a → Q (k + n) (f a)) → k + m ≤ i → Where m P o → Where i Q (behind k o f)
unfolding behind on_outcome
where-behind m i P Q k (reads n a) f h l p = h n a p
where-behind m i P Q k fails f h l p = tt
where-behind m i P Q k (panics q) f h l p = omega arith

-- what holds of each way that a reading may go on holds of it
pub where-then : {A B : Type 0} (m i : ℕ) (P : ℕ → A → Type 0) (Q : ℕ → B → Type 0) (o : Outcome A) (f : ℕ → A → Outcome B) (b : Outcome B) (g : ℕ → ℕ)
    → ((n : ℕ) (a : A) → P n a → Where i Q (f n a)) → Where i Q b → ((p : ℕ) → p ≤ m → g p ≤ i) → Where m P o
    → Where i Q (on_outcome o f b (λ p. panics (g p)))
unfolding on_outcome
where-then m i P Q (reads n a) f b g h k l p = h n a p
where-then m i P Q fails f b g h k l p = k
where-then m i P Q (panics q) f b g h k l p = l q p

-- what holds of two alternatives holds of the first that reads
pub where-else : {A : Type 0} (m : ℕ) (P : ℕ → A → Type 0) (o q : Outcome A) → Where m P o → Where m P q → Where m P (or_else o q)
unfolding or_else
where-else m P (reads n a) q h k = h
where-else m P fails q h k = k
where-else m P (panics p) q h k = h

-- ---- what never fails
-- what does not fail does not fail behind k bytes either
pub behind-never : {A B : Type 0} (k : ℕ) (o : Outcome A) (f : A → B) → (o ≡ fails → ⊥) → behind k o f ≡ fails → ⊥
unfolding behind on_outcome
behind-never k (reads n a) f h e = reads-no e
behind-never k fails f h e = h refl
behind-never k (panics p) f h e = panics-no e

-- where neither what follows a reading nor what stands in place of a failure fails, the whole does not fail
pub then_never : {A B : Type 0} (o : Outcome A) (f : ℕ → A → Outcome B) (b : Outcome B) (g : ℕ → ℕ) → ((n : ℕ) (a : A) → f n a ≡ fails → ⊥) → (b ≡ fails → ⊥)
    → on_outcome o f b (λ p. panics (g p)) ≡ fails → ⊥
unfolding on_outcome
then_never (reads n a) f b g h k e = h n a e
then_never fails f b g h k e = k e
then_never (panics p) f b g h k e = panics-no e
