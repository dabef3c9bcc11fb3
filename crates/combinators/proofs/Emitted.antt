-- The laws of stores: emitting one text behind another, what emitting leaves, and the loop of `emit_part`.
use mathlib.Core.Path.{◌≡◌, refl, sym, ap, ◌∙◌}
use mathlib.Core.List.{List, [], ◌∷◌, ◌++◌}
use mathlib.Core.Logic.{⊎_elim}
use Prim.Native.Nat.{ℕ, suc, ◌+◌, ◌≤◌, ◌<◌}
use native.Mathlib.Numerals.{add-one}
use native.Mathlib.Nat.{add-zero}
use native.Mathlib.Omega.{arith}
use borrow.Author.Tests.{lt-ltb, le-ltb}
use lib.ListN.{length, set, take, drop, get_or, length-set, drop_of_length-le}
use lib.Seq.{sets, set_out, drop-cons}
use Rattle.std.proofs.Common.{append_assoc, take_all}
use Rattle.std.proofs.lemmas.List.{take_more_set, take_at, length-take-le, append-nil}
use Rattle.combinators.specs.Choice.{pick}
use Rattle.combinators.specs.Store.{Store, step, emits}
use Rattle.combinators.proofs.Rules.{lt-or-ge}

-- ---- emitting
-- no byte changes nothing
pub emits_none : {A : Type 0} (o : Store A) → emits o [] ≡ o
unfolding emits
emits_none o = refl

-- two texts, one after the other, are one
pub emits-append : {A : Type 0} (o : Store A) (xs ys : List A) → emits (emits o xs) ys ≡ emits o (xs ++ ys)
unfolding emits
emits-append o [] ys = refl
emits-append o (x ∷ xs) ys = emits-append (step o x) xs ys

-- a text behind one that was emitted
pub onto : {A : Type 0} (o₀ o₁ : Store A) (xs ys : List A) → o₁ ≡ emits o₀ xs → emits o₁ ys ≡ emits o₀ (xs ++ ys)
onto {A} o₀ o₁ xs ys p = ap (λ (o : Store A). emits o ys) p ∙ emits-append o₀ xs ys

-- two calls, one after the other
pub then : {A : Type 0} (o₀ o₁ o₂ : Store A) (xs ys : List A) → o₁ ≡ emits o₀ xs → o₂ ≡ emits o₁ ys → o₂ ≡ emits o₀ (xs ++ ys)
then o₀ o₁ o₂ xs ys p q = q ∙ onto o₀ o₁ xs ys p

-- past the end nothing is stored
pub sets-out : {A : Type 0} (vs l : List A) (i : ℕ) → length l ≤ i → sets l i vs ≡ l
sets-out [] l i h = refl
sets-out (v ∷ vs) l i h = rw (set_out l i v h) (sets-out vs l (suc i) (omega arith))

-- a byte within the store is stored at the fill, which goes on by one
in_step : (l : List ℕ) (f x : ℕ) → f < length l → step (record { bytes = l; fill = f }) x ≡ record { bytes = set l f x; fill = f + 1 }
unfolding step pick
in_step l f x h = rw (lt-ltb f (length l) h)

-- a byte past the end is not stored, and the fill stands one above the length
out_step : (l : List ℕ) (f x : ℕ) → length l ≤ f → step (record { bytes = l; fill = f }) x ≡ record { bytes = l; fill = length l + 1 }
unfolding step pick
out_step l f x h = rw (le-ltb f (length l) h)

-- what emitting leaves: the text from the fill on, as far as there is room
pub emits-bytes : (xs l : List ℕ) (f : ℕ) → (emits (record { bytes = l; fill = f }) xs).bytes ≡ sets l f xs
unfolding emits
emits-bytes [] l f = refl
emits-bytes (x ∷ xs) l f =
    ⊎_elim
    (λ h. ap (λ (o : Store ℕ). (emits o xs).bytes) (in_step l f x h) ∙ emits-bytes xs (set l f x) (f + 1) ∙ rw (add-one f))
    (λ h. ap (λ (o : Store ℕ). (emits o xs).bytes) (out_step l f x h) ∙ emits-bytes xs l (length l + 1)
    ∙ sets-out xs l (length l + 1) (omega arith) ∙ sym (sets-out (x ∷ xs) l f h))
    (lt-or-ge f (length l))

-- a text stored behind one that was emitted
pub sets-onto : (l l₁ xs ys : List ℕ) (f f₁ : ℕ) → record { bytes = l₁; fill = f₁ } ≡ emits (record { bytes = l; fill = f }) xs
    → sets l₁ f₁ ys ≡ sets l f (xs ++ ys)
sets-onto l l₁ xs ys f f₁ e =
    sym (emits-bytes ys l₁ f₁) ∙ ap (λ (o : Store ℕ). o.bytes) (onto _ _ xs ys e) ∙ emits-bytes (xs ++ ys) l f

-- the bytes that an emitted text leaves are the old ones with it stored at the fill
pub sets-emitted : (l l₁ xs : List ℕ) (f f₁ : ℕ) → record { bytes = l₁; fill = f₁ } ≡ emits (record { bytes = l; fill = f }) xs → l₁ ≡ sets l f xs
sets-emitted l l₁ xs f f₁ e = ap (λ (o : Store ℕ). o.bytes) e ∙ emits-bytes xs l f

-- where all of it fits, the fill stands behind it
pub emits-fill : (xs l : List ℕ) (f : ℕ) → f + length xs ≤ length l → (emits (record { bytes = l; fill = f }) xs).fill ≡ f + length xs
unfolding emits
emits-fill [] l f h = sym (add-zero f)
emits-fill (x ∷ xs) l f h =
    ap (λ (o : Store ℕ). (emits o xs).fill) (in_step l f x (omega arith))
    ∙ emits-fill xs (set l f x) (f + 1) (simp length-set (omega arith)) ∙ omega arith

-- a store that was too short stays so
pub full : (l xs : List ℕ) → emits (record { bytes = l; fill = length l + 1 }) xs ≡ record { bytes = l; fill = length l + 1 }
unfolding emits
full l [] = refl
full l (x ∷ xs) = ap (λ (o : Store ℕ). emits o xs) (out_step l (length l + 1) x (omega arith)) ∙ full l xs

-- where something did not fit, the fill stands one above the length
pub emits-over : (xs l : List ℕ) (f : ℕ) → f ≤ length l → length l < f + length xs → (emits (record { bytes = l; fill = f }) xs).fill ≡ length l + 1
unfolding emits
emits-over [] l f h k = absurd (omega arith)
emits-over (x ∷ xs) l f h k =
    ⊎_elim
    (λ t. ap (λ (o : Store ℕ). (emits o xs).fill) (in_step l f x t)
    ∙ emits-over xs (set l f x) (f + 1) (simp length-set (omega arith)) (simp length-set (omega arith)) ∙ ap (λ (n : ℕ). n + 1) (length-set l f x))
    (λ t. ap (λ (o : Store ℕ). (emits o xs).fill) (out_step l f x t) ∙ ap (λ (o : Store ℕ). o.fill) (full l xs))
    (lt-or-ge f (length l))

-- the filled part is what stood there and what was emitted behind it, as far as the store goes
pub filled-part : (xs l : List ℕ) (f : ℕ) → f ≤ length l
    → take (emits (record { bytes = l; fill = f }) xs).fill (emits (record { bytes = l; fill = f }) xs).bytes ≡ take (length l) (take f l ++ xs)
unfolding emits
filled-part [] l f h = sym (ap (take (length l)) (append-nil (take f l)) ∙ take_all (length l) (take f l) (omega (arith, length-take-le f l h)))
filled-part (x ∷ xs) l f h =
    ⊎_elim
    (λ t. ap (λ (o : Store ℕ). take (emits o xs).fill (emits o xs).bytes) (in_step l f x t) ∙ filled-part xs (set l f x) (f + 1) (simp length-set (omega arith))
    ∙ rw (length-set l f x, take_more_set l f x t) (ap (take (length l)) (append_assoc (take f l) (x ∷ []) xs)))
    (λ t. ap (λ (o : Store ℕ). take (emits o xs).fill (emits o xs).bytes) (out_step l f x t) ∙ ap (λ (o : Store ℕ). take o.fill o.bytes) (full l xs)
    ∙ take_all (length l + 1) l (omega arith)
    ∙ sym (ap (λ (k : List ℕ). take (length l) (k ++ x ∷ xs)) (take_all f l t) ∙ take_at l (x ∷ xs) (length l) refl))
    (lt-or-ge f (length l))

-- ---- `emit_all`: what is left to emit at i is what was to be emitted
module _ {A : Type 0} where
  abbrev pub Emitting : List A → Store A → Store A → ℕ → Type 0
  Emitting xs o₀ o i = emits o (drop i xs) ≡ emits o₀ xs

  module _ (xs : List A) (o₀ o : Store A) (i : ℕ) (c : Emitting xs o₀ o i) where
    -- with one emitted, those behind it are left
    pub emitting-more : i < length xs → (x : A) → x ≡ get_or xs i x → (o₁ : Store A) → o₁ ≡ emits o (x ∷ []) → Emitting xs o₀ o₁ (i + 1)
    emitting-more l x ex o₁ e =
        let p : drop i xs ≡ (x ∷ []) ++ drop (i + 1) xs = rw (drop-cons xs i x l, add-one i, ← ex) in
        onto _ _ _ _ e ∙ sym (ap (emits _) p) ∙ c

    -- with all emitted, the store is what emitting the whole leaves
    pub emitting-done : length xs ≤ i → o ≡ emits o₀ xs
    emitting-done h = sym (ap (emits _) (drop_of_length-le xs h) ∙ emits_none _) ∙ c
