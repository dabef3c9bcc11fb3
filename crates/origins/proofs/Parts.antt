-- A store lent from a place on: what is stored there, and that it is zero there.
use mathlib.Core.Path.{◌≡◌, refl, ap, sym, ◌∙◌}
use mathlib.Core.List.{List, [], ◌∷◌, ◌++◌, append-nil}
use Prim.Native.Nat.{ℕ, zero, suc, ◌-◌, ◌≤◌}
use native.Mathlib.Omega.{arith}
use borrow.Rule.Slice.PartMut.{put_mid, Post-is}
use lib.ListN.{length, take, drop, set, replicate, drop_of_length-le}
use lib.Seq.{sets}
use Rattle.combinators.specs.Store.{filled_part, wiped, Zeros}
use Rattle.combinators.proofs.Lists.{lent_from, rest}

-- storing behind a first number leaves that number, and stores in those behind it
sets-second : (x : ℕ) (l : List ℕ) (i : ℕ) (vs : List ℕ) → sets (x ∷ l) (suc i) vs ≡ x ∷ sets l i vs
sets-second x l i [] = refl
sets-second x l i (v ∷ vs) = sets-second x (set l i v) (suc i) vs

-- what is stored from a place on is stored in what lies there
sets-drop : (a : ℕ) (l vs : List ℕ) → a ≤ length l → drop a (sets l a vs) ≡ sets (drop a l) 0 vs
sets-drop zero l vs h = refl
sets-drop (suc a) [] vs h = absurd (omega arith)
sets-drop (suc a) (x ∷ l) vs h = ap (drop (suc a)) (sets-second x l a vs) ∙ sets-drop a l vs (omega arith)

-- the numbers before a place, with what is stored at the start of those behind it, are the whole stored from there on
pub sets-take : (a : ℕ) (l vs : List ℕ) → a ≤ length l → take a l ++ sets (drop a l) 0 vs ≡ sets l a vs
sets-take zero l vs h = refl
sets-take (suc a) [] vs h = absurd (omega arith)
sets-take (suc a) (x ∷ l) vs h = ap (λ (r : List ℕ). x ∷ r) (sets-take a l vs (omega arith)) ∙ sym (sets-second x l a vs)

module _ (l : List ℕ) (a : ℕ) (h : a ≤ length l) where
  -- the part that is lent is zero where the store is zero from the place on
  pub part-zeros : Zeros l a → Zeros (lent_from l a) 0
  unfolding filled_part
  part-zeros z =
      record { wiping = λ n. ap (wiped 0 n) (rest l a) ∙ sym (sets-drop a l (replicate n 0) h) ∙ ap (drop a) (z.wiping n) ∙ sym (rest l a) }

  -- what is stored at the start of the part is stored from the place on
  pub part-stored : (vs ys : List ℕ) → ys ≡ sets (lent_from l a) 0 vs → put_mid a (length l - a) l ys ≡ sets l a vs
  part-stored vs ys e =
      ap (λ (r : List ℕ). take a l ++ (ys ++ r)) (Post-is a (length l) l h ∙ drop_of_length-le l {i = length l} (omega arith))
      ∙ ap (λ (r : List ℕ). take a l ++ r) (append-nil ys ∙ e ∙ ap (λ (r : List ℕ). sets r 0 vs) (rest l a))
      ∙ sets-take a l vs h
