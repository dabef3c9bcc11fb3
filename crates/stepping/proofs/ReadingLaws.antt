-- What is read of compiled bytes: a list by its reading, and so many values as a loop meets them, the first of those that are left or none.
use mathlib.Core.Path.{◌≡◌, sym, ap, ◌∙◌}
use mathlib.Core.List.{List, [], ◌∷◌}
use Prim.Native.Nat.{ℕ, suc, ◌-◌, ◌<◌}
use native.Mathlib.Omega.{arith}
use Rattle.compiled.specs.Decoded.{Decoded, read, fault, on_decoded, and_then, mapped, counted}
use Rattle.compiled.proofs.Walking.{First, counted-first}
use Rattle.stepping.specs.Reading.{listed}

-- what is read is no fault
pub no-fault : {A : Type 0} (d : Decoded A) (n p : ℕ) (a : A) → d ≡ read n a → d ≡ fault p → ⊥
no-fault d n p a e f = let z : ◌≡◌ {A = ℕ} 0 1 = cc in omega arith

-- what is listed is what was read
pub listed-is : {A : Type 0} (d : Decoded (List A)) (n : ℕ) (xs : List A) → d ≡ read n xs → listed d ≡ xs
unfolding listed on_decoded
listed-is d n xs e = rw e

-- where nothing is read, no list is
pub listed-none : {A : Type 0} (d : Decoded (List A)) (p : ℕ) → d ≡ fault p → listed d ≡ []
unfolding listed on_decoded
listed-none d p e = rw e

module _ {A : Type 0} (u : ℕ → Decoded A) (i : ℕ) where
  -- one value that is read
  pub one-read : (n : ℕ) (a : A) → u i ≡ read n a → listed (counted u 1 i) ≡ a ∷ []
  unfolding counted and_then mapped listed on_decoded
  one-read n a e = rw e

  -- one that is not
  pub one_none : (p : ℕ) → u i ≡ fault p → listed (counted u 1 i) ≡ []
  unfolding counted and_then listed on_decoded
  one_none p e = rw e

module _ {A : Type 0} (u : ℕ → Decoded A) (left i end : ℕ) (others : List A) (e : counted u left i ≡ read end others) where
  -- the first of those that are left
  pub counted-left : 0 < left → First u (left - 1) i end others
  counted-left h =
      let d : left ≡ suc (left - 1) = omega arith in
      counted-first u (left - 1) i end others (ap (λ (k : ℕ). counted u k i) (sym d) ∙ e)

  -- where the first of them is known, the others are read behind it
  pub counted_next : (n : ℕ) (a : A) → 0 < left → u i ≡ read n a → (rest : List A) × (counted u (left - 1) n ≡ read end rest) × (others ≡ a ∷ rest)
  counted_next n a h f =
      let w = counted-left h in
      let g = w.first in
      let p : w.place ≡ n = cc in
      let v : w.value ≡ a = cc in
      (w.others, ap (counted u (left - 1)) (sym p) ∙ w.rest, w.split ∙ ap (λ x. x ∷ w.others) v)

  -- it is no fault
  pub counted-there : (p : ℕ) → 0 < left → u i ≡ fault p → ⊥
  counted-there p h f = no-fault (u i) _ p _ (counted-left h).first f
