-- The laws of `filled_from` and `cleared`: the length, and the form with `take` and `replicate`.
use mathlib.Core.Path.{◌≡◌, refl, sym, ap, ◌∙◌}
use mathlib.Core.List.{List, [], ◌∷◌, ◌++◌}
use Prim.Native.Nat.{ℕ, zero, suc, ◌-◌}
use native.Mathlib.Omega.{arith}
use lib.ListN.{length, take, replicate}
use lib.Seq.{take-nil}
use Rattle.combinators.specs.Store.{filled_from, cleared}

-- filling keeps the length
pub length-filled_from : {A : Type 0} (z : A) (i : ℕ) (l : List A) → length (filled_from z i l) ≡ length l
unfolding filled_from
length-filled_from z i [] = refl
length-filled_from z zero (x ∷ l) = ap suc (length-filled_from z zero l)
length-filled_from z (suc i) (x ∷ l) = ap suc (length-filled_from z i l)

-- what was before the place, and one value
pub filled_from-is : {A : Type 0} (z : A) (n : ℕ) (l : List A) → filled_from z n l ≡ take n l ++ replicate (length l - n) z
unfolding filled_from
filled_from-is z n [] =
    let e : 0 - n ≡ 0 = omega arith in
    rw (e, take-nil)
filled_from-is {A} z zero (x ∷ l) =
    let e : suc (length l) - 0 ≡ suc (length l - 0) = omega arith in
    rw e (ap (λ (r : List A). z ∷ r) (filled_from-is z zero l))
filled_from-is {A} z (suc n) (x ∷ l) =
    let e : suc (length l) - suc n ≡ length l - n = omega arith in
    rw e (ap (λ (r : List A). x ∷ r) (filled_from-is z n l))

-- clearing keeps the length
pub length-cleared : (i : ℕ) (l : List ℕ) → length (cleared i l) ≡ length l
length-cleared = length-filled_from 0

-- what was before the place, and zeros
pub cleared-is : (n : ℕ) (l : List ℕ) → cleared n l ≡ take n l ++ replicate (length l - n) 0
cleared-is = filled_from-is 0

-- a store cleared throughout is as many zeros as it was long, or as another that is as long
pub cleared-throughout : (l m z : List ℕ) → length l ≡ length m → z ≡ cleared 0 l → z ≡ replicate (length m) 0
cleared-throughout l m z e h = let n : length l - 0 ≡ length m = omega (arith, e) in h ∙ cleared-is 0 l ∙ ap (λ (i : ℕ). replicate i 0) n

-- a store that is as many zeros as it was long is cleared throughout
pub all_cleared : (l xs : List ℕ) → xs ≡ replicate (length l) 0 → xs ≡ cleared 0 l
all_cleared l xs e = e ∙ sym (cleared-throughout l l (cleared 0 l) refl refl)
