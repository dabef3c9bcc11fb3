-- A part inside a longer store: what is written byte by byte at its place is the part written whole, and one that is as it was changes nothing.
use Prim.Native.Nat.{ℕ, zero, suc, ◌+◌, ◌≤◌, ◌<◌}
use mathlib.Core.Path.{◌≡◌, refl, ap, ◌∙◌}
use mathlib.Core.List.{List, [], ◌∷◌}
use native.Mathlib.Omega.{arith}
use lib.ListN.{length, set, take, drop}
use lib.Seq.{sets, set-set, set-get_or, drop-cons}
use Rattle.combinators.specs.Part.{part}
use Rattle.combinators.proofs.Wiped.{sets-apart}

-- a byte written into the part in the store is the part with that byte, written whole
pub part-write : (l store : List ℕ) (o j b : ℕ) → j < length l → set (sets store o l) (o + j) b ≡ sets store o (set l j b)
part-write [] store o j b h = absurd (omega arith)
part-write (x ∷ l) store o zero b h =
    let e : o + 0 ≡ o = omega arith in
    rw e (sets-apart (set store o x) o (suc o) (b ∷ []) l (let z : o + 1 ≤ suc o = omega arith in z) ∙ ap (λ (r : List ℕ). sets r (suc o) l) (set-set store o x b))
part-write (x ∷ l) store o (suc j) b h =
    let e : o + suc j ≡ suc o + j = omega arith in
    rw e (part-write l (set store o x) (suc o) j b (omega arith))

-- a part that is as it was
pub part_same : (n : ℕ) (store : List ℕ) (o : ℕ) → o + n ≤ length store → sets store o (part store o n) ≡ store
unfolding part
part_same zero store o h = refl
part_same (suc n) store o h =
    ap (λ (l : List ℕ). sets store o (take (suc n) l)) (drop-cons store o 0 (omega arith))
    ∙ ap (λ (r : List ℕ). sets r (suc o) (take n (drop (suc o) store))) (set-get_or store o 0) ∙ part_same n store (suc o) (omega arith)
