-- What bytes stored in a longer store leave of a part of it, and of what lies behind them.
use Prim.Native.Nat.{ℕ, zero, suc, ◌+◌}
use mathlib.Core.Path.{◌≡◌, refl, ap, ◌∙◌}
use mathlib.Core.List.{List, [], ◌∷◌}
use native.Mathlib.Omega.{arith}
use lib.ListN.{take, drop, set}
use lib.Seq.{sets}
use Rattle.combinators.specs.Part.{part}
use Rattle.combinators.proofs.Wiped.{front-set}

-- ---- one byte
-- what lies behind its front
drop-set : (a : ℕ) (l : List ℕ) (j b : ℕ) → drop a (set l (a + j) b) ≡ set (drop a l) j b
drop-set zero l j b = let e : 0 + j ≡ j = omega arith in rw e
drop-set (suc a) [] j b = refl
drop-set (suc a) (x ∷ xs) j b = let e : suc a + j ≡ suc (a + j) = omega arith in rw e (drop-set a xs j b)

-- the part has it, if it lies there
part-set : (store : List ℕ) (at width j b : ℕ) → part (set store (at + j) b) at width ≡ set (part store at width) j b
unfolding part
part-set store at width j b = ap (take width) (drop-set at store j b) ∙ front-set width (drop at store) j b

-- ---- bytes
-- the part has the bytes, as far as it goes
pub part-sets : (bs store : List ℕ) (at width j : ℕ) → part (sets store (at + j) bs) at width ≡ sets (part store at width) j bs
part-sets [] store at width j = refl
part-sets (b ∷ bs) store at width j =
    let e : suc (at + j) ≡ at + suc j = omega arith in
    ap (λ (i : ℕ). part (sets (set store (at + j) b) i bs) at width) e
    ∙ part-sets bs (set store (at + j) b) at width (suc j)
    ∙ ap (λ (x : List ℕ). sets x (suc j) bs) (part-set store at width j b)
