-- The texts of a store up to a fill, where something was written behind it.
use Prim.Native.Nat.{ℕ, ◌+◌, ◌≤◌}
use mathlib.Core.List.{List, ◌++◌}
use mathlib.Core.Path.{◌≡◌, ap, ◌∙◌}
use native.Mathlib.Omega.{arith}
use lib.ListN.{length, take, drop, replicate, length-append}
use lib.Seq.{sets, sets-eq, take_at, length-take-le}
use Rattle.combinators.specs.Store.{wiped, filled_part}
use Rattle.combinators.proofs.Wiped.{take-sets}

-- zeros written from n on leave the first n numbers
pub front-wiped : (l : List ℕ) (n k : ℕ) → take n (wiped n k l) ≡ take n l
unfolding filled_part
front-wiped l n k = take-sets l n (replicate k 0) n (omega arith)

-- a text that is written lies behind what was there
pub text-stored : (l : List ℕ) (n : ℕ) (xs : List ℕ) → n + length xs ≤ length l → take (n + length xs) (sets l n xs) ≡ take n l ++ xs
text-stored l n xs h =
    ap (take (n + length xs)) (sets-eq xs l n h)
    ∙ take_at (take n l ++ xs) (drop (n + length xs) l) (n + length xs) (length-append (take n l) xs ∙ ap (λ (k : ℕ). k + length xs) (length-take-le n l (omega arith)))
