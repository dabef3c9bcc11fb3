-- `move_down`: what the library's `copy_within` leaves is the store with the part set at its new place.
use mathlib.Core.Path.{◌≡◌, sym, ◌∙◌}
use mathlib.Core.List.{List}
use Prim.Native.Nat.{ℕ, ◌+◌, ◌-◌}
use native.Mathlib.Omega.{arith}
use lib.ListN.{length, take, drop, length-drop}
use lib.Seq.{sets, sets-eq, length-take-le}
use Rattle.std.specs.List.{copy_within}
use Rattle.combinators.specs.Part.{part}
use Rattle.declarations.specs.Moved.{Downward}

-- the part that is moved is set at its new place
pub moved : (store : List ℕ) (from to n : ℕ) → Downward store from to n → copy_within store from (from + n) to ≡ sets store to (part store from n)
unfolding part
moved store from to n r =
    let k : from + n - from ≡ n = omega arith in
    let l : length (take n (drop from store)) ≡ n = length-take-le n (drop from store) (omega (arith, length-drop from store, r.inside)) in
    rw k (sym (sets-eq (take n (drop from store)) store to (omega (arith, l, r.down, r.inside)) ∙ rw l))
