-- A number with a sign is read back from the number that stands for it.
use mathlib.Core.Path.{◌≡◌, sym}
use Prim.Native.Nat.{◌+◌, ◌*◌, ◌/◌, ◌%◌}
use native.Mathlib.Omega.{arith}
use lib.IntN.{ℤ, pos, negsuc}
use Rattle.combinators.proofs.Rules.{pick_true, pick-false, is-yes, is-no}
use Rattle.syntax.specs.Signed.{signed_number, signed_of}

-- a number of either sign reads back from the number that stands for it
pub signed_back : (v : ℤ) → signed_of (signed_number v) ≡ v
unfolding signed_of signed_number
signed_back (pos n) =
    let r : 2 * n % 2 ≡ 0 = omega arith in
    let q : 2 * n / 2 ≡ n = omega arith in
    sym (pick_true (pos n) _ _ _ (is-yes _ 0 r) (rw q))
signed_back (negsuc n) =
    let r : (2 * n + 1) % 2 ≡ 1 = omega arith in
    let q : (2 * n + 1) / 2 ≡ n = omega arith in
    sym (pick-false (negsuc n) _ _ _ (is-no _ 0 (λ e. absurd (omega arith))) (rw q))
