-- The return of `forward`.
use Rattle.std.proofs.Common.{◌≡◌, ℕ, min, arith}
use borrow.Author.Tests.{ltb-true, ltb-false}
use Rattle.combinators.proofs.Rules.{pick-holds}
use Rattle.syntax.specs.Stream.{reached}

-- a place in the rows, or their end, is the lesser of the two
pub reached-least : (n place r : ℕ) → r ≡ min place n → r ≡ reached n place
unfolding reached
reached-least n place r e =
    pick-holds (λ x. r ≡ x) _ _ _ (λ h. let l = ltb-true place n h in omega (arith, e)) (λ h. let l = ltb-false place n h in omega (arith, e))
