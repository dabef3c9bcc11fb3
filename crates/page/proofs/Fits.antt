-- Whether stores suffice for a page's text.
use mathlib.Core.Path.{◌≡◌, ap, sym, ◌∙◌}
use mathlib.Core.Bool.{Bool, false}
use mathlib.Core.Logic.{⊎_elim}
use Prim.Native.Nat.{ℕ, ◌-◌, ◌^◌, ◌≤◌, ◌<◌}
use native.Mathlib.Omega.{arith}
use borrow.Author.Tests.{lt-leb}
use Rattle.std.proofs.Common.{min}
use Rattle.combinators.specs.LeastLengths.{bracket_least, stores_suffice}
use Rattle.combinators.proofs.Rules.{and_left, and_right, lt-or-ge}

-- brackets that are fewer than the bytes do not suffice
few-brackets : (n rules tokens brackets texts : ℕ) → brackets < n → stores_suffice n rules tokens brackets texts ≡ false
unfolding stores_suffice
few-brackets n rules tokens brackets texts h = and_right _ _ (and_left _ _ (lt-leb (bracket_least n) brackets h))

-- a sum that is cut to the largest number there is decides as the sum does, for no brackets suffice for either
pub fits : (n m rules tokens brackets texts : ℕ) → m ≡ min n (2 ^ 64 - 1) → brackets < 2 ^ 63 → (r : Bool) → r ≡ stores_suffice m rules tokens brackets texts → r ≡ stores_suffice n rules tokens brackets texts
fits n m rules tokens brackets texts em h r er =
    er ∙ ⊎_elim (λ (l : n < 2 ^ 64). let e : m ≡ n = omega (arith, em) in ap (λ (k : ℕ). stores_suffice k rules tokens brackets texts) e)
    (λ (l : 2 ^ 64 ≤ n). few-brackets m rules tokens brackets texts (omega (arith, em)) ∙ sym (few-brackets n rules tokens brackets texts (omega arith))) (lt-or-ge n (2 ^ 64))
