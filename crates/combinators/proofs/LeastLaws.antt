-- What it says that stores suffice.
use mathlib.Core.Path.{◌≡◌, sym, ◌∙◌}
use mathlib.Core.Bool.{Bool, true}
use Prim.Native.Nat.{ℕ}
use borrow.Author.Tests.{leb-true}
use Rattle.combinators.specs.LeastLengths.{stores_suffice, Least}
use Rattle.combinators.proofs.Rules.{and-true}

-- stores that suffice have the least lengths
pub least : {n rules tokens brackets texts : ℕ} {t : Bool} → t ≡ stores_suffice n rules tokens brackets texts → t ≡ true → Least n rules tokens brackets texts
unfolding stores_suffice
least et e =
    let p = and-true _ _ (sym et ∙ e) in
    let q = and-true _ _ p.1 in
    let u = and-true _ _ q.1 in
    record { for-texts = leb-true _ _ p.0; for-brackets = leb-true _ _ q.0; for-rules = leb-true _ _ u.0; for-tokens = leb-true _ _ u.1 }
