-- What a call with three sheets knows once it has asked for their lengths.
use mathlib.Core.Path.{◌≡◌}
use mathlib.Core.Bool.{true, false}
use mathlib.Core.List.{List}
use Prim.Native.Nat.{ℕ, ◌+◌, ◌≤◌}
use borrow.Author.Tests.{ltb-false, leb-true}
use lib.ListN.{length}
use Rattle.combinators.specs.LeastLengths.{stores_suffice}
use Rattle.combinators.proofs.Rules.{and-true, neither}
use Rattle.sheets.specs.SheetAnswer.{sheet_limit}
use Rattle.origins.specs.Checks.{any_too_long, Lent}

-- ---- whether one of three sheets is too long
module _ (a u w : ℕ) where
  -- where none of the three is too long, each is within the limit
  pub none-long : any_too_long a u w ≡ false → (a ≤ sheet_limit) × (u ≤ sheet_limit) × (w ≤ sheet_limit)
  unfolding any_too_long
  none-long e =
      let p = neither _ _ e in
      let q = neither _ _ p.1 in
      (ltb-false _ _ p.0, ltb-false _ _ q.0, ltb-false _ _ q.1)

-- ---- no text is too long, and the stores suffice
-- where both tests are passed, the three sheets and the stores are as a call asks for
pub lent_by : (agent user author rules tokens brackets texts : List ℕ) → any_too_long (length agent) (length user) (length author) ≡ false
    → stores_suffice (length agent + length user + length author) (length rules) (length tokens) (length brackets) (length texts) ≡ true
    → Lent agent user author rules tokens brackets texts
unfolding stores_suffice
lent_by agent user author rules tokens brackets texts e g =
    let p = and-true _ _ g in
    let q = and-true _ _ p.1 in
    let u = and-true _ _ q.1 in
    record { within = e; least = record { for-texts = leb-true _ _ p.0; for-brackets = leb-true _ _ q.0; for-rules = leb-true _ _ u.0; for-tokens = leb-true _ _ u.1 } }
