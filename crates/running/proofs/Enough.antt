-- Returns of the functions that ask whether what is lent suffices.
use mathlib.Core.Path.{◌≡◌, ap, sym, ◌∙◌}
use mathlib.Core.Bool.{Bool, true, false}
use mathlib.Core.Logic.{⊎_elim}
use Prim.Native.Nat.{ℕ, ◌+◌, ◌-◌, ◌*◌, ◌^◌, ◌≤◌, ◌<◌}
use native.Mathlib.Omega.{arith}
use borrow.Author.Tests.{le-leb, lt-leb}
use lib.Dec.{leb}
use Rattle.std.proofs.Common.{min}
use Rattle.combinators.specs.Choice.{and}
use Rattle.combinators.specs.LeastLengths.{text_least, stores_suffice}
use Rattle.combinators.proofs.Rules.{and_left, and-gives, and-gives-false, lt-or-ge}
use Rattle.cascade.specs.Row.{style_row_width}
use Rattle.runner.specs.State.{depths}

-- texts that are too few do not suffice
few-texts : (n rules tokens brackets texts : ℕ) → texts < text_least n → stores_suffice n rules tokens brackets texts ≡ false
unfolding stores_suffice
few-texts n rules tokens brackets texts h = and_left _ _ (lt-leb (text_least n) texts h)

-- a sum that is cut to the largest number there is decides as the sum does, for no texts suffice for either
pub texts-told : (n m rules tokens brackets texts : ℕ) → m ≡ min n (2 ^ 64 - 1) → texts < 2 ^ 64 → (k : Bool) → k ≡ stores_suffice m rules tokens brackets texts → k ≡ stores_suffice n rules tokens brackets texts
texts-told n m rules tokens brackets texts em h k ek =
    ek ∙ ⊎_elim (λ (l : n < 2 ^ 64). let e : m ≡ n = omega (arith, em) in ap (λ (z : ℕ). stores_suffice z rules tokens brackets texts) e)
    (λ (l : 2 ^ 64 ≤ n). few-texts m rules tokens brackets texts (omega (arith, em)) ∙ sym (few-texts n rules tokens brackets texts (omega arith))) (lt-or-ge n (2 ^ 64))

module _ (compiled nodes rows state n rules tokens brackets texts : ℕ) {t : Bool} (et : t ≡ leb (style_row_width * nodes + 0) rows) where
  abbrev Suffices : Bool → Type 0
  Suffices r = r ≡ and (leb (nodes * style_row_width) rows) (and (leb (depths * (compiled + 1)) state) (stores_suffice n rules tokens brackets texts))

  -- the test that the code made of the rows is the definition's
  rows_told : {b : Bool} → t ≡ b → leb (nodes * style_row_width) rows ≡ b
  rows_told e = let z : nodes * style_row_width ≡ style_row_width * nodes + 0 = omega arith in ap (λ (m : ℕ). leb m rows) z ∙ sym et ∙ e

  -- the return where the rows are too few for the page
  pub few-rows : t ≡ false → Suffices false
  few-rows e = and-gives-false _ _ (rows_told e)

  -- the return where the state is too short for the compiled bytes
  pub short-state : t ≡ true → state < depths * (compiled + 1) → Suffices false
  short-state e h = and-gives _ _ false (rows_told e) (and-gives-false _ _ (lt-leb (depths * (compiled + 1)) state h))

  -- the return where both are long enough: the stores decide
  pub by-texts : t ≡ true → depths * (compiled + 1) ≤ state → (k : Bool) → k ≡ stores_suffice n rules tokens brackets texts → Suffices k
  by-texts e h k d = and-gives _ _ k (rows_told e) (and-gives _ _ k (le-leb (depths * (compiled + 1)) state h) d)
