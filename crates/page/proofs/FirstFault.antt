-- The first row that fails a test: how it is found row by row, and what it says of the rows.
use mathlib.Core.Path.{◌≡◌, refl, sym, ap, ◌∙◌}
use mathlib.Core.Bool.{Bool, true, false}
use mathlib.Core.Logic.{◌⊎◌, inl, inr}
use Prim.Native.Nat.{ℕ, zero, suc, ◌+◌, ◌-◌, ◌≤◌, ◌<◌}
use native.Mathlib.Omega.{arith}
use Rattle.std.specs.Prelude.{Option, Some, None, not, cond}
use Rattle.std.specs.List.{find, range_with_len}
use Rattle.combinators.specs.Choice.{pick}
use Rattle.combinators.proofs.Rules.{pick_true, pick-false, pick-holds, lt-or-ge}
use Rattle.page.specs.Accepted.{first_fault}

-- rows before `row` passed: the first fault of those left is that of all
pub record Seeking (right : ℕ → Bool) (rows row : ℕ) : Type 0 where
  pub work : first_fault right (rows - row) row ≡ first_fault right rows 0
  pub le : row ≤ rows

module _ (right : ℕ → Bool) (rows : ℕ) where
  -- before the first row all rows are left to be asked
  pub seek-begin : Seeking right rows 0
  seek-begin = let z : rows - 0 ≡ rows = omega arith in record { work = ap (λ (k : ℕ). first_fault right k 0) z; le = omega arith }

  module _ (row : ℕ) (i : Seeking right rows row) where
    -- with no row left there is no fault
    pub seek-done : rows ≤ row → None ≡ first_fault right rows 0
    unfolding first_fault
    seek-done h =
        let z : rows - row ≡ 0 = omega arith in
        sym (ap (λ (k : ℕ). first_fault right k row) z) ∙ i.work

    module _ (l : row < rows) where
      -- what is sought from a row on
      next : first_fault right (rows - row) row ≡ pick (right row) (first_fault right (rows - (row + 1)) (row + 1)) (Some row)
      unfolding first_fault
      next =
          let z : rows - row ≡ suc (rows - (row + 1)) = omega arith in
          ap (λ (k : ℕ). first_fault right k row) z

      -- a row that passes is not the first to fail
      pub seek-on : right row ≡ true → Seeking right rows (row + 1)
      seek-on e = record { work = pick_true _ _ _ _ e refl ∙ sym next ∙ i.work; le = omega arith }

      -- a row that fails behind rows that pass is the first
      pub seek_stop : right row ≡ false → Some row ≡ first_fault right rows 0
      seek_stop e = pick-false _ _ _ _ e refl ∙ sym next ∙ i.work

-- ---- what it says of the rows
module _ (right : ℕ → Bool) where
  -- it is one of the rows
  pub fault-range : (k row f : ℕ) → first_fault right k row ≡ Some f → (row ≤ f) × (f < row + k)
  unfolding first_fault
  fault-range zero row f e = absurd (cc)
  fault-range (suc k) row f e =
      pick-holds (λ (o : Option ℕ). o ≡ Some f → (row ≤ f) × (f < row + suc k)) (right row) _ _
      (λ _ q. let i = fault-range k (row + 1) f q in (omega (arith, i.0), omega (arith, i.1)))
      (λ _ q. let z : row ≡ f = cc in (omega arith, omega arith)) e

  -- the rows before it pass
  pub fault-passed : (k row f m : ℕ) → first_fault right k row ≡ Some f → row ≤ m → m < f → right m ≡ true
  unfolding first_fault
  fault-passed zero row f m e h l = absurd (cc)
  fault-passed (suc k) row f m e h l =
      pick-holds (λ (o : Option ℕ). o ≡ Some f → right m ≡ true) (right row) _ _
      (λ (t : right row ≡ true) q. here-or t (λ (z : row + 1 ≤ m). fault-passed k (row + 1) f m q z l) (lt-or-ge row m))
      (λ _ q. let z : row ≡ f = cc in absurd (omega arith)) e
    where
      here-or : right row ≡ true → (row + 1 ≤ m → right m ≡ true) → (row < m) ⊎ (m ≤ row) → right m ≡ true
      here-or e f (inl z) = f (omega arith)
      here-or e f (inr z) = let o : m ≡ row = omega arith in rw o e

  -- it fails
  pub fault-fails : (k row f : ℕ) → first_fault right k row ≡ Some f → right f ≡ false
  unfolding first_fault
  fault-fails zero row f e = absurd (cc)
  fault-fails (suc k) row f e =
      pick-holds (λ (o : Option ℕ). o ≡ Some f → right f ≡ false) (right row) _ _
      (λ _ q. fault-fails k (row + 1) f q)
      (λ (t : right row ≡ false) q. let z : row ≡ f = cc in rw (← z) t) e

  -- there is none where all pass
  pub fault-none : (k row : ℕ) → ((m : ℕ) → row ≤ m → m < row + k → right m ≡ true) → first_fault right k row ≡ None
  unfolding first_fault
  fault-none zero row f = refl
  fault-none (suc k) row f =
      let i = fault-none k (row + 1) (λ (m : ℕ) (h : row + 1 ≤ m) (l : m < row + 1 + k). f m (omega arith) (omega arith)) in
      sym (pick_true _ _ _ _ (f row (omega arith) (omega arith)) (sym i))

  -- and all pass where there is none
  pub fault-all : (k row m : ℕ) → first_fault right k row ≡ None → row ≤ m → m < row + k → right m ≡ true
  unfolding first_fault
  fault-all zero row m e h l = absurd (omega arith)
  fault-all (suc k) row m e h l =
      pick-holds (λ (o : Option ℕ). o ≡ None → right m ≡ true) (right row) _ _
      (λ (t : right row ≡ true) q. here-or t (λ (z : row + 1 ≤ m). fault-all k (row + 1) m q z (omega arith)) (lt-or-ge row m))
      (λ _ q. absurd (cc)) e
    where
      here-or : right row ≡ true → (row + 1 ≤ m → right m ≡ true) → (row < m) ⊎ (m ≤ row) → right m ≡ true
      here-or e f (inl z) = f (omega arith)
      here-or e f (inr z) = let o : m ≡ row = omega arith in rw o e

-- ---- the library's words for it
-- it is the first number of the range that fails
pub fault-found : (right : ℕ → Bool) (k row : ℕ) → find (λ r. not (right r)) (range_with_len row k) ≡ first_fault right k row
unfolding first_fault pick
fault-found right zero row = refl
fault-found right (suc k) row = go (right row) (fault-found right k (row + 1))
  where
    go : (t : Bool) {o p : Option ℕ} → o ≡ p → cond (not t) (Some row) o ≡ pick t p (Some row)
    go true e = e
    go false e = refl
