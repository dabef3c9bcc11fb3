-- "The style row a step writes, and the state and fill it leaves, do not depend on what the work stores, or the text store beyond its fill, held before the step":
-- read off the contract of `step`, in which work stores do not stand, and of the text store nothing beyond its fill.
use Prim.Native.Nat.{ℕ}
use mathlib.Core.Path.{◌≡◌, ap, sym, ◌∙◌}
use mathlib.Core.List.{List}
use native.Mathlib.Omega.{arith}
use lib.ListN.{length, take}
use lib.Seq.{length-take-le}
use Rattle.runner.specs.Run.{Stepped, step_on}
use Rattle.agreement.specs.StepCall.{StepHanded, StepLeaves}

-- two steps that are handed the same, with text stores that are the same up to the fill, leave the same
pub step-alone : (x : StepHanded) (texts texts₁ : List ℕ) (fill : ℕ) → take fill texts ≡ take fill texts₁
    → (row state after : List ℕ) (n : ℕ) → StepLeaves x texts fill row state after n
    → (row₁ state₁ after₁ : List ℕ) (n₁ : ℕ) → StepLeaves x texts₁ fill row₁ state₁ after₁ n₁
    → (row ≡ row₁) × (state ≡ state₁) × (n ≡ n₁) × (take n after ≡ take n₁ after₁)
step-alone x texts texts₁ fill e row state after n a row₁ state₁ after₁ n₁ b =
    let s : ◌≡◌ {A = Stepped} (record { row = row; state = state; texts = take n after }) (record { row = row₁; state = state₁; texts = take n₁ after₁ }) =
    a.left ∙ ap (λ (t : List ℕ). step_on x.code x.settings x.handed x.depth x.row x.state t) e ∙ sym b.left in
    let t : take n after ≡ take n₁ after₁ = ap (λ (q : Stepped). q.texts) s in
    let l : length (take n after) ≡ length (take n₁ after₁) = ap length t in (
      ap (λ (q : Stepped). q.row) s,
      ap (λ (q : Stepped). q.state) s,
      omega (arith, length-take-le n after a.within, length-take-le n₁ after₁ b.within),
      t,
    )
