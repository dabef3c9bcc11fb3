-- A call of `step`, by its contract (crates/stepping/src/step.rt): what it is handed, and what it leaves in the style row, the state and the text store.
use Rattle.std.specs.Prelude.{ℕ, ◌≤◌, ◌≡◌, List, length, take}
use Rattle.styles.specs.declared.settings.Settings.{Settings}
use Rattle.runner.specs.Run.{Handed, step_on}

-- what a step is handed beside its stores
pub record StepHanded : Type 0 where
  pub code : List ℕ
  pub settings : Settings
  pub handed : Handed
  pub depth : ℕ
  pub row : List ℕ
  pub state : List ℕ

-- the text store and its fill before the step; the style row, the state, the text store and the fill behind it.
-- "The style row a step writes, and the state and fill it leaves, do not depend on what the work stores, or the text store beyond its fill, held before the step."
pub record StepLeaves (x : StepHanded) (texts : List ℕ) (fill : ℕ) (row state texts' : List ℕ) (fill' : ℕ) : Type 0 where
  pub left : record { row = row; state = state; texts = take fill' texts' } ≡ step_on x.code x.settings x.handed x.depth x.row x.state (take fill texts)
  pub within : fill' ≤ length texts'
