-- What reading selectors, rules and sheets leaves: an answer, and the rows and texts of what was read. A reader that fails or panics leaves the
-- stores as they were: they are zero where it may write, and what it wrote is zero again.
use Rattle.std.specs.Prelude.{ℕ, ◌+◌, ◌*◌, ◌^◌, ◌≤◌, ◌<◌, Option, Some, None, Result, Ok, Err, List, [], length}
use Rattle.syntax.specs.RuleLayout.{component_width}
use Rattle.combinators.specs.Store.{Zeros}
use Rattle.selectors.specs.Outcome.{Outcome, on_outcome}
use Rattle.selectors.specs.declared.readings.Panic.{Panic}
use Rattle.selectors.specs.declared.readings.Read.{Read}

-- the answer: c counts what was read, w gives its rows and x its texts
unfoldable pub reading : {A : Type 0} → (A → ℕ) → (A → List ℕ) → (A → List ℕ) → Outcome A → Result (Option Read) Panic
reading c w x o =
    on_outcome o (λ n a. Ok (Some (record { taken = n; count = c a; numbers = length (w a); text = length (x a) }))) (Ok None) (λ p. Err (record { place = p }))

-- that of a reader which never fails (laws `selectors-never`, `sheet-never-fails`): what is said of `fails` is said of nothing
unfoldable pub many_reading : {A : Type 0} → (A → ℕ) → (A → List ℕ) → (A → List ℕ) → Outcome A → Result Read Panic
many_reading c w x o =
    on_outcome o (λ n a. Ok (record { taken = n; count = c a; numbers = length (w a); text = length (x a) })) (Ok (record { taken = 0; count = 0; numbers = 0; text = 0 }))
    (λ p. Err (record { place = p }))

-- what is written of what was read: nothing where it does not read
unfoldable pub written : {A : Type 0} → (A → List ℕ) → Outcome A → List ℕ
written w o = on_outcome o (λ n a. w a) [] (λ p. [])

-- ---- room

-- a store for the texts of s, zero from the fill on, with room for them and k bytes more
pub record TextRoom (k : ℕ) (s store : List ℕ) (fill : ℕ) : Type 0 where
  pub zeros : Zeros store fill
  pub for-texts : fill + length s + k ≤ length store
  pub bits : fill + length s + k < 2 ^ 32

-- rows for the components of s, zero from the place on, with room for them and k numbers more
pub record RowRoom (k : ℕ) (s rules : List ℕ) (place : ℕ) : Type 0 where
  pub zeros : Zeros rules place
  pub for-rows : place + (component_width * length s + k) ≤ length rules
  pub bits : place + (component_width * length s + k) < 2 ^ 64
