-- What is read of a selector in compiled bytes: that a reading succeeds, the list that is read, and what components add to the specificity.
use Rattle.std.specs.Prelude.{ℕ, ◌≡◌, List, [], Result}
use Rattle.matching.specs.Specificity.{added, specificity}
use Rattle.compiled.specs.Decoded.{Decoded, read, on_decoded, mapped, counted}
use Rattle.compiled.specs.Component.{component_at}
use Rattle.compiled.specs.Answer.{read_answer}
use Rattle.compiled.specs.declared.places.Fault.{Fault}
use Rattle.compiled.specs.declared.places.Read.{Read}
use Rattle.cascade.specs.declared.specificity.Specificity.{Specificity}

-- a reading that succeeds
pub record Reads {A : Type 0} (d : Decoded A) : Type 0 where
  pub end : ℕ
  pub value : A
  pub told : d ≡ read end value

-- what was read, or nothing
unfoldable pub listed : {A : Type 0} → Decoded (List A) → List A
listed d = on_decoded d (λ _ xs. xs) (λ _. [])

-- what a component adds to the specificity of its selector
unfoldable pub weight_at : List ℕ → ℕ → Result (Read Specificity) Fault
weight_at code at = read_answer (mapped added (component_at code at))

-- what so many components from a place on add together: the specificity of a selector that has no others
unfoldable pub weights_at : List ℕ → ℕ → ℕ → Result (Read Specificity) Fault
weights_at code count at = read_answer (mapped specificity (counted (component_at code) count at))
