-- What the document is told of a selector, as code stores it.
use Prim.Native.Nat.{ℕ, ◌+◌}
use mathlib.Core.Path.{◌≡◌, refl, sym, ap, ◌∙◌}
use mathlib.Core.List.{List, ◌++◌}
use lib.Seq.{sets}
use Rattle.syntax.specs.Style.{agent_origin}
use Rattle.compiled.specs.Answer.{read_answer}
use Rattle.compiled.specs.Decoded.{on_decoded}
use Rattle.compiled.specs.Sheet.{head_at}
use Rattle.std.proofs.Common.{Result, Ok, Err}
use Rattle.compiled.specs.declared.places.Fault.{Fault}
use Rattle.compiled.specs.declared.places.Read.{Read}
use Rattle.compiled.specs.declared.sheets.Head.{Head}
use Rattle.compiled.proofs.Answers.{answer_read, answer-fault}
use Rattle.segments.specs.Sweep.{pair_bytes}
use Rattle.segments.specs.Before.{beginning, segment_before, no_place, fresh_bytes}
use Rattle.segments.specs.Visits.{to_next, to_flags, Visited, awaits}
use Rattle.segments.specs.Document.{leftmost_at}
use Rattle.segments.specs.Pass.{block_set}
use Rattle.visits.proofs.CodeVisitLaws.{awaits-stored}

-- ---- the returns of `put_leftmost`
module _ (code s₀ : List ℕ) (p next : ℕ) (r : Result (Read Head) Fault) (er : r ≡ read_answer (head_at code agent_origin p)) (s₁ : List ℕ) where
  -- what is stored of another, which it is
  stored-as : (v : Visited) → leftmost_at code p ≡ v → (s : List ℕ) → s ≡ block_set v next p s₀ → s ≡ block_set (leftmost_at code p) next p s₀
  stored-as v e s t = t ∙ ap (λ (x : Visited). block_set x next p s₀) (sym e)

  -- a selector whose head reads: what is stored awaits its leftmost segment
  pub leftmost-read : (x : Read Head) → r ≡ Ok x
      → s₁ ≡ block_set (awaits (segment_before code no_place x.value.count (beginning x.next) x.next)) next p s₀ → s₁ ≡ block_set (leftmost_at code p) next p s₀
  leftmost-read x q t = stored-as _ there s₁ t
    where
      there : leftmost_at code p ≡ awaits (segment_before code no_place x.value.count (beginning x.next) x.next)
      there = unfold leftmost_at on_decoded in rw (answer_read (head_at code agent_origin p) r er x q)

  -- where no head reads, what is stored awaits no place
  pub leftmost-fault : (f : Fault) → r ≡ Err f → s₁ ≡ sets s₀ (p + to_next) (pair_bytes next ++ pair_bytes no_place)
      → (s₂ : List ℕ) → s₂ ≡ sets s₁ (p + to_flags) (fresh_bytes (record { start = no_place; steps = 0; tests = 0 })) → s₂ ≡ block_set (leftmost_at code p) next p s₀
  leftmost-fault f q e s₂ t = stored-as _ none s₂ (awaits-stored s₀ s₁ s₂ p next (beginning no_place) no_place 0 0 (unfold beginning in refl) e t)
    where
      none : leftmost_at code p ≡ awaits (beginning no_place)
      none = unfold leftmost_at on_decoded in rw (answer-fault (head_at code agent_origin p) r er f q)
