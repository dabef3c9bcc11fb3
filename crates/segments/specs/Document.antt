-- The part that the document is told: of each selector that has a style the leftmost segment is awaited, and nothing of it has begun.
use Rattle.std.specs.Prelude.{ℕ, zero, suc, ◌≤◌, ◌≡◌, List}
use Rattle.combinators.specs.Choice.{pick, is}
use Rattle.syntax.specs.Style.{agent_origin, StyleDecl}
use Rattle.compiled.specs.Decoded.{Decoded, read, on_decoded, and_then, counted}
use Rattle.compiled.specs.Number.{number_at}
use Rattle.compiled.specs.Component.{component_at}
use Rattle.compiled.specs.Sheet.{CompiledSelector, head_at, selector_at, selectors_at}
use Rattle.compiled.specs.Style.{style_at}
use Rattle.segments.specs.Before.{beginning, segment_before, no_place}
use Rattle.segments.specs.Placed.{has_style}
use Rattle.segments.specs.Visits.{Visited, awaits}
use Rattle.segments.specs.Pass.{block_set}

-- the place of the first of k selectors from i on that has a style
unfoldable pub styled_from : List ℕ → ℕ → ℕ → ℕ
styled_from code zero i = no_place
styled_from code (suc k) i = on_decoded (selector_at (style_at code) code agent_origin i) (λ n s. pick (has_style s.styles) i (styled_from code k n)) (λ _. no_place)

-- the leftmost segment of the selector at p
unfoldable pub leftmost_at : List ℕ → ℕ → Visited
leftmost_at code p =
    on_decoded (head_at code agent_origin p) (λ first h. awaits (segment_before code no_place h.count (beginning first) first)) (λ _. awaits (beginning no_place))

-- the blocks of k selectors from i on
unfoldable pub fresh_from : List ℕ → ℕ → ℕ → List ℕ → List ℕ
fresh_from code zero i part = part
fresh_from code (suc k) i part =
    on_decoded (selector_at (style_at code) code agent_origin i)
    (λ n s. fresh_from code k n (pick (has_style s.styles) (block_set (leftmost_at code i) (styled_from code k n) i part) part)) (λ _. part)

-- ---- the same walk over bytes that are a sheet, which reads no styles: where a selector has none, the next one stands behind their count

-- how many styles the selector at i has
unfoldable pub style_count_at : List ℕ → ℕ → Decoded ℕ
style_count_at code i = and_then (head_at code agent_origin i) (λ n h. and_then (counted (component_at code) h.count n) (λ m _. number_at code m))

-- the place of the first of k selectors from i on that has a style
unfoldable pub first_styled : List ℕ → ℕ → ℕ → ℕ
first_styled code zero i = no_place
first_styled code (suc k) i = on_decoded (style_count_at code i) (λ n count. pick (is count 0) (first_styled code k n) i) (λ _. no_place)

-- k selectors from i on are read, as behind one of some origin: then this place is that of `styled_from`
pub record SelectorsRead (code : List ℕ) (k i : ℕ) : Type 0 where
  pub least : ℕ
  pub end : ℕ
  pub selectors : List (CompiledSelector StyleDecl)
  pub origin : agent_origin ≤ least
  pub told : selectors_at (style_at code) code k least i ≡ read end selectors
