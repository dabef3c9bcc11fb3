-- The selectors of compiled bytes that have a style, with their places. One without styles declares nothing, and has no block.
use Rattle.std.specs.Prelude.{ℕ, zero, suc, Bool, true, false, List, [], ◌∷◌, ◌++◌, map}
use Rattle.combinators.specs.Choice.{pick}
use Rattle.syntax.specs.Selector.{Component}
use Rattle.syntax.specs.Style.{agent_origin, StyleDecl}
use Rattle.page.specs.Path.{Path}
use Rattle.matching.specs.Matches.{matches}
use Rattle.compiled.specs.Decoded.{on_decoded}
use Rattle.compiled.specs.Sheet.{CompiledSelector, head_at, selector_at}
use Rattle.compiled.specs.Style.{style_at}
use Rattle.segments.specs.Segments.{Piece, piece}

-- the place of a selector, that of its first component, that behind it, and its components
pub record Placed : Type 0 where
  pub place : ℕ
  pub first : ℕ
  pub end : ℕ
  pub components : List Component

-- its components as pieces
abbrev pub pieces_of : Placed → List Piece
pieces_of s = map piece s.components

-- one style or more
unfoldable pub has_style : List StyleDecl → Bool
has_style [] = false
has_style (d ∷ ds) = true

-- the place behind the numbers before its components
unfoldable pub first_at : List ℕ → ℕ → ℕ
first_at code i = on_decoded (head_at code agent_origin i) (λ first _. first) (λ _. i)

-- the selector s, which was read from i to n
unfoldable pub placed_at : List ℕ → ℕ → ℕ → CompiledSelector StyleDecl → Placed
placed_at code i n s = record { place = i; first = first_at code i; end = n; components = s.components }

-- those of k selectors from i on
unfoldable pub placed_from : List ℕ → ℕ → ℕ → List Placed
placed_from code zero i = []
placed_from code (suc k) i =
    on_decoded (selector_at (style_at code) code agent_origin i) (λ n s. pick (has_style s.styles) (placed_at code i n s ∷ placed_from code k n) (placed_from code k n)) (λ _. [])

-- the places of those that match, in reading order
unfoldable pub matching_places : Path → List Placed → List ℕ
matching_places path [] = []
matching_places path (s ∷ others) = pick (matches s.components path) (s.place ∷ []) [] ++ matching_places path others
