-- All selectors of a sheet at each node of a path, from part to part. Nothing is asked of what the parts held, nor of the bytes.
use Rattle.std.specs.Prelude.{ℕ, List, [], ◌∷◌, ◌++◌}
use Rattle.combinators.specs.Choice.{pick}
use Rattle.syntax.specs.Style.{StyleDecl}
use Rattle.page.specs.Path.{Path}
use Rattle.matching.specs.Matches.{matches}
use Rattle.compiled.specs.Decoded.{Decoded, on_decoded}
use Rattle.compiled.specs.Number.{number_at}
use Rattle.compiled.specs.Sheet.{CompiledSelector}
use Rattle.segments.specs.Placed.{Placed, has_style, placed_from}
use Rattle.segments.specs.Pass.{Passed, pass_from}
use Rattle.segments.specs.Document.{styled_from, fresh_from}

-- those of a sheet that have a style
unfoldable pub placed_in : List ℕ → List Placed
placed_in code = on_decoded (number_at code 0) (λ i k. placed_from code k i) (λ _. [])

-- the place of the first
unfoldable pub styled_in : List ℕ → ℕ
styled_in code = on_decoded (number_at code 0) (λ i k. styled_from code k i) (λ _. 0)

-- a node, alone: by its parent's part, into its own
unfoldable pub pass_at : List ℕ → Path → List ℕ → List ℕ → Passed
pass_at code row above own = on_decoded (number_at code 0) (λ i k. pass_from code row above k (styled_from code k i) own) (λ _. record { part = own; matched = [] })

-- what the document is told, in place of a part above it
unfoldable pub fresh_in : List ℕ → List ℕ → List ℕ
fresh_in code part = on_decoded (number_at code 0) (λ i k. fresh_from code k i part) (λ _. part)

-- the node that a path begins with, where its part held `own` of the path, and what is used above the document held `spare`
unfoldable pub passed_down : List ℕ → (Path → List ℕ) → List ℕ → Path → Passed
passed_down code own spare [] = pass_at code [] (fresh_in code spare) (own [])
passed_down code own spare (e ∷ up) = pass_at code (e ∷ []) (passed_down code own spare up).part (own (e ∷ up))

-- ---- the selectors themselves

-- that have a style
unfoldable pub with_style : List (CompiledSelector StyleDecl) → List (CompiledSelector StyleDecl)
with_style [] = []
with_style (s ∷ ss) = pick (has_style s.styles) (s ∷ []) [] ++ with_style ss

-- that match, in reading order
unfoldable pub matching_of : {A : Type 0} → Path → List (CompiledSelector A) → List (CompiledSelector A)
matching_of path [] = []
matching_of path (s ∷ ss) = pick (matches s.components path) (s ∷ []) [] ++ matching_of path ss

-- that are read at places
unfoldable pub read_in : {A : Type 0} → (ℕ → Decoded A) → List ℕ → List A
read_in u [] = []
read_in u (p ∷ ps) = on_decoded (u p) (λ _ s. s ∷ []) (λ _. []) ++ read_in u ps
