-- A node goes over the selectors that have a style, from one to the next by what its parent's part says.
use Rattle.std.specs.Prelude.{ℕ, zero, suc, ◌+◌, List, [], ◌∷◌, ◌++◌}
use Rattle.std.proofs.lemmas.List.Edits.{sets}
use Rattle.combinators.specs.Choice.{pick, is}
use Rattle.page.specs.Path.{Path}
use Rattle.segments.specs.Sweep.{pair_at}
use Rattle.segments.specs.Before.{no_place}
use Rattle.segments.specs.Visits.{to_next, block_bytes, Visited, visit_at}

-- the node's own part, and the places of the selectors that match, in reading order
pub record Passed : Type 0 where
  pub part : List ℕ
  pub matched : List ℕ

-- the place of a selector, if it matches
unfoldable pub matched_here : Visited → ℕ → List ℕ
matched_here v p = pick v.matched (p ∷ []) []

-- the own part with the block of the selector at p
unfoldable pub block_set : Visited → ℕ → ℕ → List ℕ → List ℕ
block_set v next p own = sets own (p + to_next) (block_bytes next v.awaited v.flags)

-- at most k selectors from the one at the place p on
unfoldable pub pass_from : List ℕ → Path → List ℕ → ℕ → ℕ → List ℕ → Passed
pass_from code row above zero p own = record { part = own; matched = [] }
pass_from code row above (suc k) p own =
    pick (is p no_place) (record { part = own; matched = [] })
    (let v : Visited = visit_at code row above p in
    let next = pair_at above (p + to_next) in
    let others : Passed = pass_from code row above k next (block_set v next p own) in
    record { part = others.part; matched = matched_here v p ++ others.matched })
