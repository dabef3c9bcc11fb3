-- Where tests and child combinators lead on the way up from a row, and the ancestors that a descendant combinator tries.
use Rattle.std.specs.Prelude.{ℕ, ◌-◌, ◌≤◌, ◌<◌, Bool, true, false, List, [], ◌∷◌, ◌≡◌, refl, length}
use Rattle.combinators.specs.Choice.{pick, is}
use Rattle.syntax.specs.RuleLayout.{element_kind, component_kind_at}
use Rattle.syntax.specs.Selector.{Component, star, child, descendant}
use Rattle.page.specs.Ancestors.{ancestors_of, line_of}
use Rattle.page.specs.PathOf.{path_of}
use Rattle.page.specs.Rows.{node_at}
use Rattle.matching.specs.Matches.{step, matches}
use Rattle.matching.specs.Rows.{component_number, components_at, Rooted}
use Rattle.matching.specs.Recursion.{or_else, result_on_ancestors, by_combinator, match_recursively}
use Rattle.matching.specs.declared.matcher.SelectorMatch.TheVariants.{Matches, FailsLocally, FailsCompletely}
use Rattle.matching.specs.declared.matcher.Climbed.{Climbed}
use Rattle.matching.specs.declared.matcher.Climbed.TheVariants.{Ended, Descendant}

-- the last of n components asks for an element's name
pub record NameAt (components : List ℕ) (n : ℕ) : Type 0 where
  pub some : 0 < n
  pub element : component_number components (n - 1) component_kind_at ≡ element_kind

-- whether a climb leads to a descendant combinator
unfoldable pub reaches : Climbed → Bool
reaches (Ended r) = false
reaches (Descendant n at) = true

module _ (nodes attributes text : List ℕ) where
  -- where tests and child combinators lead from a row, the last component first: to the end, or to a descendant combinator with so many components before it, on the row or an ancestor of it
  unfoldable pub climb_of : List Component → ℕ → Climbed
  climb_of [] row = Ended Matches
  climb_of (c ∷ cs) row =
      by_combinator c (pick (is row 0) (Ended FailsCompletely) (climb_of cs (node_at nodes row).parent)) (Descendant (length cs) row)
      (pick (matches (c ∷ []) (path_of nodes attributes text row)) (climb_of cs row) (Ended FailsLocally))

  -- the first of some rows from which a descendant combinator is reached; 0 where there is none, as on the document, where it fails whatever stands before it
  unfoldable pub first_reaching : List Component → List ℕ → ℕ
  first_reaching cs [] = 0
  first_reaching cs (row ∷ rows) = pick (reaches (climb_of cs row)) row (first_reaching cs rows)

-- on the document `*` ends, `> *` has no parent, and `* *` leads to its combinator, before which one component stands
test-climb : (climb_of [] [] [] (star ∷ []) 0 ≡ Ended Matches) × (climb_of [] [] [] (star ∷ child ∷ []) 0 ≡ Ended FailsCompletely)
    × (climb_of [] [] [] (star ∷ descendant ∷ star ∷ []) 0 ≡ Descendant 1 0)
unfolding climb_of by_combinator matches step pick is
test-climb = (refl, refl, refl)

module _ (store components nodes attributes text : List ℕ) where
  -- of `left` components n stand before a descendant combinator, on a row or an ancestor of it, whose own ancestors decide
  pub record AtDescendant (left row n at : ℕ) : Type 0 where
    pub fewer : n < left
    pub not-below : at ≤ row
    pub rooted : Rooted nodes at
    pub same :
        match_recursively (components_at store components left) (path_of nodes attributes text row)
        ≡ result_on_ancestors (match_recursively (components_at store components n)) (path_of nodes attributes text at)

  -- an ancestor of a row, on which n components are tried next: its result decides, or else that of its own ancestors; from none that is passed over do they reach a descendant combinator
  pub record NextAncestor (n row above : ℕ) : Type 0 where
    pub rooted : Rooted nodes above
    pub higher : above < row
    pub same :
        result_on_ancestors (match_recursively (components_at store components n)) (path_of nodes attributes text row)
        ≡ or_else (match_recursively (components_at store components n) (path_of nodes attributes text above)) (result_on_ancestors (match_recursively (components_at store components n)) (path_of nodes attributes text above))
    pub passed :
        first_reaching nodes attributes text (components_at store components n) (ancestors_of nodes row)
        ≡ first_reaching nodes attributes text (components_at store components n) (line_of nodes above)

  -- on no ancestor of a row do n components more than fail locally: they fail on all of them, and from none do they reach a descendant combinator
  pub record NoneLeft (n row : ℕ) : Type 0 where
    pub fails : result_on_ancestors (match_recursively (components_at store components n)) (path_of nodes attributes text row) ≡ FailsCompletely
    pub unreached : first_reaching nodes attributes text (components_at store components n) (ancestors_of nodes row) ≡ 0
