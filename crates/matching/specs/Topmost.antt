-- One number that decides the last descendant combinator of a selector on all rows of a path, so that what stands before it is not matched on each. It decides by its order alone: the
-- combinator holds on a row exactly if the number stands before that row. It is asked only where tests and child combinators lead to the combinator. Where they do from one row of the path, the
-- parent of the row that they lead to says yes, and the path's own row says no; where they do from more, the topmost row that what stands before the combinator matches decides for all, since
-- rows stand behind their ancestors. On rows before its number a selector does not match at all.
use Rattle.std.specs.Prelude.{ℕ, ◌<◌, Bool, true, false, List, [], ◌∷◌, ◌≡◌, refl, ltb}
use Rattle.combinators.specs.Choice.{pick, or, and, is}
use Rattle.combinators.specs.Part.{part}
use Rattle.combinators.specs.Word.{same_text}
use Rattle.syntax.specs.Selector.{Component, element, descendant}
use Rattle.page.specs.Ancestors.{ancestors_from, ancestors_of, line_of}
use Rattle.page.specs.PathOf.{attributes_from, element_at, elements_of, path_of}
use Rattle.page.specs.Rows.{node_number, node_at, element_kind, name_of}
use Rattle.matching.specs.Matches.{name_is, here, on_ancestors, step, matches}
use Rattle.matching.specs.Recursion.{by_combinator}
use Rattle.matching.specs.Climb.{reaches, climb_of, first_reaching}
use Rattle.matching.specs.declared.matcher.Climbed.{Climbed}
use Rattle.matching.specs.declared.matcher.Climbed.TheVariants.{Ended, Descendant}
use Rattle.matching.specs.declared.matcher.SelectorMatch.TheVariants.{Matches, FailsLocally, FailsCompletely}

-- a row, or an ancestor of it
pub data Line (nodes : List ℕ) : ℕ → ℕ → Type 0 where
  same : {row : ℕ} → Line nodes row row
  above : {row at : ℕ} → ¬ (row ≡ 0) → Line nodes (node_at nodes row).parent at → Line nodes row at

-- whether a selector matches, by where its tests and child combinators lead: a descendant combinator is decided by a number
unfoldable pub below_top : ℕ → Climbed → Bool
below_top top (Ended Matches) = true
below_top top (Ended FailsLocally) = false
below_top top (Ended FailsCompletely) = false
below_top top (Descendant n at) = ltb top at

-- the parent of the row that a descendant combinator is reached on
unfoldable pub parent_reached : List ℕ → Climbed → ℕ
parent_reached nodes (Ended r) = 0
parent_reached nodes (Descendant n at) = (node_at nodes at).parent

-- whether there is a descendant combinator
unfoldable pub has_descendant : List Component → Bool
has_descendant [] = false
has_descendant (c ∷ cs) = by_combinator c (has_descendant cs) true (has_descendant cs)

module _ (nodes attributes text : List ℕ) where
  -- a number that decides the last descendant combinator of a selector wherever it is reached from a row or an ancestor of it
  pub record RightTop (cs : List Component) (row top : ℕ) : Type 0 where
    pub decides : (at : ℕ) → Line nodes row at → below_top top (climb_of nodes attributes text cs at) ≡ matches cs (path_of nodes attributes text at)

  -- ---- the topmost row

  -- the last of some rows that components match; `top` where they match none
  unfoldable pub last_matched : List Component → List ℕ → ℕ → ℕ
  last_matched cs [] top = top
  last_matched cs (row ∷ rows) top = last_matched cs rows (pick (matches cs (path_of nodes attributes text row)) row top)

  -- the topmost ancestor of a row that components match; the row itself where they match none
  unfoldable pub topmost : List Component → ℕ → ℕ
  topmost cs row = last_matched cs (ancestors_of nodes row) row

  -- the one that matches what stands before the last descendant combinator of a selector
  unfoldable pub selector_top : ℕ → List Component → ℕ
  selector_top row [] = row
  selector_top row (c ∷ cs) = by_combinator c (selector_top row cs) (topmost cs row) (selector_top row cs)

  -- ---- the number of a selector

  -- with a descendant combinator: the row itself where it is reached from no row of the path; where it is from one, the parent of the row that it is reached on if the selector matches, and
  -- the row if not; where it is from more, the topmost row
  unfoldable pub reached_number : ℕ → List Component → ℕ
  reached_number row cs =
      let first = first_reaching nodes attributes text cs (line_of nodes row) in
      let second = first_reaching nodes attributes text cs (line_of nodes (node_at nodes first).parent) in
      pick (is first 0) row
      (pick (is second 0) (pick (matches cs (path_of nodes attributes text first)) (parent_reached nodes (climb_of nodes attributes text cs first)) row) (selector_top row cs))

  -- without one, 0
  unfoldable pub selector_number : ℕ → List Component → ℕ
  selector_number row cs = pick (has_descendant cs) (reached_number row cs) 0

  -- a number that decides, and before which no row of the path is matched
  pub record RightNumber (cs : List Component) (row top : ℕ) : Type 0 where
    pub right : RightTop cs row top
    pub none : (at : ℕ) → Line nodes row at → at < top → matches cs (path_of nodes attributes text at) ≡ false

-- ---- cases

-- below the document `a`, in it `b`, and in that `b` once more
unfoldable nested : List ℕ
nested =
    0 ∷ 0 ∷ 0 ∷ 0 ∷ 0 ∷ 0
    ∷ element_kind ∷ 0 ∷ 0 ∷ 1 ∷ 0 ∷ 0
    ∷ element_kind ∷ 1 ∷ 1 ∷ 1 ∷ 0 ∷ 0
    ∷ element_kind ∷ 2 ∷ 1 ∷ 1 ∷ 0 ∷ 0 ∷ []

unfoldable names : List ℕ
names = 0x61 ∷ 0x62 ∷ []

-- the selector `x y`
unfoldable within : ℕ → ℕ → List Component
within x y = element (y ∷ []) ∷ descendant ∷ element (x ∷ []) ∷ []

-- `b` has no combinator; that of `c c` is reached from no row, that of `b a` from row 1 alone, which it does not match; that of `a b` from two rows, of whose ancestors 1 is the topmost `a`; that of
-- `b b` up to row 2 from row 2 alone, which it does not match, and that of `a b` there too, which it matches
test-number : (selector_number nested [] names 3 (element (0x62 ∷ []) ∷ []) ≡ 0)
    × (selector_number nested [] names 3 (within 0x63 0x63) ≡ 3) × (selector_number nested [] names 3 (within 0x62 0x61) ≡ 3)
    × (selector_number nested [] names 3 (within 0x61 0x62) ≡ 1) × (selector_number nested [] names 2 (within 0x62 0x62) ≡ 2) × (selector_number nested [] names 2 (within 0x61 0x62) ≡ 1)
unfolding selector_number has_descendant reached_number parent_reached first_reaching selector_top topmost last_matched reaches climb_of by_combinator matches step here on_ancestors name_is same_text path_of elements_of element_at attributes_from ancestors_of ancestors_from node_number name_of part nested names within pick or and is
test-number = (refl, refl, refl, refl, refl, refl)
