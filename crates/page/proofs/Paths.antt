-- Paths on an accepted page: an element's path is the element and its parent's path, so it is as long as the element is deep; and its place is one more
-- than the elements before it that have its parent.
use mathlib.Core.Path.{◌≡◌, refl, sym, ap, ◌∙◌}
use mathlib.Core.Bool.{true, false}
use mathlib.Core.Logic.{◌⊎◌, inl, inr}
use mathlib.Core.List.{List, [], ◌∷◌, ◌++◌}
use Prim.Native.Nat.{ℕ, zero, suc, ◌+◌, ◌≤◌, ◌<◌}
use native.Mathlib.Omega.{arith}
use native.Mathlib.Nat.{not-suc-le-zero}
use native.Mathlib.Numerals.{add-one}
use lib.ListN.{length}
use Rattle.combinators.specs.Choice.{pick, is}
use Rattle.combinators.proofs.Rules.{pick_true, pick-false, pick-holds, and_both, and_left, and_right, is-yes, is-no}
use Rattle.page.specs.Path.{Element, Path}
use Rattle.page.specs.Rows.{node_count, node_at, element_kind}
use Rattle.page.specs.Ancestors.{ancestors_of, line_of, depth_of, is_element_child, element_children, place_of}
use Rattle.page.specs.PathOf.{element_at, elements_of, path_of}
use Rattle.page.proofs.Ancestry.{below-ancestors, top-ancestors, depth-most}
use Rattle.page.proofs.AcceptedPages.{Accepted}
use Rattle.page.proofs.RowFacts.{document-kind, parent-before, parent-kind, one_deeper}

-- ---- the rows of a line, one after the other
module _ (nodes attributes text : List ℕ) where
  abbrev path_at : ℕ → Path
  path_at row = path_of nodes attributes text row

  module _ (row : ℕ) (rest : List ℕ) where
    -- an element is the first of its path
    counts : (node_at nodes row).kind ≡ element_kind
        → elements_of nodes attributes text (row ∷ rest) ≡ element_at nodes attributes text row ∷ elements_of nodes attributes text rest
    unfolding elements_of
    counts e = sym (pick_true _ _ _ _ (is-yes _ _ e) refl)

    -- what is none adds nothing
    passes : ¬ ((node_at nodes row).kind ≡ element_kind) → elements_of nodes attributes text (row ∷ rest) ≡ elements_of nodes attributes text rest
    unfolding elements_of
    passes d = sym (pick-false _ _ _ _ (is-no _ _ d) refl)

  -- the elements of two lists of rows
  both : (a b : List ℕ) → elements_of nodes attributes text (a ++ b) ≡ elements_of nodes attributes text a ++ elements_of nodes attributes text b
  unfolding elements_of
  both [] b = refl
  both (row ∷ a) b =
      let rest = both a b in
      pick-holds
      (λ (e : List Element). pick (is (node_at nodes row).kind element_kind) (element_at nodes attributes text row ∷ elements_of nodes attributes text (a ++ b)) (elements_of nodes attributes text (a ++ b)) ≡ e ++ elements_of nodes attributes text b)
      (is (node_at nodes row).kind element_kind) _ _
      (λ t. sym (pick_true _ _ _ _ t (sym (ap (λ (l : List Element). element_at nodes attributes text row ∷ l) rest))))
      (λ t. sym (pick-false _ _ _ _ t (sym rest)))

  module _ (ok : Accepted nodes attributes text) where
    -- the document's path is empty
    pub path-document : path_at 0 ≡ []
    unfolding path_of elements_of
    path-document =
        passes 0 (ancestors_of nodes 0) (λ (e : (node_at nodes 0).kind ≡ element_kind). omega (arith, document-kind nodes attributes text ok))
        ∙ ap (elements_of nodes attributes text) (top-ancestors nodes 0 (omega arith))

    module _ (row : ℕ) (there : row < node_count nodes) (later : 0 < row) where
      -- the line goes on with the parent
      above : ancestors_of nodes row ≡ line_of nodes (node_at nodes row).parent
      above = below-ancestors nodes row (parent-before nodes attributes text ok row there later)

      -- an element's path is the element, and then its parent's path
      pub path-element : (node_at nodes row).kind ≡ element_kind → path_at row ≡ element_at nodes attributes text row ∷ path_at (node_at nodes row).parent
      unfolding path_of
      path-element e = counts row (ancestors_of nodes row) e ∙ ap (λ (l : List ℕ). element_at nodes attributes text row ∷ elements_of nodes attributes text l) above

    -- depth is the length of the path, of an element as of the document; by the rows before
    Long : ℕ → Type 0
    Long row = length (path_at row) ≡ depth_of nodes row

    -- the path of the document is as long as the document is deep: empty
    long-document : Long 0
    unfolding Long
    long-document = ap length path-document ∙ omega (arith, depth-most nodes 0)

    -- a parent is the document or an element
    parent-long : (row : ℕ) (there : row < node_count nodes) (later : 0 < row)
        → ((node_at nodes (node_at nodes row).parent).kind ≡ element_kind → Long (node_at nodes row).parent) → Long (node_at nodes row).parent
    parent-long row there later f = go (parent-kind nodes attributes text ok row there later)
      where
        go : ((node_at nodes row).parent ≡ 0) ⊎ ((node_at nodes (node_at nodes row).parent).kind ≡ element_kind) → Long (node_at nodes row).parent
        go (inl e) = rw e long-document
        go (inr e) = f e

    -- of an element, if it is so of the elements before
    long-step : (row : ℕ) (there : row < node_count nodes) → (node_at nodes row).kind ≡ element_kind
        → ((p : ℕ) → p < row → p < node_count nodes → (node_at nodes p).kind ≡ element_kind → Long p) → Long row
    unfolding Long
    long-step zero there e f = long-document
    long-step (suc row) there e f =
        let b : (node_at nodes (suc row)).parent < suc row = parent-before nodes attributes text ok (suc row) there (omega arith) in
        let p : length (path_at (node_at nodes (suc row)).parent) ≡ depth_of nodes (node_at nodes (suc row)).parent =
        parent-long (suc row) there (omega arith) (f (node_at nodes (suc row)).parent b (omega arith)) in
        let d = one_deeper nodes attributes text ok (suc row) there (omega arith) in
        ap length (path-element (suc row) there (omega arith) e) ∙ ap suc p ∙ sym d

    -- of the elements among the first rows
    long-below : (n row : ℕ) → row < n → row < node_count nodes → (node_at nodes row).kind ≡ element_kind → Long row
    long-below zero row h there e = absurd (not-suc-le-zero h)
    long-below (suc n) row h there e = long-step row there e (λ (p : ℕ) (l : p < row) (t : p < node_count nodes) k. long-below n p (omega arith) t k)

    -- an element's path is as long as it is deep
    pub path-length : (row : ℕ) → row < node_count nodes → (node_at nodes row).kind ≡ element_kind → length (path_at row) ≡ depth_of nodes row
    unfolding Long
    path-length row there e = long-below (suc row) row (omega arith) there e

-- ---- places: which rows count as element children
module _ (nodes : List ℕ) (p k : ℕ) where
  -- a row that is an element child counts
  pub one_more : is_element_child nodes p k ≡ true → element_children nodes p (suc k) ≡ suc (element_children nodes p k)
  unfolding element_children
  one_more e = let n : element_children nodes p k + 1 ≡ suc (element_children nodes p k) = omega arith in sym (ap (λ (one : ℕ). element_children nodes p k + one) (pick_true _ _ _ _ e refl)) ∙ n

  -- a row that is no element child of the parent does not count
  pub no_more : is_element_child nodes p k ≡ false → element_children nodes p (suc k) ≡ element_children nodes p k
  unfolding element_children
  no_more e = let n : element_children nodes p k + 0 ≡ element_children nodes p k = omega arith in sym (ap (λ (one : ℕ). element_children nodes p k + one) (pick-false _ _ _ _ e refl)) ∙ n

-- the place of an element: one more than the elements before it that have its parent
pub place-counts : (nodes : List ℕ) (row : ℕ) → (node_at nodes row).kind ≡ element_kind → place_of nodes row ≡ suc (element_children nodes (node_at nodes row).parent row)
unfolding place_of is_element_child
place-counts nodes row e = rw (add-one row) (one_more nodes (node_at nodes row).parent row (and_both _ _ (is-yes _ _ e) (is-yes _ _ refl)))

module _ (nodes attributes text : List ℕ) (ok : Accepted nodes attributes text) where
  -- row 0 is no child, nor is a row one of a row behind it, nor of itself
  no-child : (p k : ℕ) → k < node_count nodes → k ≤ p → is_element_child nodes p k ≡ false
  unfolding is_element_child
  no-child p zero l h = and_left _ _ (is-no _ _ (λ (e : (node_at nodes 0).kind ≡ element_kind). omega (arith, document-kind nodes attributes text ok)))
  no-child p (suc k) l h =
      let b = parent-before nodes attributes text ok (suc k) l (omega arith) in
      and_right _ _ (is-no _ _ (λ (e : (node_at nodes (suc k)).parent ≡ p). omega arith))

  -- a row has no element children among the rows up to it
  pub none_yet : (p k : ℕ) → k ≤ node_count nodes → k ≤ suc p → element_children nodes p k ≡ 0
  unfolding element_children
  none_yet p zero l h = refl
  none_yet p (suc k) l h = no_more nodes p k (no-child p k (omega arith) (omega arith)) ∙ none_yet p k (omega arith) (omega arith)

  -- the element children among the rows up to a row are at most as many as rows come before it, since row 0 is none
  pub children-most : (p k : ℕ) → element_children nodes p (suc k) ≤ k
  unfolding element_children
  children-most p zero = let e = no_more nodes p 0 (no-child p 0 ok.some (omega arith)) in omega arith
  children-most p (suc k) =
      let i = children-most p k in
      pick-holds (λ (one : ℕ). element_children nodes p (suc k) + one ≤ suc k) (is_element_child nodes p (suc k)) 1 0 (λ _. omega arith) (λ _. omega arith)
