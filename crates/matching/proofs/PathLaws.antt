-- The path of a row from which parents lead to the document: empty at the document, else the row's element and the path of its parent.
use Prim.Native.Nat.{ℕ, zero, suc, ◌+◌, ◌≤◌, ◌<◌, ◌^◌}
use mathlib.Core.Bool.{Bool, true, false}
use mathlib.Core.List.{List, [], ◌∷◌}
use mathlib.Core.Path.{◌≡◌, refl, sym, ap, ◌∙◌}
use native.Mathlib.Omega.{arith}
use lib.ListN.{length}
use Rattle.combinators.specs.Choice.{pick, is}
use Rattle.combinators.proofs.Rules.{pick_true, pick-false, is-yes, is-no, lt-or-ge}
use mathlib.Core.Logic.{⊎_elim}
use Rattle.page.specs.Ancestors.{ancestors_from, ancestors_of, is_element_child, element_children, place_of}
use Rattle.page.specs.PathOf.{element_at, elements_of, path_of}
use Rattle.page.specs.Rows.{element_kind, node_at, kind_column}
use Rattle.page.proofs.Ancestry.{below-ancestors}
use Rattle.page.proofs.Children.{no-element}
use Rattle.page.proofs.Numbers.{node-past}
use Rattle.matching.specs.Rows.{Rooted}
use Rattle.matching.specs.Rows.Rooted.{document, below}

module _ (nodes attributes text : List ℕ) where
  -- the document's path is empty
  document-path : ¬ ((node_at nodes 0).kind ≡ element_kind) → path_of nodes attributes text 0 ≡ []
  unfolding path_of elements_of ancestors_of ancestors_from
  document-path d = sym (pick-false _ _ _ (is (node_at nodes 0).kind element_kind) (is-no _ _ d) refl)

  -- that of an element below a row is the element and that row's path
  element-path : (row : ℕ) → (node_at nodes row).kind ≡ element_kind → (node_at nodes row).parent < row
      → path_of nodes attributes text row ≡ element_at nodes attributes text row ∷ path_of nodes attributes text (node_at nodes row).parent
  unfolding path_of elements_of
  element-path row e l =
      sym (pick_true _ _ _ (is (node_at nodes row).kind element_kind) (is-yes _ _ e) refl)
      ∙ ap (λ (rows : List ℕ). element_at nodes attributes text row ∷ elements_of nodes attributes text rows) (below-ancestors nodes row l)

  -- by row: row 0 is the document
  pub top-path : (row : ℕ) → Rooted nodes row → row ≡ 0 → path_of nodes attributes text row ≡ []
  top-path row (document d) e = document-path d
  top-path row (below k l n r) e = absurd (omega arith)

  -- and any other row is an element
  pub other_path : (row : ℕ) → Rooted nodes row → ¬ (row ≡ 0)
      → path_of nodes attributes text row ≡ element_at nodes attributes text row ∷ path_of nodes attributes text (node_at nodes row).parent
  other_path row (document d) e = absurd (e refl)
  other_path row (below k l n r) e = element-path row k l

  -- by kind: an element is not the document
  pub some-element-path : (row : ℕ) → Rooted nodes row → (node_at nodes row).kind ≡ element_kind
      → path_of nodes attributes text row ≡ element_at nodes attributes text row ∷ path_of nodes attributes text (node_at nodes row).parent
  some-element-path row (document d) e = absurd (d e)
  some-element-path row (below k l n r) e = element-path row k l

-- its parent is such a row, before it
pub parent-rooted : (nodes : List ℕ) (row : ℕ) → Rooted nodes row → ¬ (row ≡ 0) → (p : ℕ) → p ≡ (node_at nodes row).parent → Rooted nodes p
parent-rooted nodes row (document d) z p e = absurd (z refl)
parent-rooted nodes row (below k l n r) z p e = rw e r

-- the parent of a row other than the document's stands before it
pub parent-before : (nodes : List ℕ) (row : ℕ) → Rooted nodes row → ¬ (row ≡ 0) → (p : ℕ) → p ≡ (node_at nodes row).parent → p < row
parent-before nodes row (document d) z p e = absurd (z refl)
parent-before nodes row (below k l n r) z p e = rw e l

-- ---- the place of a row is at most the length of the page's rows
-- a test counts for at most one
one-most : (t : Bool) → pick t 1 0 ≤ 1
unfolding pick
one-most true = omega arith
one-most false = omega arith

-- among the first k rows there are at most k element children of a row
children-most : (nodes : List ℕ) (p k : ℕ) → element_children nodes p k ≤ k
unfolding element_children
children-most nodes p zero = omega arith
children-most nodes p (suc k) = omega (arith, children-most nodes p k, one-most (is_element_child nodes p k))

-- among any rows there are no more element children of a row than the page has numbers for nodes
children-there : (nodes : List ℕ) (p k : ℕ) → element_children nodes p k ≤ length nodes
unfolding element_children
children-there nodes p zero = omega arith
children-there nodes p (suc k) =
    ⊎_elim (λ (l : k < length nodes). omega (arith, children-most nodes p k, one-most (is_element_child nodes p k)))
    (λ (h : length nodes ≤ k).
    let z : 0 ≡ pick (is_element_child nodes p k) 1 0 = no-element nodes p k 0 (node-past nodes k kind_column 0 h) (λ (y : 0 ≡ element_kind). omega arith) in
    omega (arith, children-there nodes p k)) (lt-or-ge k (length nodes))

-- the place of a row is at most the count of numbers that the page has for nodes
pub place-most : (nodes : List ℕ) (row : ℕ) → place_of nodes row ≤ length nodes
unfolding place_of
place-most nodes row = children-there nodes (node_at nodes row).parent (row + 1)

-- so a number of 62 bits holds it
pub place-small : (nodes : List ℕ) (row r : ℕ) → r ≡ place_of nodes row → length nodes ≤ 2 ^ 62 → r ≤ 2 ^ 62
place-small nodes row r e h = omega (arith, e, place-most nodes row)
