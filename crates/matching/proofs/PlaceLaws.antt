-- The place of a row among the element children of its parent, counted from the parent on.
use Prim.Native.Nat.{ℕ, zero, suc, ◌+◌, ◌-◌, ◌*◌, ◌<◌}
use mathlib.Core.Bool.{Bool}
use mathlib.Core.List.{List}
use mathlib.Core.Path.{◌≡◌, ap, ap₂, ◌∙◌}
use native.Mathlib.Omega.{arith}
use lib.ListN.{length, take, drop, get_or}
use lib.Seq.{get_or-drop}
use Rattle.combinators.specs.Choice.{pick}
use Rattle.combinators.proofs.Lists.{rest}
use Rattle.page.specs.Ancestors.{is_element_child, element_children, place_of}
use Rattle.page.specs.Rows.{node_width, kind_column, parent_column, node_number, node_at}
use Rattle.matching.specs.Rows.{Rooted}
use Rattle.matching.specs.Rows.Rooted.{document, below}

-- ---- the rows of a page from row a on
module _ (nodes : List ℕ) (a : ℕ) where
  -- the number of a row, counted from there
  number_behind : (k column : ℕ) → node_number (drop (a * node_width) nodes) k column ≡ node_number nodes (a + k) column
  unfolding node_number
  number_behind k column =
      let e : a * node_width + (k * node_width + column) ≡ (a + k) * node_width + column = omega arith in
      get_or-drop (a * node_width) nodes (k * node_width + column) 0 ∙ ap (λ (i : ℕ). get_or nodes i 0) e

  -- whether it is an element child of row p
  child-behind : (p k : ℕ) → is_element_child (drop (a * node_width) nodes) p k ≡ is_element_child nodes p (a + k)
  unfolding is_element_child
  child-behind p k = rw (number_behind k kind_column, number_behind k parent_column)

  -- the children among the first rows, and those among the rows behind them
  children-split : (p k : ℕ) → element_children nodes p (a + k) ≡ element_children nodes p a + element_children (drop (a * node_width) nodes) p k
  unfolding element_children
  children-split p zero = let z : a + 0 ≡ a = omega arith in ap (element_children nodes p) z ∙ omega arith
  children-split p (suc k) =
      let z : a + suc k ≡ suc (a + k) = omega arith in
      let h = children-split p k in
      let c : ◌≡◌ {A = ℕ} (pick (is_element_child (drop (a * node_width) nodes) p k) 1 0) (pick (is_element_child nodes p (a + k)) 1 0) =
      ap (λ (t : Bool). pick t 1 0) (child-behind p k) in
      ap (element_children nodes p) z ∙ omega arith

-- no row up to its parent is an element child of a row's parent
none_before : (nodes : List ℕ) (row : ℕ) → Rooted nodes row → (node_at nodes row).parent < row
    → element_children nodes (node_at nodes row).parent (suc (node_at nodes row).parent) ≡ 0
none_before nodes row (document d) l = absurd (omega arith)
none_before nodes row (below k m n r) l = n

-- ---- the return of `place_of`
-- the element children of the parent, counted from the row behind it up to the row, are the row's place
pub place-behind : (nodes : List ℕ) (row : ℕ) → Rooted nodes row → (p : ℕ) → p ≡ (node_at nodes row).parent → p < row → (r : ℕ)
    → r ≡ element_children (take (length nodes - (p + 1) * node_width) (drop ((p + 1) * node_width) nodes)) p (row - p) → r ≡ place_of nodes row
unfolding place_of
place-behind nodes row rooted p e l r h =
    let n : element_children nodes p (suc p) ≡ 0 = ap (λ (q : ℕ). element_children nodes q (suc q)) e ∙ none_before nodes row rooted (omega arith) in
    let s : p + 1 ≡ suc p = omega arith in
    let w : element_children nodes p (suc p + (row - p)) ≡ element_children nodes p (suc p) + element_children (drop (suc p * node_width) nodes) p (row - p) =
    children-split nodes (suc p) p (row - p) in
    let t : suc p + (row - p) ≡ row + 1 = omega arith in
    let v : element_children (take (length nodes - (p + 1) * node_width) (drop ((p + 1) * node_width) nodes)) p (row - p) ≡ element_children (drop (suc p * node_width) nodes) p (row - p) =
    ap (λ (q : List ℕ). element_children q p (row - p)) (rest nodes ((p + 1) * node_width) ∙ ap (λ (i : ℕ). drop (i * node_width) nodes) s) in
    let u : r ≡ element_children nodes p (suc p + (row - p)) = omega arith in
    u ∙ ap₂ (element_children nodes) e t
