-- Element children: how they are counted, and that a row past the end is none.
use mathlib.Core.Bool.{Bool, true, false}
use mathlib.Core.Path.{◌≡◌, refl, ap, ◌∙◌}
use mathlib.Core.List.{List}
use mathlib.Core.Logic.{◌⊎◌, inl, inr}
use Prim.Native.Nat.{ℕ, min, ◌+◌, ◌≤◌, ◌<◌}
use native.Mathlib.Omega.{arith}
use native.Mathlib.Numerals.{add-one}
use lib.ListN.{length}
use Rattle.std.specs.Int.{from_bool}
use Rattle.combinators.specs.Choice.{pick}
use Rattle.combinators.proofs.Rules.{pick-false, and_left, is-no, lt-or-ge}
use Rattle.page.specs.Rows.{node_at, element_kind, kind_column}
use Rattle.page.specs.Ancestors.{is_element_child, element_children, place_of}
use Rattle.page.proofs.Numbers.{node-past}

-- 1 where a row counts as a child
abbrev child_at : List ℕ → ℕ → ℕ → ℕ
child_at nodes p row = pick (is_element_child nodes p row) 1 0

-- a row that is no element
pub no-element : (nodes : List ℕ) (p row kind : ℕ) → kind ≡ (node_at nodes row).kind → ¬ (kind ≡ element_kind) → 0 ≡ child_at nodes p row
unfolding is_element_child
no-element nodes p row kind k y = pick-false _ _ _ _ (and_left _ _ (is-no _ _ (λ q. y (k ∙ q)))) refl

-- ---- `element_children`: the count so far
pub record Counting (nodes : List ℕ) (p count i : ℕ) : Type 0 where
  pub so_far : count ≡ element_children nodes p i
  pub few : count ≤ i

module _ (nodes : List ℕ) (p : ℕ) where
  -- before the first row no child is counted
  pub count-begin : Counting nodes p 0 0
  unfolding element_children
  count-begin = record { so_far = refl; few = omega arith }

  -- one row more: a child of the parent counts one
  pub count-on : (count i : ℕ) → Counting nodes p count i → (t : Bool) → t ≡ is_element_child nodes p i → Counting nodes p (count + from_bool t) (i + 1)
  unfolding element_children pick
  count-on count i c true e = record { so_far = rw (add-one i, ← c.so_far, ← e); few = omega (arith, c.few) }
  count-on count i c false e = record { so_far = rw (add-one i, ← c.so_far, ← e); few = omega (arith, c.few) }

-- ---- `place_among`: which element child of its parent a row is
module _ (nodes : List ℕ) (row p r : ℕ) (e : p ≡ (node_at nodes row).parent) where
  -- the element children of the parent up to the row are the row's place
  pub place-there : r ≡ element_children nodes p (row + 1) → r ≡ place_of nodes row
  unfolding place_of
  place-there h = rw (← e) h

  -- a row past the end is no element
  pub place-past : length nodes ≤ row → r ≡ element_children nodes p row → r ≡ place_of nodes row
  unfolding place_of element_children
  place-past l h =
      let n : 0 ≡ child_at nodes p row =
      no-element nodes p row 0 (node-past nodes row kind_column 0 l) (λ (z : 0 ≡ element_kind). omega arith) in
      rw (← e, add-one row, ← n) (omega arith)

  -- the greatest number m stands for the row behind where that is no number: the row is past the end then
  pub place-counted : (m s : ℕ) → row ≤ m → length nodes ≤ m → s ≡ min (row + 1) m → r ≡ element_children nodes p s → r ≡ place_of nodes row
  place-counted m s k l d h = go (lt-or-ge row m)
    where
      go : (row < m) ⊎ (m ≤ row) → r ≡ place_of nodes row
      go (inl t) = let f : s ≡ row + 1 = omega arith in place-there (h ∙ ap (element_children nodes p) f)
      go (inr t) = let f : s ≡ row = omega arith in place-past (omega arith) (h ∙ ap (element_children nodes p) f)
