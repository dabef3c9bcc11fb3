-- On an accepted page parents lead from every element to the document, so `do_matches` can be asked of each.
use Prim.Native.Nat.{ℕ, zero, suc, ◌≤◌, ◌<◌}
use mathlib.Core.Bool.{true}
use mathlib.Core.List.{List}
use mathlib.Core.Path.{◌≡◌}
use native.Mathlib.Omega.{arith}
use Rattle.combinators.specs.Choice.{is}
use Rattle.combinators.specs.Refusal.{no_refusal}
use Rattle.combinators.proofs.Rules.{either, and-true, is_true, is-yes, or-second}
use Rattle.page.specs.Accepted.{is_document, is_parent, parent_right, row_right, page_refusal}
use Rattle.page.specs.Ancestors.{element_children}
use Rattle.page.specs.Rows.{element_kind, node_at, node_count}
use Rattle.page.proofs.AcceptedPages.{accepted}
use Rattle.page.proofs.Paths.{none_yet}
use Rattle.page.proofs.RowLaws.{line_before}
use Rattle.matching.specs.Rows.{Rooted}
use Rattle.matching.specs.Rows.Rooted.{document, below}

-- ---- rows that keep the rules
module _ (nodes attributes : List ℕ) (n : ℕ) (right : (k : ℕ) → k < n → row_right nodes attributes k ≡ true)
    (none : (p : ℕ) → p < n → element_children nodes p (suc p) ≡ 0) where
  -- row 0, the document, is no element
  document-kind : 0 < n → ¬ ((node_at nodes 0).kind ≡ element_kind)
  unfolding row_right is_document
  document-kind h e =
      let k : (node_at nodes 0).kind ≡ 0 = is_true (node_at nodes 0).kind 0 (and-true _ _ (and-true _ _ (right 0 h)).0).0 in
      omega arith

  -- the parent that a row names is right by the row before it
  parent-right : (b : ℕ) → suc b < n → parent_right nodes b (node_at nodes (suc b)).parent ≡ true
  unfolding row_right
  parent-right b h = (and-true _ _ (right (suc b) h)).0

  -- the row that is named as a parent may be a parent
  parent-parent : (b : ℕ) → suc b < n → is_parent nodes (node_at nodes (suc b)).parent ≡ true
  unfolding parent_right
  parent-parent b h = (and-true _ _ (parent-right b h)).0

  -- the parent of a row stands before it
  parent-le : (b : ℕ) → suc b < n → (node_at nodes (suc b)).parent ≤ b
  unfolding parent_right
  parent-le b h = line_before nodes b (node_at nodes (suc b)).parent (and-true _ _ (parent-right b h)).1

  -- a row other than row 0 that may be a parent is an element
  parent-kind : (b : ℕ) → is_parent nodes (suc b) ≡ true → (node_at nodes (suc b)).kind ≡ element_kind
  unfolding is_parent
  parent-kind b e =
      either ((node_at nodes (suc b)).kind ≡ element_kind) (is (suc b) 0) (is (node_at nodes (suc b)).kind element_kind) e
      (λ y. let z : suc b ≡ 0 = is_true (suc b) 0 y in absurd (omega arith))
      (λ y. is_true (node_at nodes (suc b)).kind element_kind y)

  -- the rows up to f
  rooted-up-to : (f row : ℕ) → row ≤ f → row < n → is_parent nodes row ≡ true → Rooted nodes row
  rooted-up-to zero zero l h e = document (document-kind h)
  rooted-up-to zero (suc b) l h e = absurd (omega arith)
  rooted-up-to (suc f) zero l h e = document (document-kind h)
  rooted-up-to (suc f) (suc b) l h e =
      let p = (node_at nodes (suc b)).parent in
      let m : p ≤ b = parent-le b h in
      below (parent-kind b e) (omega arith) (none p (omega arith)) (rooted-up-to f p (omega arith) (omega arith) (parent-parent b h))

  -- from every row that may be a parent, parents lead to the document
  pub rooted : (row : ℕ) → row < n → is_parent nodes row ≡ true → Rooted nodes row
  rooted row h e = rooted-up-to row row (omega arith) h e

-- ---- the rows of an accepted page keep them
module _ (nodes attributes text : List ℕ) (e : page_refusal nodes attributes text ≡ no_refusal) where
  -- from every row of an accepted page that may be a parent, parents lead to the document
  pub accepted-rooted : (row : ℕ) → row < node_count nodes → is_parent nodes row ≡ true → Rooted nodes row
  accepted-rooted =
      let ok = accepted nodes attributes text e in
      rooted nodes attributes (node_count nodes) ok.rules (λ (p : ℕ) (l : p < node_count nodes). none_yet nodes attributes text ok p (suc p) l (omega arith))

  -- from every element of an accepted page parents lead to the document
  pub accepted-element : (row : ℕ) → row < node_count nodes → (node_at nodes row).kind ≡ element_kind → Rooted nodes row
  unfolding is_parent
  accepted-element row h k = accepted-rooted row h (or-second (is row 0) (is (node_at nodes row).kind element_kind) (is-yes (node_at nodes row).kind element_kind k))
