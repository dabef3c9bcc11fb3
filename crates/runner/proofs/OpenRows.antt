-- The rows open at a row of an accepted page, and the element children that they have had.
use Prim.Native.Nat.{ℕ, zero, suc, ◌+◌, ◌-◌, ◌≤◌, ◌<◌}
use mathlib.Core.Path.{◌≡◌, refl, ◌∙◌}
use mathlib.Core.Bool.{Bool, true, false}
use mathlib.Core.Logic.{◌⊎◌, inl, inr}
use mathlib.Core.List.{List, [], ◌∷◌, ◌++◌}
use native.Mathlib.Omega.{arith}
use native.Mathlib.Nat.{not-suc-le-zero}
use Rattle.combinators.specs.Choice.{and, is}
use Rattle.combinators.proofs.Rules.{and_both, and_left, and_right, is-yes, is-no, is_true}
use Rattle.page.specs.Rows.{node_count, node_at, element_kind, other_kind}
use Rattle.page.specs.Ancestors.{ancestors_of, line_of, is_element_child, element_children}
use Rattle.page.specs.Accepted.{node_limit}
use Rattle.page.proofs.Ancestry.{top-ancestors, below-ancestors, line-ends}
use Rattle.page.proofs.AcceptedPages.{Accepted}
use Rattle.page.proofs.RowFacts.{document-kind, parent-kind, parent-open, parent-before, kind-of-row}
use Rattle.page.proofs.Paths.{one_more, no_more, children-most}

-- all rows of a list are before a row
abbrev pub Below : ℕ → List ℕ → Type 0
Below b [] = Unit
Below b (r ∷ l) = (r < b) × Below b l

-- and before a later one
pub weaken : (l : List ℕ) (a b : ℕ) → a ≤ b → Below a l → Below b l
weaken [] a b h u = tt
weaken (r ∷ l) a b h u = (omega (arith, u.0), weaken l a b h u.1)

-- ---- element children, counted up to a row and up to the next
module _ (nodes : List ℕ) (p k : ℕ) where
  -- a row that is no element child adds none
  pub children-same : ((node_at nodes k).kind ≡ element_kind → (node_at nodes k).parent ≡ p → ⊥) → element_children nodes p (suc k) ≡ element_children nodes p k
  unfolding is_element_child
  children-same f = no_more nodes p k (go (is (node_at nodes k).kind element_kind) refl)
    where
      go : (t : Bool) → is (node_at nodes k).kind element_kind ≡ t → and (is (node_at nodes k).kind element_kind) (is (node_at nodes k).parent p) ≡ false
      go true e = and_right _ _ (is-no _ _ (f (is_true _ _ e)))
      go false e = and_left _ _ e

-- an element is one child more of its parent
pub child-counted : (nodes : List ℕ) (k : ℕ) → (node_at nodes k).kind ≡ element_kind
    → element_children nodes (node_at nodes k).parent (suc k) ≡ element_children nodes (node_at nodes k).parent k + 1
unfolding is_element_child
child-counted nodes k e = one_more nodes (node_at nodes k).parent k (and_both _ _ (is-yes _ _ e) (is-yes _ _ refl)) ∙ omega arith

module _ (nodes attributes text : List ℕ) (ok : Accepted nodes attributes text) where
  -- counts are below the limit of nodes
  pub children-few : (p k : ℕ) → k ≤ node_count nodes → element_children nodes p k < node_limit
  children-few p zero l = none
    where
      none : element_children nodes p 0 < node_limit
      none = unfold element_children in omega arith
  children-few p (suc k) l = omega (arith, children-most nodes attributes text ok p k, ok.few)

  -- ---- the ancestors of a row are before it
  -- if it is so of the rows before
  below_step : (n row : ℕ) → ((r : ℕ) → r < n → r < node_count nodes → Below r (ancestors_of nodes r)) → row < suc n → row < node_count nodes
      → Below row (ancestors_of nodes row)
  below_step n zero ih h l = rw (top-ancestors nodes 0 (omega arith)) tt
  below_step n (suc row) ih h l =
      let b : (node_at nodes (suc row)).parent < suc row = parent-before nodes attributes text ok (suc row) l (omega arith) in
      rw (below-ancestors nodes (suc row) b)
      (b, weaken (ancestors_of nodes (node_at nodes (suc row)).parent) (node_at nodes (suc row)).parent (suc row) (omega arith) (ih (node_at nodes (suc row)).parent (omega arith) (omega arith)))

  -- so it is of the first rows
  below-first : (n row : ℕ) → row < n → row < node_count nodes → Below row (ancestors_of nodes row)
  below-first zero row h l = absurd (not-suc-le-zero h)
  below-first (suc n) row h l = below_step n row (below-first n) h l

  -- the ancestors of every row of the page are before it
  pub ancestors-before : (row : ℕ) → row < node_count nodes → Below row (ancestors_of nodes row)
  ancestors-before row l = below-first (suc row) row (omega arith) l

  -- ---- a row behind row 0
  module _ (i : ℕ) (there : suc i < node_count nodes) where
    abbrev p : ℕ
    p = (node_at nodes (suc i)).parent

    -- its parent is not behind the row before
    pub parent-most : p ≤ i
    parent-most = omega (arith, parent-before nodes attributes text ok (suc i) there (omega arith))

    -- its parent is no other content
    pub parent-no-other : ¬ ((node_at nodes p).kind ≡ other_kind)
    parent-no-other e = go (parent-kind nodes attributes text ok (suc i) there (omega arith))
      where
        go : (p ≡ 0) ⊎ ((node_at nodes p).kind ≡ element_kind) → ⊥
        go (inl z) = let k : (node_at nodes 0).kind ≡ other_kind = rw z at e in omega (arith, document-kind nodes attributes text ok)
        go (inr z) = omega (arith, z, e)

    -- its ancestors are its parent and the parent's
    pub line-next : ancestors_of nodes (suc i) ≡ line_of nodes p
    line-next = below-ancestors nodes (suc i) (parent-before nodes attributes text ok (suc i) there (omega arith))

    -- the line of its parent is the end of that of the row before
    pub parent-line : (pre : List ℕ) × (line_of nodes i ≡ pre ++ line_of nodes p)
    parent-line =
        let e : suc i - 1 ≡ i = omega arith in
        line-ends nodes i p (rw e at (parent-open nodes attributes text ok (suc i) there (omega arith)))

    -- it is an element or other content
    pub kinds : ((node_at nodes (suc i)).kind ≡ other_kind) ⊎ ((node_at nodes (suc i)).kind ≡ element_kind)
    kinds = go (kind-of-row nodes attributes text ok (suc i) there (omega arith))
      where
        go : {A B : Type 0} → (((node_at nodes (suc i)).kind ≡ other_kind) × A) ⊎ (((node_at nodes (suc i)).kind ≡ element_kind) × B)
            → ((node_at nodes (suc i)).kind ≡ other_kind) ⊎ ((node_at nodes (suc i)).kind ≡ element_kind)
        go (inl t) = inl t.0
        go (inr t) = inr t.0
