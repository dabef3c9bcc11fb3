-- The ancestors of a row are its parent and the parent's ancestors, where the parent is before it; how deep rows lie, and how a climb goes.
use mathlib.Core.Path.{◌≡◌, refl, sym, ap, ◌∙◌}
use mathlib.Core.Bool.{Bool, true, false}
use mathlib.Core.Logic.{◌⊎◌, inl, inr}
use mathlib.Core.List.{List, [], ◌∷◌, ◌++◌}
use Prim.Native.Nat.{ℕ, zero, suc, ◌+◌, ◌-◌, ◌≤◌, ◌<◌}
use native.Mathlib.Omega.{arith}
use borrow.Author.Tests.{ltb-true, lt-ltb, le-ltb}
use lib.Dec.{ltb}
use lib.ListN.{length}
use Rattle.std.specs.Prelude.{Some, None}
use Rattle.combinators.specs.Choice.{pick, or, is}
use Rattle.combinators.specs.All.{member}
use Rattle.combinators.proofs.Rules.{pick_true, pick-false, pick-holds, never, either, or_left, or-gives, is-yes, is-no, is_true, lt-or-ge}
use Rattle.page.specs.Rows.{node_at}
use Rattle.page.specs.Ancestors.{ancestors_from, ancestors_of, line_of, depth_of, climbed}

-- two choices by one test agree where their first arms do, if the test holds
pub pick_same : {A : Type 0} (t : Bool) (x x' y : A) → (t ≡ true → x ≡ x') → pick t x y ≡ pick t x' y
unfolding pick
pick_same true x x' y f = f refl
pick_same false x x' y f = refl

module _ (nodes : List ℕ) where
  -- a row whose parent is not before it has no ancestors
  none_above : (k row : ℕ) → row ≤ (node_at nodes row).parent → ancestors_from k nodes row ≡ []
  unfolding ancestors_from
  none_above zero row h = refl
  none_above (suc k) row h = sym (pick-false _ _ _ _ (le-ltb (node_at nodes row).parent row h) refl)

  -- more than row many add nothing
  enough : (k k' row : ℕ) → row ≤ k → row ≤ k' → ancestors_from k nodes row ≡ ancestors_from k' nodes row
  unfolding ancestors_from
  enough zero k' row h h' = sym (none_above k' row (omega arith))
  enough (suc k) zero row h h' = none_above (suc k) row (omega arith)
  enough (suc k) (suc k') row h h' =
      let p = (node_at nodes row).parent in
      pick_same (ltb p row) _ _ _
      (λ (e : ltb p row ≡ true). let l : p < row = ltb-true p row e in ap (λ (a : List ℕ). p ∷ a) (enough k k' p (omega arith) (omega arith)))

  -- no more than k are counted
  counted : (k row : ℕ) → length (ancestors_from k nodes row) ≤ k
  unfolding ancestors_from
  counted zero row = omega arith
  counted (suc k) row =
      let p = (node_at nodes row).parent in
      pick-holds (λ (a : List ℕ). length a ≤ suc k) (ltb p row) _ _ (λ _. omega (arith, counted k p)) (λ _. omega arith)

  module _ (row : ℕ) where
    -- a row is at most as deep as rows come before it
    pub depth-most : depth_of nodes row ≤ row
    unfolding depth_of ancestors_of
    depth-most = counted row row

    module _ (h : row ≤ (node_at nodes row).parent) where
      -- a row whose parent is not before it has no ancestors
      pub top-ancestors : ancestors_of nodes row ≡ []
      unfolding ancestors_of
      top-ancestors = none_above row row h

      -- so it lies at depth 0
      pub top-depth : depth_of nodes row ≡ 0
      unfolding depth_of
      top-depth = ap length top-ancestors

    module _ (l : (node_at nodes row).parent < row) where
      -- a row below another has it and what is above it for ancestors
      pub below-ancestors : ancestors_of nodes row ≡ line_of nodes (node_at nodes row).parent
      unfolding ancestors_of ancestors_from
      below-ancestors =
          let p = (node_at nodes row).parent in
          let j = row - 1 in
          enough row (suc j) row (omega arith) (omega arith)
          ∙ sym (pick_true _ _ _ _ (lt-ltb p row l) refl)
          ∙ ap (λ (a : List ℕ). p ∷ a) (enough j p p (omega arith) (omega arith))

      -- a row lies one deeper than its parent
      pub below-depth : depth_of nodes row ≡ suc (depth_of nodes (node_at nodes row).parent)
      unfolding depth_of
      below-depth = ap length below-ancestors

-- ---- the line of an ancestor is the end of the row's own
-- row x stands in the line of a row, and all behind it is its own line
Ends : List ℕ → ℕ → ℕ → Type 0
Ends nodes x row = (pre : List ℕ) × (line_of nodes row ≡ pre ++ line_of nodes x)

module _ (nodes : List ℕ) where
  module _ (row x : ℕ) (below : (node_at nodes row).parent < row → member x (line_of nodes (node_at nodes row).parent) ≡ true → Ends nodes x (node_at nodes row).parent) where
    -- a row among the ancestors
    above-ends : member x (ancestors_of nodes row) ≡ true → ((node_at nodes row).parent < row) ⊎ (row ≤ (node_at nodes row).parent) → Ends nodes x row
    unfolding Ends member
    above-ends m (inl l) =
        let e = below-ancestors nodes row l in
        let u = below l (sym (ap (member x) e) ∙ m) in
        (row ∷ u.0, ap (λ (a : List ℕ). row ∷ a) (e ∙ u.1))
    above-ends m (inr h) = never (sym (ap (member x) (top-ancestors nodes row h)) ∙ m)

    -- a row of the line, if what is above the row is known to end so
    ends-step : member x (line_of nodes row) ≡ true → Ends nodes x row
    unfolding Ends member
    ends-step m =
        either ((pre : List ℕ) × (line_of nodes row ≡ pre ++ line_of nodes x)) _ _ m (λ (q : is x row ≡ true). ([], ap (λ (r : ℕ). line_of nodes r) (sym (is_true x row q))))
        (λ q. above-ends q (lt-or-ge (node_at nodes row).parent row))

  -- for the first rows
  ends-below : (k row x : ℕ) → row ≤ k → member x (line_of nodes row) ≡ true → Ends nodes x row
  ends-below zero row x h m = ends-step row x (λ (l : (node_at nodes row).parent < row) _. absurd (omega arith)) m
  ends-below (suc k) row x h m =
      ends-step row x (λ (l : (node_at nodes row).parent < row) q. ends-below k (node_at nodes row).parent x (omega arith) q) m

  -- a line ends with the line of each of its rows
  pub line-ends : (row x : ℕ) → member x (line_of nodes row) ≡ true → (pre : List ℕ) × (line_of nodes row ≡ pre ++ line_of nodes x)
  unfolding Ends
  line-ends row x m = ends-below row row x (omega arith) m

-- ---- `depth_of`: the steps taken and the depth of where it stands are the row's depth
module _ (nodes : List ℕ) (row depth above p : ℕ) (i : depth + depth_of nodes above ≡ depth_of nodes row) (e : p ≡ (node_at nodes above).parent) where
  -- a row whose parent is not before it has nothing above it: the depth is counted
  pub depth-done : above ≤ p → depth ≡ depth_of nodes row
  depth-done h = let z : depth_of nodes above ≡ 0 = top-depth nodes above (rw (← e) h) in omega arith

  module _ (l : p < above) where
    -- the parent lies one less deep
    up : depth_of nodes above ≡ suc (depth_of nodes p)
    up = below-depth nodes above (rw (← e) l) ∙ rw e

    -- the count stays below the row
    pub depth-few : depth < row
    depth-few = omega (arith, up, depth-most nodes row)

    -- one step up counts one more
    pub depth-more : (depth + 1) + depth_of nodes p ≡ depth_of nodes row
    depth-more = omega (arith, up)

-- ---- `climb_to`
-- a climb from a row: where it arrives is where it would from here, and so much depth is left
pub record Climbing (nodes : List ℕ) (from row target left : ℕ) : Type 0 where
  pub same : climbed nodes row target ≡ climbed nodes from target
  pub deep : left ≡ depth_of nodes row

module _ (nodes : List ℕ) (from row target left : ℕ) (i : Climbing nodes from row target left) where
  -- at the row that is sought the climb arrives
  pub climb-done : row ≡ target → Some left ≡ climbed nodes from target
  unfolding climbed member
  climb-done e =
      pick_true _ _ _ _ (or_yes (is-yes target row (sym e))) (ap Some (i.deep ∙ ap (depth_of nodes) e)) ∙ i.same
    where
      or_yes : is target row ≡ true → or (is target row) (member target (ancestors_of nodes row)) ≡ true
      or_yes z = or_left _ _ z

  module _ (d : ¬ (row ≡ target)) (p : ℕ) (e : p ≡ (node_at nodes row).parent) where
    -- a row that is not the one climbed for is passed by
    past : (l : List ℕ) → ancestors_of nodes row ≡ l → member target (line_of nodes row) ≡ member target l
    unfolding member
    past l f = sym (or-gives _ _ _ (is-no target row (λ z. d (sym z))) refl) ∙ ap (member target) f

    -- a row whose parent is not before it is the last: the climb does not arrive
    pub climb-stop : row ≤ p → None ≡ climbed nodes from target
    unfolding climbed member
    climb-stop h = pick-false _ _ _ _ (past [] (top-ancestors nodes row (rw (← e) h))) refl ∙ i.same

    module _ (l : p < row) where
      -- there is a step to take
      pub climb-deep : 1 ≤ left
      climb-deep = omega (arith, below-depth nodes row (rw (← e) l), i.deep)

      -- one step up, with one depth less
      pub climb-on : Climbing nodes from p target (left - 1)
      unfolding climbed
      climb-on =
          let b : depth_of nodes row ≡ suc (depth_of nodes p) = rw e (below-depth nodes row (rw (← e) l)) in
          record {
            same = ap (λ (t : Bool). pick t (Some (depth_of nodes target)) None) (sym (past (line_of nodes p) (below-ancestors nodes row (rw (← e) l) ∙ rw e))) ∙ i.same;
            deep = omega (arith, b, i.deep);
          }
