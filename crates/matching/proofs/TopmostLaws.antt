-- The topmost ancestor that components match decides for every row of the path whether they match an ancestor of it.
use Prim.Native.Nat.{ℕ, ◌≤◌, ◌<◌}
use mathlib.Core.Bool.{Bool, true, false}
use mathlib.Core.List.{List, [], ◌∷◌}
use mathlib.Core.Logic.{◌⊎◌, inl, inr, ⊎_elim}
use mathlib.Core.Path.{◌≡◌, refl, sym, ap, ◌∙◌}
use native.Mathlib.Omega.{arith}
use borrow.Author.Tests.{lt-ltb, le-ltb}
use lib.Dec.{ltb}
use Rattle.combinators.specs.Choice.{pick, or, and, is}
use Rattle.combinators.proofs.Rules.{never, or-none, and_right, is-no, neither}
use Rattle.syntax.specs.Selector.{Component, star, class, element, hash, child, descendant, nth, attribute, attribute_equal}
use Rattle.page.specs.Ancestors.{ancestors_from, ancestors_of}
use Rattle.page.specs.Path.{Path}
use Rattle.page.specs.PathOf.{path_of}
use Rattle.page.specs.Rows.{node_at}
use Rattle.page.proofs.Ancestry.{below-ancestors}
use Rattle.matching.specs.Matches.{on_parent, on_ancestors, step, matches}
use Rattle.matching.specs.Recursion.{by_combinator}
use Rattle.matching.specs.Rows.{Rooted}
use Rattle.matching.specs.Rows.Rooted.{document, below}
use Rattle.matching.specs.Climb.{climb_of}
use Rattle.matching.specs.Topmost.{Line, below_top, last_matched, topmost, selector_top, RightTop}
use Rattle.matching.specs.Topmost.Line.{same, above}
use Rattle.matching.specs.declared.matcher.SelectorMatch.TheVariants.{FailsLocally, FailsCompletely}
use Rattle.matching.specs.declared.matcher.Climbed.{Climbed}
use Rattle.matching.specs.declared.matcher.Climbed.TheVariants.{Ended}
use Rattle.matching.proofs.CallLaws.{by-combinator}
use Rattle.matching.proofs.PathLaws.{top-path, other_path}

-- ---- a row and its ancestors
module _ (nodes : List ℕ) where
  -- the ancestors of an ancestor
  pub line_on : {row at top : ℕ} → Line nodes row at → Line nodes at top → Line nodes row top
  line_on same w = w
  line_on (above z v) w = above z (line_on v w)

  -- the parent of one of them
  pub line-up : {row at : ℕ} → Line nodes row at → ¬ (at ≡ 0) → (p : ℕ) → p ≡ (node_at nodes at).parent → Line nodes row p
  line-up w z p e = rw e (line_on w (above z same))

  -- none stands behind the row
  pub line_before : (row at : ℕ) → Rooted nodes row → Line nodes row at → at ≤ row
  line_before row at r same = omega arith
  line_before row at (document d) (above z w) = absurd (z refl)
  line_before row at (below k l n r) (above z w) = omega (arith, line_before _ at r w)

  -- each is the document or leads to it
  pub line-rooted : (row at : ℕ) → Rooted nodes row → Line nodes row at → Rooted nodes at
  line-rooted row at r same = r
  line-rooted row at (document d) (above z w) = absurd (z refl)
  line-rooted row at (below k l n r) (above z w) = line-rooted _ at r w

-- ---- the topmost
-- a row found last is the one to begin with or stands before p
found_before : (b : Bool) (p top row t : ℕ) → p < row → (t ≡ pick b p top) ⊎ (t < p) → (t ≡ top) ⊎ (t < row)
unfolding pick
found_before true p top row t h o = inr (⊎_elim (λ (e : t ≡ p). omega arith) (λ (l : t < p). omega arith) o)
found_before false p top row t h o = ⊎_elim (λ (e : t ≡ top). inl e) (λ (l : t < p). inr (omega arith)) o

-- so a row before which something is found has it at its parent or above that
found_here : (b : Bool) (p top row t : ℕ) → p < row → row ≤ top → (t ≡ pick b p top) ⊎ (t < p) → or b (ltb t p) ≡ ltb t row
unfolding pick or
found_here true p top row t h k o = sym (lt-ltb t row (⊎_elim (λ (e : t ≡ p). omega arith) (λ (l : t < p). omega arith) o))
found_here false p top row t h k o =
    ⊎_elim (λ (e : t ≡ top). le-ltb t p (omega arith) ∙ sym (le-ltb t row (omega arith))) (λ (l : t < p). lt-ltb t p l ∙ sym (lt-ltb t row (omega arith))) o

-- the parent, or what was found further down, is not before the parent, whichever is picked
pick-most : (b : Bool) (p top row : ℕ) → p < row → row ≤ top → p ≤ pick b p top
unfolding pick
pick-most true p top row h k = omega arith
pick-most false p top row h k = omega arith

module _ (nodes attributes text : List ℕ) (cs : List Component) where
  abbrev Here : ℕ → Bool
  Here row = matches cs (path_of nodes attributes text row)

  abbrev Last : ℕ → ℕ → ℕ
  Last row top = last_matched nodes attributes text cs (ancestors_of nodes row) top

  -- the document has no ancestor
  pub last-document : (top : ℕ) → Last 0 top ≡ top
  unfolding ancestors_of ancestors_from last_matched
  last-document top = refl

  -- those of an element are its parent and the parent's
  pub last-above : (row : ℕ) → (node_at nodes row).parent < row → (top : ℕ) → Last row top ≡ Last (node_at nodes row).parent (pick (Here (node_at nodes row).parent) (node_at nodes row).parent top)
  unfolding last_matched
  last-above row l top = ap (λ (rows : List ℕ). last_matched nodes attributes text cs rows top) (below-ancestors nodes row l)

  -- none is found, or one before the row
  last-before : (row : ℕ) → Rooted nodes row → (top : ℕ) → (Last row top ≡ top) ⊎ (Last row top < row)
  last-before row (document d) top = inl (last-document top)
  last-before row (below k l n r) top =
      let p = (node_at nodes row).parent in
      rw (last-above row l top) (found_before (Here p) p top row _ l (last-before p r (pick (Here p) p top)))

  -- what is found decides on the row and on its ancestors
  last-decides : (row : ℕ) → Rooted nodes row → (top : ℕ) → row ≤ top → (at : ℕ) → Line nodes row at → on_ancestors (matches cs) (path_of nodes attributes text at) ≡ ltb (Last row top) at
  unfolding on_ancestors
  last-decides row (document d) top h at (above z w) = absurd (z refl)
  last-decides row (document d) top h at same =
      ap (on_ancestors (matches cs)) (top-path nodes attributes text 0 (document d) refl) ∙ sym (le-ltb (Last 0 top) 0 (omega arith))
  last-decides row (below k l n r) top h at (above z w) =
      let p = (node_at nodes row).parent in
      rw (last-above row l top) (last-decides p r (pick (Here p) p top) (pick-most (Here p) p top row l h) at w)
  last-decides row (below k l n r) top h at same =
      let p = (node_at nodes row).parent in
      let t = pick (Here p) p top in
      let z : ¬ (row ≡ 0) = λ e. absurd (omega arith) in
      rw (last-above row l top)
      (ap (on_ancestors (matches cs)) (other_path nodes attributes text row (below k l n r) z)
      ∙ ap (or (Here p)) (last-decides p r t (pick-most (Here p) p top row l h) p same)
      ∙ found_here (Here p) p top row (Last p t) l h (last-before p r t))

  -- it stands at the row or before it
  pub topmost-within : (row : ℕ) → Rooted nodes row → topmost nodes attributes text cs row ≤ row
  unfolding topmost
  topmost-within row r = ⊎_elim (λ (e : Last row row ≡ row). omega arith) (λ (l : Last row row < row). omega arith) (last-before row r row)

-- ---- what asks for an ancestor
module _ (f : Path → Bool) where
  -- g passes no path without an ancestor that f passes
  abbrev pub Needs : (Path → Bool) → Type 0
  Needs g = (q : Path) → on_ancestors f q ≡ false → g q ≡ false

  module _ (g : Path → Bool) (n : Needs g) where
    -- where g asks for an ancestor that f passes, so does g asked of the parent
    parent-needs : Needs (on_parent g)
    unfolding on_ancestors on_parent
    parent-needs [] e = refl
    parent-needs (x ∷ up) e = n up (neither (f up) (on_ancestors f up) e).1

    -- where g asks for an ancestor that f passes, so does g asked of all ancestors
    ancestor-needs : Needs (on_ancestors g)
    unfolding on_ancestors
    ancestor-needs [] e = refl
    ancestor-needs (x ∷ up) e = let w = (neither (f up) (on_ancestors f up) e).1 in or-none (g up) _ (n up w) (ancestor-needs up w)

    -- nor does a component before it
    pub step-needs : (c : Component) → Needs (step c g)
    unfolding step
    step-needs star q e = n q e
    step-needs (class c) q e = and_right _ (g q) (n q e)
    step-needs (element c) q e = and_right _ (g q) (n q e)
    step-needs (hash h) q e = and_right _ (g q) (n q e)
    step-needs child q e = parent-needs q e
    step-needs descendant q e = ancestor-needs q e
    step-needs (nth a b) q e = and_right _ (g q) (n q e)
    step-needs (attribute c) q e = and_right _ (g q) (n q e)
    step-needs (attribute_equal c v) q e = and_right _ (g q) (n q e)

-- where components match no ancestor, no more do those that ask for one that they match
pub none_found : (nodes attributes text : List ℕ) (cs ds : List Component) (row : ℕ) → Rooted nodes row → Needs (matches cs) (matches ds)
    → topmost nodes attributes text cs row ≡ row → topmost nodes attributes text ds row ≡ row
unfolding topmost
none_found nodes attributes text cs ds row r n e =
    let none : on_ancestors (matches cs) (path_of nodes attributes text row) ≡ false =
    last-decides nodes attributes text cs row r row (omega arith) row same ∙ ap (λ (t : ℕ). ltb t row) e ∙ le-ltb row row (omega arith) in
    ⊎_elim (λ h. h)
    (λ h. never (sym (ancestor-needs (matches cs) (matches ds) n (path_of nodes attributes text row) none) ∙ last-decides nodes attributes text ds row r row (omega arith) row same ∙ lt-ltb _ row h))
    (last-before nodes attributes text ds row r row)

-- ---- the topmost row of a selector
-- a test beside what is left
test-decides : (top : ℕ) (a : Bool) (x : Climbed) (m : Bool) → below_top top x ≡ m → below_top top (pick (and a true) x (Ended FailsLocally)) ≡ and a m
unfolding below_top pick and
test-decides top true x m e = e
test-decides top false x m e = refl

module _ (nodes attributes text : List ℕ) (row : ℕ) (r : Rooted nodes row) where
  -- a child combinator has the parent's answer
  child-decides : (cs : List Component) (top at : ℕ) → Rooted nodes at
      → (¬ (at ≡ 0) → below_top top (climb_of nodes attributes text cs (node_at nodes at).parent) ≡ matches cs (path_of nodes attributes text (node_at nodes at).parent))
      → below_top top (pick (is at 0) (Ended FailsCompletely) (climb_of nodes attributes text cs (node_at nodes at).parent)) ≡ on_parent (matches cs) (path_of nodes attributes text at)
  unfolding below_top on_parent pick is
  child-decides cs top at (document d) up = rw (top-path nodes attributes text 0 (document d) refl) refl
  child-decides cs top at (below k l n q) up =
      let z : ¬ (at ≡ 0) = λ e. absurd (omega arith) in
      rw (is-no at 0 z, other_path nodes attributes text at (below k l n q) z) (up z)

  -- decides its last descendant combinator wherever it is reached from the row or an ancestor of it
  top-decides : (cs : List Component) (at : ℕ) → Line nodes row at
      → below_top (selector_top nodes attributes text row cs) (climb_of nodes attributes text cs at) ≡ matches cs (path_of nodes attributes text at)
  unfolding below_top climb_of selector_top topmost by_combinator matches step pick
  top-decides [] at w = refl
  top-decides (star ∷ cs) at w = top-decides cs at w
  top-decides (class c ∷ cs) at w = test-decides _ _ _ _ (top-decides cs at w)
  top-decides (element c ∷ cs) at w = test-decides _ _ _ _ (top-decides cs at w)
  top-decides (hash h ∷ cs) at w = test-decides _ _ _ _ (top-decides cs at w)
  top-decides (child ∷ cs) at w = child-decides cs _ at (line-rooted nodes row at r w) (λ z. top-decides cs _ (line-up nodes w z _ refl))
  top-decides (descendant ∷ cs) at w = sym (last-decides nodes attributes text cs row r row (omega arith) at w)
  top-decides (nth a b ∷ cs) at w = test-decides _ _ _ _ (top-decides cs at w)
  top-decides (attribute c ∷ cs) at w = test-decides _ _ _ _ (top-decides cs at w)
  top-decides (attribute_equal c v ∷ cs) at w = test-decides _ _ _ _ (top-decides cs at w)

  -- so the topmost row of a selector is the right number for the row
  pub right-top : (cs : List Component) → RightTop nodes attributes text cs row (selector_top nodes attributes text row cs)
  right-top cs = record { decides = top-decides cs }

  -- and is no number behind the row
  pub top_within : (cs : List Component) → selector_top nodes attributes text row cs ≤ row
  unfolding selector_top
  top_within [] = omega arith
  top_within (c ∷ cs) = by-combinator (λ (b : Bool) (t : ℕ). t ≤ row) c {x = true} {y = true} {z = true} (top_within cs) (topmost-within nodes attributes text cs row r) (top_within cs)

-- what is right for a row is right for its ancestors
pub right-above : (nodes attributes text : List ℕ) (cs : List Component) (row top at : ℕ) → RightTop nodes attributes text cs row top → Line nodes row at → RightTop nodes attributes text cs at top
right-above nodes attributes text cs row top at g w = record { decides = λ q v. g.decides q (line_on nodes w v) }
