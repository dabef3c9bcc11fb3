-- Returns and turns of the functions that match on all rows of a path.
use Rattle.std.specs.Prelude.{Option, Some, None, MatchOption}
use Prim.Native.Nat.{ℕ, zero, suc, ◌+◌, ◌≤◌, ◌<◌}
use mathlib.Core.Bool.{Bool, true, false}
use mathlib.Core.List.{List, ◌∷◌}
use mathlib.Core.Logic.{⊎_elim}
use mathlib.Core.Path.{◌≡◌, refl, sym, ap, ◌∙◌}
use native.Mathlib.Numerals.{add-one}
use native.Mathlib.Omega.{arith}
use Rattle.combinators.specs.Choice.{pick}
use Rattle.combinators.proofs.Rules.{pick_true, pick-false, lt-or-ge}
use Rattle.syntax.specs.RuleLayout.{descendant_kind, component_kind_at}
use Rattle.syntax.specs.Selector.{Component, descendant}
use Rattle.page.specs.Ancestors.{ancestors_of}
use Rattle.page.specs.PathOf.{path_of}
use Rattle.page.specs.Rows.{node_at}
use Rattle.matching.specs.Matches.{step, matches}
use Rattle.matching.specs.Rows.{component_number, component_at, components_at, Rooted}
use Rattle.matching.specs.Recursion.{by_combinator}
use Rattle.matching.specs.Climb.{climb_of}
use Rattle.matching.specs.Topmost.{below_top, last_matched, topmost, selector_top, RightTop}
use Rattle.matching.specs.Topmost.Line.{same}
use Rattle.matching.specs.declared.matcher.SelectorMatch.{SelectorMatch}
use Rattle.matching.specs.declared.matcher.SelectorMatch.TheVariants.{Matches, FailsLocally, FailsCompletely}
use Rattle.matching.specs.declared.matcher.Climbed.{Climbed}
use Rattle.matching.specs.declared.matcher.Climbed.TheVariants.{Ended}
use Rattle.matching.proofs.CallLaws.{by-combinator}
use Rattle.matching.proofs.ComponentLaws.{components-none, components-more}
use Rattle.matching.proofs.PassLaws.{from-descendant, second-passed}
use Rattle.matching.proofs.PathLaws.{parent-rooted, parent-before}
use Rattle.matching.proofs.TopmostLaws.{line-up, last-document, last-above, Needs, step-needs, none_found, right-top, top_within, right-above}

-- ---- the returns of `matches_below`: where the climb leads, the number decides
-- what the number says of where the climb leads is whether the components match the path
pub below_top_lem : (nodes attributes text : List ℕ) (cs : List Component) (row top : ℕ) → RightTop nodes attributes text cs row top
    → (t : Climbed) → t ≡ climb_of nodes attributes text cs row → (x : Climbed) → t ≡ x → below_top top x ≡ matches cs (path_of nodes attributes text row)
below_top_lem nodes attributes text cs row top g t e x f = ap (below_top top) (sym f ∙ e) ∙ g.decides row same

-- it ended, with a result that is known
pub below-ended : (nodes attributes text : List ℕ) (cs : List Component) (row top : ℕ) → RightTop nodes attributes text cs row top
    → (t : Climbed) → t ≡ climb_of nodes attributes text cs row → (r s : SelectorMatch) → t ≡ Ended r → r ≡ s → below_top top (Ended s) ≡ matches cs (path_of nodes attributes text row)
below-ended nodes attributes text cs row top g t e r s f h = below_top_lem nodes attributes text cs row top g t e (Ended s) (f ∙ ap Ended h)

-- with another result than `Matches` the components do not match
pub below-fails : (nodes attributes text : List ℕ) (cs : List Component) (row top : ℕ) → RightTop nodes attributes text cs row top
    → (t : Climbed) → t ≡ climb_of nodes attributes text cs row → (r : SelectorMatch) → t ≡ Ended r → ¬ (r ≡ Matches) → false ≡ matches cs (path_of nodes attributes text row)
unfolding below_top
below-fails nodes attributes text cs row top g t e Matches f d = absurd (d refl)
below-fails nodes attributes text cs row top g t e FailsLocally f d = below-ended nodes attributes text cs row top g t e _ _ f refl
below-fails nodes attributes text cs row top g t e FailsCompletely f d = below-ended nodes attributes text cs row top g t e _ _ f refl

-- what was found of an ancestor, where the row itself stands for none
abbrev pub found_by : ℕ → Option ℕ → ℕ
found_by row None = row
found_by row (Some found) = found

-- the row that was found is told, or that there is none
pub seek-told : (row : ℕ) (o : Option ℕ) (t : ℕ) → found_by row o ≡ t → MatchOption o (t ≡ row) (λ found. found ≡ t)
seek-told row None t e = sym e
seek-told row (Some found) t e = e

module _ (store components nodes attributes text : List ℕ) where
  -- ---- turns of `topmost_ancestor`: what is found from a row on is what is found from the first on
  module _ (n top row : ℕ) where
    abbrev before : List Component
    before = components_at store components n

    pub record Seeking (found at : ℕ) : Type 0 where
      pub rooted : Rooted nodes at
      pub right : RightTop nodes attributes text before at top
      pub finds : last_matched nodes attributes text before (ancestors_of nodes at) found ≡ topmost nodes attributes text before row

    -- before the parent is asked nothing is found, and the whole search is left
    pub seek-begin : Rooted nodes row → RightTop nodes attributes text before row top → Seeking row row
    unfolding topmost
    seek-begin r g = record { rooted = r; right = g; finds = refl }

    module _ (found at : ℕ) (s : Seeking found at) where
      -- at the document no ancestor is left, and what is found is the topmost
      pub seek-end : at ≡ 0 → found ≡ topmost nodes attributes text before row
      seek-end e =
          sym (last-document nodes attributes text before found) ∙ ap (λ (r : ℕ). last_matched nodes attributes text before (ancestors_of nodes r) found) (sym e) ∙ s.finds

      module _ (z : ¬ (at ≡ 0)) (p : ℕ) (ep : p ≡ (node_at nodes at).parent) where
        -- the parent, for which the number is right too
        pub up-rooted : Rooted nodes p
        up-rooted = parent-rooted nodes at s.rooted z p ep

        -- the number that is right for a row is right for its parent
        pub up_right : RightTop nodes attributes text before p top
        up_right = right-above nodes attributes text before at top p s.right (line-up nodes same z p ep)

        module _ (b : Bool) (eb : b ≡ matches before (path_of nodes attributes text p)) where
          -- with the parent as what is found where its path matches, the search from the parent on finds what the whole search finds
          asked : last_matched nodes attributes text before (ancestors_of nodes p) (pick b p found) ≡ topmost nodes attributes text before row
          asked =
              rw (eb, ep) (sym (last-above nodes attributes text before at (parent-before nodes at s.rooted z _ refl) found)) ∙ s.finds

          -- where the components match the parent's path, the parent is what is found so far
          pub seek_found : b ≡ true → Seeking p p
          seek_found h = record { rooted = up-rooted; right = up_right; finds = ap (λ (f : ℕ). last_matched nodes attributes text before (ancestors_of nodes p) f) (pick_true _ _ _ b h refl) ∙ asked }

          -- where they do not match it, what is found stays, and the search goes on from the parent
          pub seek-on : b ≡ false → Seeking found p
          seek-on h = record { rooted = up-rooted; right = up_right; finds = ap (λ (f : ℕ). last_matched nodes attributes text before (ancestors_of nodes p) f) (pick-false _ _ _ b h refl) ∙ asked }

  -- ---- turns of `selector_top`: the number is that of the components so far
  module _ (left row : ℕ) where
    pub record Topping (top i : ℕ) : Type 0 where
      pub within : i ≤ left
      pub is-top : top ≡ selector_top nodes attributes text row (components_at store components i)

    -- before the first component the number is the row itself
    pub top-begin : Topping row 0
    unfolding selector_top
    top-begin = record { within = omega arith; is-top = rw (components-none store components) refl }

    module _ (top i : ℕ) (g : Topping top i) where
      -- with all components seen, the number is that of the selector, and is the row or before it
      pub top-end : Rooted nodes row → left ≤ i → (top ≡ selector_top nodes attributes text row (components_at store components left)) × (top ≤ row)
      top-end r h =
          let e : i ≡ left = omega (arith, g.within) in
          (g.is-top ∙ ap (λ (k : ℕ). selector_top nodes attributes text row (components_at store components k)) e, rw g.is-top (top_within nodes attributes text row r (components_at store components i)))

      -- what is known for a descendant combinator
      pub so_far : Rooted nodes row → RightTop nodes attributes text (components_at store components i) row top
      so_far r = rw g.is-top (right-top nodes attributes text row r (components_at store components i))

      module _ (h : i < left) (k : ℕ) (ek : k ≡ component_number components i component_kind_at) where
        -- one component more: a descendant combinator takes the topmost ancestor, any other keeps the number so far
        one_more : selector_top nodes attributes text row (components_at store components (i + 1))
            ≡ by_combinator (component_at store components i) (selector_top nodes attributes text row (components_at store components i)) (topmost nodes attributes text (components_at store components i) row) (selector_top nodes attributes text row (components_at store components i))
        unfolding selector_top
        one_more = rw (add-one i, components-more store components i) refl

        -- behind a descendant combinator the number is the topmost ancestor that the components so far match
        pub top-descendant : k ≡ descendant_kind → (t : ℕ) → t ≡ topmost nodes attributes text (components_at store components i) row → Topping t (i + 1)
        unfolding component_at by_combinator
        top-descendant e t et = record { within = omega arith; is-top = et ∙ sym (one_more ∙ rw (from-descendant store _ _ _ _ (sym ek ∙ e)) refl) }

        -- any other component leaves the number as it is
        pub top-other : ¬ (k ≡ descendant_kind) → Topping top (i + 1)
        unfolding component_at
        top-other d = record { within = omega arith; is-top = g.is-top ∙ sym (one_more ∙ second-passed store _ _ _ _ (λ y. d (ek ∙ y)) _ _) }

  -- where nothing is found for a descendant combinator, nothing is for those behind it
  module _ (row : ℕ) (r : Rooted nodes row) (i : ℕ) (e : component_number components i component_kind_at ≡ descendant_kind)
      (none : topmost nodes attributes text (components_at store components i) row ≡ row) where
    -- the first i + 1 components are a descendant combinator in front of the first i
    combinator : components_at store components (suc i) ≡ descendant ∷ components_at store components i
    unfolding component_at
    combinator = components-more store components i ∙ ap (λ (c : Component). c ∷ components_at store components i) (from-descendant store _ _ _ _ e)

    -- they ask for an ancestor that what stands before it matches
    asks : (n : ℕ) → i < n → Needs (matches (components_at store components i)) (matches (components_at store components n))
    unfolding matches step
    asks zero h = absurd (omega arith)
    asks (suc n) h =
        ⊎_elim
        (λ (l : i < n). rw (components-more store components n) (step-needs (matches (components_at store components i)) (matches (components_at store components n)) (asks n l) (component_at store components n)))
        (λ (l : n ≤ i). let q : n ≡ i = omega arith in rw (q, combinator) (λ p z. z))
        (lt-or-ge i n)

    -- for any more than the first i components the number is the row itself
    pub none-behind : (n : ℕ) → i < n → selector_top nodes attributes text row (components_at store components n) ≡ row
    unfolding selector_top by_combinator
    none-behind zero h = absurd (omega arith)
    none-behind (suc n) h =
        ⊎_elim
        (λ (l : i < n).
        let cs = components_at store components n in
        let found = none_found nodes attributes text (components_at store components i) cs row r (asks n l) none in
        rw (components-more store components n)
        (by-combinator (λ (a b : ℕ). a ≡ row) (component_at store components n) {a = row} {b = row} {e = row} (none-behind n l) found (none-behind n l)))
        (λ (l : n ≤ i). let q : n ≡ i = omega arith in rw (q, combinator) none)
        (lt-or-ge i n)

  -- the return of `selector_top` there
  pub top-none : (left row : ℕ) → Rooted nodes row → (i : ℕ) → i < left → (k : ℕ) → k ≡ component_number components i component_kind_at → k ≡ descendant_kind
      → topmost nodes attributes text (components_at store components i) row ≡ row
      → (row ≡ selector_top nodes attributes text row (components_at store components left)) × (row ≤ row)
  top-none left row r i h k ek e z = (sym (none-behind row r i (sym ek ∙ e) z left h), omega arith)
