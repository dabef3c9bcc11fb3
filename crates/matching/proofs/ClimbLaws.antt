-- The loop of `match_locally`, the ancestors that a descendant combinator tries, and the returns of `match_recursively`.
use Prim.Native.Nat.{ℕ, zero, suc, ◌+◌, ◌-◌, ◌≤◌, ◌<◌}
use mathlib.Core.Bool.{Bool, true, false}
use mathlib.Core.List.{List, [], ◌∷◌}
use mathlib.Core.Path.{◌≡◌, refl, sym, ap, subst, ◌∙◌}
use native.Mathlib.Omega.{arith}
use Rattle.std.specs.Prelude.{Option, Some, None, MatchOption}
use Rattle.combinators.specs.Choice.{pick, is}
use Rattle.combinators.specs.Word.{same_text}
use Rattle.combinators.proofs.Rules.{is-no, pick-false}
use Rattle.syntax.specs.RuleLayout.{star_kind, element_kind, child_kind, descendant_kind, component_kind_at}
use Rattle.page.specs.Ancestors.{ancestors_from, ancestors_of, line_of}
use Rattle.page.specs.PathOf.{path_of}
use Rattle.page.specs.Rows.{node_at, name_of}
use Rattle.page.proofs.Ancestry.{below-ancestors}
use Rattle.matching.specs.Matches.{matches}
use Rattle.matching.specs.Rows.{component_number, component_at, components_at, first_text, SimpleAt, Rooted}
use Rattle.matching.specs.Rows.Rooted.{document, below}
use Rattle.matching.specs.Recursion.{or_else, result_on_parent, result_on_ancestors, result_step, match_recursively}
use Rattle.matching.specs.Climb.{NameAt, AtDescendant, NextAncestor, NoneLeft, reaches, climb_of, first_reaching}
use Rattle.matching.specs.declared.matcher.SelectorMatch.{SelectorMatch}
use Rattle.matching.specs.declared.matcher.SelectorMatch.TheVariants.{Matches, FailsLocally, FailsCompletely}
use Rattle.matching.specs.declared.matcher.Climbed.{Climbed}
use Rattle.matching.specs.declared.matcher.Climbed.TheVariants.{Ended, Descendant}
use Rattle.matching.proofs.CallLaws.{by-combinator}
use Rattle.matching.proofs.ComponentLaws.{components-none, components-more}
use Rattle.matching.proofs.MatchLaws as one
use Rattle.matching.proofs.PassLaws.{name-passes}
use Rattle.matching.proofs.PathLaws.{top-path, other_path, parent-rooted, parent-before}

-- a second result is not asked for where the first does not fail locally
or-else-first : (s t : SelectorMatch) → ¬ (s ≡ FailsLocally) → or_else s t ≡ s
unfolding or_else
or-else-first Matches t d = refl
or-else-first FailsLocally t d = absurd (d refl)
or-else-first FailsCompletely t d = refl

module _ (store components nodes attributes text : List ℕ) where
  -- the result of the first l components on the path of a row
  abbrev Result : ℕ → ℕ → SelectorMatch
  Result l r = match_recursively (components_at store components l) (path_of nodes attributes text r)

  -- their result on the ancestors of a row
  abbrev Above : ℕ → ℕ → SelectorMatch
  Above l r = result_on_ancestors (match_recursively (components_at store components l)) (path_of nodes attributes text r)

  -- where the first l components lead from a row
  abbrev Climb : ℕ → ℕ → Climbed
  Climb = one.Climb store components nodes attributes text

  -- ---- `match_locally`: n components on a row above lead where all lead from the row
  module _ (left row : ℕ) where
    pub record Handed (n at : ℕ) : Type 0 where
      pub rooted : Rooted nodes at
      pub same : Climb left row ≡ Climb n at

    module _ (n at : ℕ) (g : Handed n at) where
      -- with no component left the climb ends, and the selector matches
      pub none_left : n ≡ 0 → Ended Matches ≡ Climb left row
      none_left e = one.match-end store components nodes attributes text n at e ∙ sym g.same

      module _ (some : 0 < n) (k : ℕ) (ek : k ≡ component_number components (n - 1) component_kind_at) where
        -- where some component is left, their count is not 0
        no_zero : ¬ (n ≡ 0)
        no_zero z = absurd (omega arith)

        -- at a descendant combinator the climb stops, with what is left of the components
        pub at-descendant : k ≡ descendant_kind → Descendant (n - 1) at ≡ Climb left row
        at-descendant e = one.descendant-opened store components nodes attributes text n at no_zero k ek e ∙ sym g.same

        module _ (e : k ≡ child_kind) where
          -- a child combinator on the document
          pub child-ends : at ≡ 0 → Ended FailsCompletely ≡ Climb left row
          child-ends z = one.child-of-document store components nodes attributes text n at no_zero k ek e z ∙ sym g.same

          -- a child combinator on an element hands the components before it to the parent
          pub hand-up : ¬ (at ≡ 0) → (p : ℕ) → p ≡ (node_at nodes at).parent → Handed (n - 1) p
          hand-up z p ep =
              record {
                rooted = parent-rooted nodes at g.rooted z p ep;
                same = g.same ∙ one.child-of-parent store components nodes attributes text n at no_zero k ek e z p ep;
              }

        module _ (no-child : ¬ (k ≡ child_kind)) (no-descendant : ¬ (k ≡ descendant_kind)) where
          module _ (b : Bool) (eb : b ≡ matches (component_at store components (n - 1) ∷ []) (path_of nodes attributes text at)) where
            -- a test that the row passes hands the components before it to the row itself
            pub hand_on : b ≡ true → Handed (n - 1) at
            hand_on h = record { rooted = g.rooted; same = g.same ∙ one.match-passes store components nodes attributes text n at no_zero k ek no-child no-descendant b eb h }

            -- a test that fails ends the climb: the selector fails here
            pub test-ends : b ≡ false → Ended FailsLocally ≡ Climb left row
            test-ends h = sym (g.same ∙ one.match-fails store components nodes attributes text n at no_zero k ek no-child no-descendant b eb h)

  -- ---- what a climb says: its end is the result s; a descendant combinator has it of the ancestors of the row that it is reached on
  unfoldable Tells : ℕ → ℕ → Climbed → SelectorMatch → Type 0
  Tells left row (Ended r) s = r ≡ s
  Tells left row (Descendant n at) s = (n < left) × (at ≤ row) × Rooted nodes at × (s ≡ Above n at)

  -- the same with one component more, on a row below
  tells-below : (left row row' : ℕ) → row ≤ row' → (x : Climbed) (s : SelectorMatch) → Tells left row x s → Tells (suc left) row' x s
  unfolding Tells
  tells-below left row row' h (Ended r) s t = t
  tells-below left row row' h (Descendant n at) s t = (omega (arith, t.0), omega (arith, t.1), t.2, t.3)

  module _ (n : ℕ) (tells : (row : ℕ) → Rooted nodes row → Tells n row (Climb n row) (Result n row)) where
    -- with a child combinator in front, a climb goes on from the parent and says the result there; from the document it fails
    child-tells : (row : ℕ) → Rooted nodes row
        → Tells (suc n) row (pick (is row 0) (Ended FailsCompletely) (Climb n (node_at nodes row).parent)) (result_on_parent (match_recursively (components_at store components n)) (path_of nodes attributes text row))
    unfolding Tells result_on_parent pick is
    child-tells row (document d) = rw (top-path nodes attributes text 0 (document d) refl) refl
    child-tells row (below k l m r) =
        let z : ¬ (row ≡ 0) = λ e. absurd (omega arith) in
        let p = (node_at nodes row).parent in
        rw (is-no row 0 z, other_path nodes attributes text row (below k l m r) z) (tells-below n p row (omega arith) (Climb n p) (Result n p) (tells p r))

    -- a test, which is passed or not
    test-tells : (row : ℕ) → Rooted nodes row → (b : Bool) → Tells (suc n) row (pick b (Climb n row) (Ended FailsLocally)) (pick b (Result n row) FailsLocally)
    unfolding Tells pick
    test-tells row r true = tells-below n row row (omega arith) (Climb n row) (Result n row) (tells row r)
    test-tells row r false = refl

  -- what a climb leads to is the result of all components
  climb-tells : (left row : ℕ) → Rooted nodes row → Tells left row (Climb left row) (Result left row)
  unfolding Tells climb_of match_recursively result_step
  climb-tells zero row r = rw (components-none store components) refl
  climb-tells (suc n) row r =
      let c = component_at store components n in
      rw (one.climb-opened store components nodes attributes text n row, components-more store components n)
      (by-combinator (Tells (suc n) row) c (child-tells n (climb-tells n) row r) (omega arith, omega arith, r, refl) (test-tells n (climb-tells n) row r (matches (c ∷ []) (path_of nodes attributes text row))))

  module _ (left row : ℕ) (r : Rooted nodes row) (t : Climbed) (h : t ≡ Climb left row) where
    -- tests and child combinators end
    pub climb-ends : {s : SelectorMatch} → t ≡ Ended s → s ≡ Result left row
    unfolding Tells
    climb-ends {s} e = subst (λ (x : Climbed). Tells left row x (Result left row)) (sym h ∙ e) (climb-tells left row r)

    -- or lead to a descendant combinator
    pub climb-descends : {n at : ℕ} → t ≡ Descendant n at → AtDescendant store components nodes attributes text left row n at
    unfolding Tells
    climb-descends {n} {at} e =
        let w : Tells left row (Descendant n at) (Result left row) = subst (λ (x : Climbed). Tells left row x (Result left row)) (sym h ∙ e) (climb-tells left row r) in
        record { fewer = w.0; not-below = w.1; rooted = w.2; same = w.3 }

  -- ---- the next ancestor that is tried
  -- an element of another name fails locally where the last component asks for a name, and the document whatever it is called
  pub other_name : (n : ℕ) → NameAt components n → (at : ℕ) → Rooted nodes at → (b : Bool) → b ≡ same_text (name_of nodes text at) (first_text store components (n - 1)) → b ≡ false
      → Climb n at ≡ Ended FailsLocally
  other_name n a at r b eb h = go at r b eb h
    where
      kind-is : component_number components (n - 1) component_kind_at ≡ element_kind
      kind-is = a.element

      no-child : ¬ (component_number components (n - 1) component_kind_at ≡ child_kind)
      no-child y = absurd (omega (arith, kind-is))

      no-descendant : ¬ (component_number components (n - 1) component_kind_at ≡ descendant_kind)
      no-descendant y = absurd (omega (arith, kind-is))

      no-star : ¬ (component_number components (n - 1) component_kind_at ≡ star_kind)
      no-star y = absurd (omega (arith, kind-is))

      no_zero : ¬ (n ≡ 0)
      no_zero y = absurd (omega (arith, a.some))

      simple : SimpleAt components (n - 1)
      simple = record { no-child = no-child; no-descendant = no-descendant }

      go : (at : ℕ) → Rooted nodes at → (b : Bool) → b ≡ same_text (name_of nodes text at) (first_text store components (n - 1)) → b ≡ false → Climb n at ≡ Ended FailsLocally
      go at (document d) b eb h =
          one.match-fails store components nodes attributes text n 0 no_zero _ refl no-child no-descendant false
          (one.document-passes store components nodes attributes text (n - 1) 0 _ refl simple (document d) no-star refl) refl
      go at (below k l m r) b eb h =
          let z : ¬ (at ≡ 0) = λ y. absurd (omega arith) in
          one.match-fails store components nodes attributes text n at no_zero _ refl no-child no-descendant b
          (one.element-passes store components nodes attributes text (n - 1) at _ refl simple (below k l m r) no-star z b
          (name-passes store components nodes attributes text (n - 1) at _ refl kind-is (first_text store components (n - 1)) refl b eb)) h

  module _ (n row : ℕ) where
    -- the first of some rows from which the components reach a descendant combinator
    abbrev FirstOf : List ℕ → ℕ
    FirstOf rows = first_reaching nodes attributes text (components_at store components n) rows

    -- where the search stands: the ancestors of the row up to this one fail locally, so that those above it have the result of all
    pub record Seeking (at : ℕ) : Type 0 where
      pub rooted : Rooted nodes at
      pub not-below : at ≤ row
      pub same : Above n row ≡ Above n at
      pub passed : FirstOf (ancestors_of nodes row) ≡ FirstOf (ancestors_of nodes at)

    -- none is passed over yet
    pub seek-begin : Rooted nodes row → Seeking row
    seek-begin r = record { rooted = r; not-below = omega arith; same = refl; passed = refl }

    module _ (at : ℕ) (s : Seeking at) where
      -- the document has no ancestor: none is left
      pub seek-end : at ≡ 0 → NoneLeft store components nodes attributes text n row
      unfolding result_on_ancestors first_reaching ancestors_of ancestors_from
      seek-end z =
          record {
            fails = s.same ∙ ap (result_on_ancestors (match_recursively (components_at store components n))) (top-path nodes attributes text at s.rooted z);
            unreached = s.passed ∙ ap (λ (q : ℕ). FirstOf (ancestors_of nodes q)) z;
          }

      module _ (z : ¬ (at ≡ 0)) (p : ℕ) (ep : p ≡ (node_at nodes at).parent) where
        -- the parent may be tried next
        pub seek-found : NextAncestor store components nodes attributes text n row p
        unfolding result_on_ancestors
        seek-found =
            record {
              rooted = parent-rooted nodes at s.rooted z p ep;
              higher = omega (arith, s.not-below, parent-before nodes at s.rooted z p ep);
              same =
                  s.same ∙ ap (result_on_ancestors (match_recursively (components_at store components n))) (other_path nodes attributes text at s.rooted z)
                  ∙ ap (λ (q : ℕ). or_else (Result n q) (Above n q)) (sym ep);
              passed = s.passed ∙ ap FirstOf (below-ancestors nodes at (parent-before nodes at s.rooted z _ refl)) ∙ ap (λ (q : ℕ). FirstOf (line_of nodes q)) (sym ep);
            }

        -- where it fails locally it is passed over
        pub seek-on : Climb n p ≡ Ended FailsLocally → Seeking p
        unfolding or_else reaches first_reaching
        seek-on f =
            record {
              rooted = seek-found.rooted;
              not-below = omega (arith, seek-found.higher);
              same = seek-found.same ∙ ap (λ (x : SelectorMatch). or_else x (Above n p)) (sym (climb-ends n p seek-found.rooted _ refl f));
              passed = seek-found.passed ∙ sym (pick-false _ _ _ (reaches (Climb n p)) (ap reaches f) refl);
            }

    -- without a name that is asked for the parent is tried next
    pub next-parent : Rooted nodes row → (o : Option ℕ) → MatchOption o (row ≡ 0) (λ p. (p ≡ (node_at nodes row).parent) × ¬ (row ≡ 0))
        → MatchOption o (NoneLeft store components nodes attributes text n row) (NextAncestor store components nodes attributes text n row)
    next-parent r (Some p) m = seek-found row (seek-begin r) m.1 p m.0
    next-parent r None m = seek-end row (seek-begin r) m

  -- fewer components are left at a descendant combinator, on no row below
  pub fewer-left : (left row n at : ℕ) → AtDescendant store components nodes attributes text left row n at → (t : ℕ) → left + row ≡ t → n + at < t
  fewer-left left row n at d t e = omega (arith, d.fewer, d.not-below)

  -- ---- `match_on_ancestors`: the ancestors of a row above have the result of all ancestors
  module _ (n row : ℕ) where
    pub record Trying (at : ℕ) : Type 0 where
      pub rooted : Rooted nodes at
      pub not-below : at ≤ row
      pub same : Above n row ≡ Above n at

    module _ (at : ℕ) (d : Trying at) where
      module _ (q : ℕ) (next : NextAncestor store components nodes attributes text n at q) where
        module _ (r : SelectorMatch) (er : r ≡ Result n q) where
          -- the ancestor's result decides, or else that of its own ancestors
          tried : Above n row ≡ or_else r (Above n q)
          tried = d.same ∙ next.same ∙ ap (λ (x : SelectorMatch). or_else x (Above n q)) (sym er)

          -- an ancestor that does not fail locally decides
          pub ancestor-decides : ¬ (r ≡ FailsLocally) → r ≡ Above n row
          ancestor-decides d = sym (tried ∙ or-else-first r (Above n q) d)

          -- so one that matches what is left does
          pub ancestor-matches : r ≡ Matches → Matches ≡ Above n row
          ancestor-matches e = sym e ∙ ancestor-decides (λ z. let two : ◌≡◌ {A = ℕ} 0 1 = cc in omega arith)

          -- and one that fails completely, as do all rows above
          pub ancestor-fails : r ≡ FailsCompletely → FailsCompletely ≡ Above n row
          ancestor-fails e = sym e ∙ ancestor-decides (λ z. let two : ◌≡◌ {A = ℕ} 0 1 = cc in omega arith)

          -- it fails locally, and its own ancestors are tried
          pub ancestor-passed-over : r ≡ FailsLocally → Trying q
          unfolding or_else
          ancestor-passed-over e =
              record {
                rooted = next.rooted;
                not-below = omega (arith, d.not-below, next.higher);
                same = tried ∙ ap (λ (x : SelectorMatch). or_else x (Above n q)) e;
              }

-- ---- the loop of `named_ancestor`: names alone are asked, so the rows below are passed over whatever the attributes are
pub record Searching (store components nodes text : List ℕ) (n row at : ℕ) : Type 0 where
  pub rooted : Rooted nodes at
  pub seeking : (attributes : List ℕ) → Seeking store components nodes attributes text n row at

module _ (store components nodes text : List ℕ) (n row : ℕ) where
  -- none is passed over yet
  pub search-begin : Rooted nodes row → Searching store components nodes text n row row
  search-begin r = record { rooted = r; seeking = λ attributes. seek-begin store components nodes attributes text n row r }

  module _ (at : ℕ) (s : Searching store components nodes text n row at) where
    -- at the document none is left
    pub search-end : at ≡ 0 → (attributes : List ℕ) → NoneLeft store components nodes attributes text n row
    search-end z attributes = seek-end store components nodes attributes text n row at (s.seeking attributes) z

    module _ (z : ¬ (at ≡ 0)) (p : ℕ) (ep : p ≡ (node_at nodes at).parent) where
      -- the parent may be tried next
      pub search-found : (attributes : List ℕ) → NextAncestor store components nodes attributes text n row p
      search-found attributes = seek-found store components nodes attributes text n row at (s.seeking attributes) z p ep

      -- an element of another name is passed over
      pub search-on : NameAt components n → (name : List ℕ) → name ≡ first_text store components (n - 1) → (b : Bool) → b ≡ same_text (name_of nodes text p) name → b ≡ false
          → Searching store components nodes text n row p
      search-on a name en b eb h =
          let r : Rooted nodes p = parent-rooted nodes at s.rooted z p ep in
          record {
            rooted = r;
            seeking =
                λ attributes. seek-on store components nodes attributes text n row at (s.seeking attributes) z p ep
                (other_name store components nodes attributes text n a p r b (eb ∙ ap (same_text (name_of nodes text p)) en) h);
          }
