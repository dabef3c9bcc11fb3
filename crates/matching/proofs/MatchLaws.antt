-- The returns of `passes` and the steps of `match_locally`: each step of the code is one of the definition.
use Prim.Native.Nat.{ℕ, suc, ◌-◌}
use mathlib.Core.Bool.{Bool, true, false}
use mathlib.Core.List.{List, [], ◌∷◌}
use mathlib.Core.Path.{◌≡◌, refl, sym, ap, ◌∙◌}
use native.Mathlib.Omega.{arith}
use Rattle.combinators.specs.Choice.{pick, is}
use Rattle.combinators.proofs.Rules.{pick_true, pick-false, is-yes, is-no}
use Rattle.syntax.specs.RuleLayout.{star_kind, child_kind, descendant_kind, component_kind_at}
use Rattle.syntax.specs.Selector.{Component}
use Rattle.page.specs.PathOf.{element_at, path_of}
use Rattle.page.specs.Rows.{node_at}
use Rattle.matching.specs.Matches.{matches}
use Rattle.matching.specs.Rows.{component_number, component_at, components_at, first_text, second_text, SimpleAt, Rooted, element_passes}
use Rattle.matching.specs.Recursion.{by_combinator}
use Rattle.matching.specs.Climb.{climb_of}
use Rattle.matching.specs.declared.matcher.SelectorMatch.TheVariants.{Matches, FailsLocally, FailsCompletely}
use Rattle.matching.specs.declared.matcher.Climbed.{Climbed}
use Rattle.matching.specs.declared.matcher.Climbed.TheVariants.{Ended, Descendant}
use Rattle.matching.proofs.ComponentLaws.{components-none, components-more, components-length}
use Rattle.matching.proofs.PassLaws.{from-child, from-descendant, from-star, document-fails, third-chosen, asked-of-element}
use Rattle.matching.proofs.PathLaws.{top-path, other_path}

-- ---- `passes`: whether a simple component matches the path of a row
module _ (store components nodes attributes text : List ℕ) (i row k : ℕ) (ek : k ≡ component_number components i component_kind_at) where
  -- star passes on every path
  pub star-passes : k ≡ star_kind → true ≡ matches (component_at store components i ∷ []) (path_of nodes attributes text row)
  unfolding component_at
  star-passes e = from-star store _ _ _ _ (path_of nodes attributes text row) (sym ek ∙ e)

  module _ (simple : SimpleAt components i) (rooted : Rooted nodes row) (no-star : ¬ (k ≡ star_kind)) where
    -- of an element a component asks what the element has
    pub element-passes : ¬ (row ≡ 0) → (r : Bool) → r ≡ element_passes store components i (element_at nodes attributes text row)
        → r ≡ matches (component_at store components i ∷ []) (path_of nodes attributes text row)
    unfolding component_at element_passes first_text second_text
    element-passes z r p =
        rw (other_path nodes attributes text row rooted z)
        (p ∙ asked-of-element store _ _ _ _ simple.no-child simple.no-descendant (λ y. no-star (ek ∙ y)) (element_at nodes attributes text row) _)

    -- the document passes nothing but star
    pub document-passes : row ≡ 0 → false ≡ matches (component_at store components i ∷ []) (path_of nodes attributes text row)
    unfolding component_at
    document-passes z = rw (top-path nodes attributes text row rooted z) (document-fails store _ _ _ _ (λ y. no-star (ek ∙ y)))

-- ---- `match_locally`: where components lead from a row, one by one
module _ (store components nodes attributes text : List ℕ) where
  -- where the first l components lead from a row
  abbrev pub Climb : ℕ → ℕ → Climbed
  Climb l r = climb_of nodes attributes text (components_at store components l) r

  -- the last of them decides, with those before it
  pub climb-opened : (n row : ℕ) → Climb (suc n) row
      ≡ by_combinator (component_at store components n) (pick (is row 0) (Ended FailsCompletely) (Climb n (node_at nodes row).parent)) (Descendant n row)
      (pick (matches (component_at store components n ∷ []) (path_of nodes attributes text row)) (Climb n row) (Ended FailsLocally))
  unfolding climb_of
  climb-opened n row = rw (components-more store components n, components-length store components n) refl

  module _ (left row : ℕ) where
    -- with no component left the climb ends, and the selector matches
    pub match-end : left ≡ 0 → Ended Matches ≡ Climb left row
    unfolding climb_of
    match-end e = rw (e, components-none store components) refl

    module _ (some : ¬ (left ≡ 0)) where
      abbrev Up : Climbed
      Up = pick (is row 0) (Ended FailsCompletely) (Climb (left - 1) (node_at nodes row).parent)

      abbrev On : Climbed
      On = pick (matches (component_at store components (left - 1) ∷ []) (path_of nodes attributes text row)) (Climb (left - 1) row) (Ended FailsLocally)

      -- where there is one, so too by its number
      opened : Climb left row ≡ by_combinator (component_at store components (left - 1)) Up (Descendant (left - 1) row) On
      opened = let e : left ≡ suc (left - 1) = omega arith in ap (λ (l : ℕ). Climb l row) e ∙ climb-opened (left - 1) row

      module _ (k : ℕ) (ek : k ≡ component_number components (left - 1) component_kind_at) where
        -- the component is a child combinator
        module _ (e : k ≡ child_kind) where
          -- a child combinator fails on the document, and else leads where what is left leads from the parent
          child-opened : Climb left row ≡ Up
          unfolding component_at by_combinator
          child-opened = opened ∙ ap (λ (c : Component). by_combinator c Up (Descendant (left - 1) row) On) (from-child store _ _ _ _ (sym ek ∙ e))

          -- the document has no parent
          pub child-of-document : row ≡ 0 → Ended FailsCompletely ≡ Climb left row
          child-of-document z = pick_true _ _ _ (is row 0) (is-yes row 0 z) refl ∙ sym child-opened

          -- it leads where the parent leads
          pub child-of-parent : ¬ (row ≡ 0) → (p : ℕ) → p ≡ (node_at nodes row).parent → Climb left row ≡ Climb (left - 1) p
          child-of-parent z p ep = child-opened ∙ sym (pick-false _ _ _ (is row 0) (is-no row 0 z) refl) ∙ ap (Climb (left - 1)) (sym ep)

        -- at a descendant combinator the climb ends, with the components left of it, at this row
        pub descendant-opened : k ≡ descendant_kind → Descendant (left - 1) row ≡ Climb left row
        unfolding component_at by_combinator
        descendant-opened e = sym (opened ∙ ap (λ (c : Component). by_combinator c Up (Descendant (left - 1) row) On) (from-descendant store _ _ _ _ (sym ek ∙ e)))

        -- any other component, asked of the row itself
        module _ (no-child : ¬ (k ≡ child_kind)) (no-descendant : ¬ (k ≡ descendant_kind)) where
          -- a component that is neither combinator is a simple one
          pub match-simple : SimpleAt components (left - 1)
          match-simple = record { no-child = λ z. no-child (ek ∙ z); no-descendant = λ z. no-descendant (ek ∙ z) }

          module _ (b : Bool) (eb : b ≡ matches (component_at store components (left - 1) ∷ []) (path_of nodes attributes text row)) where
            -- the row's answer decides: what is left leads on from the row, or the climb fails locally
            asked : Climb left row ≡ pick b (Climb (left - 1) row) (Ended FailsLocally)
            unfolding component_at
            asked =
                opened ∙ third-chosen store _ _ _ _ match-simple.no-child match-simple.no-descendant _ _ _
                ∙ ap (λ (t : Bool). pick t (Climb (left - 1) row) (Ended FailsLocally)) (sym eb)

            -- the row passes it, and leads where what is left leads
            pub match-passes : b ≡ true → Climb left row ≡ Climb (left - 1) row
            match-passes h = asked ∙ sym (pick_true _ _ _ b h refl)

            -- the row does not pass it
            pub match-fails : b ≡ false → Climb left row ≡ Ended FailsLocally
            match-fails h = asked ∙ sym (pick-false _ _ _ b h refl)
