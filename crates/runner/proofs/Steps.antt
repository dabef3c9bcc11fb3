-- What a step is at each kind of row of an accepted page, and which contents a row has.
use Prim.Native.Nat.{ℕ, suc, ◌+◌, ◌<◌}
use mathlib.Core.Path.{◌≡◌, refl, sym, ◌∙◌}
use mathlib.Core.List.{List, []}
use native.Mathlib.Omega.{arith}
use Rattle.combinators.proofs.Rules.{pick_true, pick-false, is-yes, is-no}
use Rattle.page.specs.Ancestors.{depth_of, place_of}
use Rattle.page.specs.PathOf.{element_at}
use Rattle.page.specs.Rows.{node_count, node_at, element_kind, other_kind}
use Rattle.page.proofs.AcceptedPages.{Accepted}
use Rattle.page.proofs.Ancestry.{depth-most}
use Rattle.page.proofs.RowFacts.{document-kind, one_deeper}
use Rattle.styles.specs.StyleCall.{inline_contents}
use Rattle.styles.specs.declared.settings.Settings.{Settings}
use Rattle.segments.specs.Sweep.{pair_at}
use Rattle.runner.specs.State.{part_place}
use Rattle.page.specs.Lent.{Page}
use Rattle.runner.proofs.Handed.{handed-kind, handed-right}
use Rattle.runner.specs.PageRows.{no_style, row_contents}
use Rattle.runner.specs.Run.{Stepped, document_step, element_step, open_step, step_on, handed_at}

-- ---- which contents a row has
module _ (settings : Settings) (g : Page) where
  -- the contents of an element's row are those of its inline styles, of which there are none with the switch off
  pub element-contents : (i : ℕ) → (node_at g.nodes i).kind ≡ element_kind → row_contents settings g i ≡ inline_contents settings (element_at g.nodes g.attributes g.text i)
  unfolding row_contents
  element-contents i e = sym (pick_true _ _ _ _ (is-yes _ _ e) refl)

  -- of another row there are none
  pub no-contents : (i : ℕ) → ¬ ((node_at g.nodes i).kind ≡ element_kind) → row_contents settings g i ≡ []
  unfolding row_contents
  no-contents i d = sym (pick-false _ _ _ _ (is-no _ _ d) refl)

-- ---- the step of each kind of row
module _ (code : List ℕ) (settings : Settings) (g : Page) (parent state texts : List ℕ) where
  abbrev step_at : ℕ → Stepped
  step_at i = step_on code settings (handed_at g i) (depth_of g.nodes i) parent state texts

  -- at other content a step writes no style and leaves the state and the texts as they were
  pub other_step : (i : ℕ) → (node_at g.nodes i).kind ≡ other_kind → step_at i ≡ record { row = no_style; state = state; texts = texts }
  unfolding step_on
  other_step i e = sym (pick_true _ _ _ _ (is-yes _ _ (handed-kind g i ∙ e)) refl)

  module _ (ok : Accepted g.nodes g.attributes g.text) where
    -- at row 0 of an accepted page a step is the document's
    pub document-step : step_at 0 ≡ document_step code state texts
    unfolding step_on open_step
    document-step =
        let d : depth_of g.nodes 0 ≡ 0 = omega (arith, depth-most g.nodes 0) in
        rw d
        (sym (pick-false _ _ _ _ (is-no _ _ (λ (e : (handed_at g 0).kind ≡ other_kind). omega (arith, e, handed-kind g 0, document-kind g.nodes g.attributes g.text ok))) refl))

    -- of an element, where its parent's part gives its place
    pub element-step : (i : ℕ) → suc i < node_count g.nodes → (node_at g.nodes (suc i)).kind ≡ element_kind
        → pair_at state (part_place code (depth_of g.nodes (node_at g.nodes (suc i)).parent)) + 1 ≡ place_of g.nodes (suc i)
        → step_at (suc i) ≡ element_step code settings (element_at g.nodes g.attributes g.text (suc i)) (depth_of g.nodes (node_at g.nodes (suc i)).parent) parent state texts
    unfolding step_on open_step element_at
    element-step i there e place =
        rw (one_deeper g.nodes g.attributes g.text ok (suc i) there (omega arith), handed-right g ok (suc i) there, ← place)
        (sym (pick-false _ _ _ _ (is-no _ _ (λ (z : (node_at g.nodes (suc i)).kind ≡ other_kind). omega (arith, e, z))) refl))
