-- The style row of a step: below a written style it is the written style of what is inherited and declared.
use Prim.Native.Nat.{ℕ}
use mathlib.Core.Path.{◌≡◌, refl, ap, sym, ◌∙◌}
use mathlib.Core.Bool.{false}
use mathlib.Core.List.{List, ◌++◌, map, foldl}
use Rattle.syntax.specs.declared.styles.Value.{Value}
use Rattle.cascade.specs.declared.slots.Cascade.TheVariants.{Crate}
use Rattle.cascade.specs.Record.{ComputedStyle, Formed, Declared, from_attribute, merge_by, inherit, inherit_by, Styled}
use Rattle.cascade.specs.Row.{row_of, inherited_row}
use Rattle.cascade.specs.Slot.{maybe_update, update_by}
use Rattle.cascade.specs.Specificity.{inline_specificity}
use Rattle.cascade.proofs.Cascading.{inherit-formed, merges-formed}
use Rattle.cascade.proofs.Inheriting.{inherit-layout}
use Rattle.cascade.proofs.RowBack.{merges-layout}
use Rattle.page.specs.Path.{Element}
use Rattle.styles.specs.declared.settings.Settings.{Settings}
use Rattle.styles.specs.Merged.{merged_row, late_declared}
use Rattle.styles.specs.Said.{counted_attributes}
use Rattle.styles.specs.StyleCall.{placed_attributes}
use Rattle.styles.proofs.Merging.{merged-append}
use Rattle.compiled.specs.Sheet.{CompiledSelector}
use Rattle.runner.specs.PageRows.{selectors_declare, style_below}
use Rattle.runner.specs.Run.{row_below}

module _ (ss : List (CompiledSelector (Styled Value))) (settings : Settings) (place : ℕ) (e : Element) where
  -- what is declared for the element: by the selectors, then by its attributes
  abbrev pub declared_below : List (Declared Value)
  declared_below = selectors_declare ss ++ map (from_attribute false inline_specificity) (placed_attributes place (counted_attributes settings e))

  -- the style below is what the crate's cascade, by its name, makes of the declarations
  below-crate : (s : ComputedStyle Value) → style_below s ss settings place e ≡ foldl (merge_by (update_by Crate)) (inherit_by Crate s) declared_below
  unfolding style_below inherit_by update_by
  below-crate s = refl

  -- a style below one that has all its slots has them all
  pub below-formed : (s : ComputedStyle Value) → Formed s → Formed (style_below s ss settings place e)
  unfolding style_below
  below-formed s f = merges-formed maybe_update declared_below (inherit s) (inherit-formed s f)

  -- and is written by the step below its parent's written row
  pub row_below_lem : (s : ComputedStyle Value) → Formed s → row_below (row_of s) ss settings place e ≡ row_of (style_below s ss settings place e)
  unfolding row_below late_declared merged_row inherit_by
  row_below_lem s f =
      ap (λ (r : List ℕ). merged_row Crate (merged_row Crate r (selectors_declare ss)) (late_declared Crate (placed_attributes place (counted_attributes settings e)))) (inherit-layout Crate s f)
      ∙ sym (merged-append Crate (row_of (inherit_by Crate s)) (selectors_declare ss) (map (from_attribute false inline_specificity) (placed_attributes place (counted_attributes settings e))))
      ∙ merges-layout (update_by Crate) declared_below (inherit_by Crate s) (inherit-formed s f)
      ∙ ap row_of (sym (below-crate s))

-- selectors that declare the same give the same row
pub row-declared : (ss others : List (CompiledSelector (Styled Value))) (settings : Settings) (place : ℕ) (e : Element) (parent : List ℕ) → selectors_declare ss ≡ selectors_declare others
    → row_below parent ss settings place e ≡ row_below parent others settings place e
unfolding row_below
row-declared ss others settings place e parent same =
    ap (λ (l : List (Declared Value)). merged_row Crate (merged_row Crate (inherited_row Crate parent) l) (late_declared Crate (placed_attributes place (counted_attributes settings e)))) same
