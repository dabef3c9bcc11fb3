-- The step and the run. "It is one step per node row, in order: a step is handed the compiled bytes, the byte text, this row with its attribute rows, its
-- depth, the parent's style row, the state, the stores, how far the text store is filled, and the switch, but no other row of the page."
use Rattle.std.specs.Prelude.{ℕ, zero, suc, ◌+◌, ◌*◌, List, [], ◌∷◌, ◌++◌, length}
use Rattle.std.proofs.lemmas.List.Edits.{sets}
use Rattle.combinators.specs.Choice.{pick, is}
use Rattle.combinators.specs.Part.{part}
use Rattle.syntax.specs.Style.{agent_origin}
use Rattle.syntax.specs.declared.styles.Value.{Value}
use Rattle.cascade.specs.declared.slots.Cascade.TheVariants.{Crate}
use Rattle.cascade.specs.Row.{style_row_width, inherited_row}
use Rattle.cascade.specs.Record.{Styled}
use Rattle.page.specs.Ancestors.{depth_of}
use Rattle.page.specs.Path.{Attribute, Element}
use Rattle.page.specs.PathOf.{attributes_from}
use Rattle.page.specs.Rows.{node_width, attribute_width, other_kind, node_at, node_count, attribute_rows, name_of}
use Rattle.styles.specs.declared.settings.Settings.{Settings}
use Rattle.page.specs.Lent.{Page}
use Rattle.styles.specs.Merged.{merged_row, late_declared}
use Rattle.styles.specs.Said.{counted_attributes}
use Rattle.styles.specs.StyleCall.{inline_contents, placed_attributes}
use Rattle.compiled.specs.Sheet.{CompiledSelector, selector_at}
use Rattle.segments.specs.Sweep.{pair_at}
use Rattle.segments.specs.Pass.{Passed}
use Rattle.segments.specs.Down.{pass_at, fresh_in, read_in}
use Rattle.runner.specs.PageRows.{selectors_declare, style_row_at, no_style}
use Rattle.runner.specs.State.{part_place, part_of, raised, opened}
use Rattle.runner.specs.Walked.{walked_style_at}

-- ---- a step

-- the row that a step is handed, with its attributes
pub record Handed : Type 0 where
  pub kind : ℕ
  pub name : List ℕ
  pub attributes : List Attribute

-- by the numbers of the row and of its attribute rows
unfoldable pub handed_from : List ℕ → List ℕ → List ℕ → Handed
handed_from node attributes text =
    record { kind = (node_at node 0).kind; name = name_of node text 0; attributes = attributes_from attributes text (attribute_rows attributes) 0 }

-- what a step leaves: the style row, the state, and the texts so far, which fill the text store up to their length
pub record Stepped : Type 0 where
  pub row : List ℕ
  pub state : List ℕ
  pub texts : List ℕ

-- the style row that an element's step writes: its parent's, into which the selectors are merged, then its attributes, whose contents count from a place on
unfoldable pub row_below : List ℕ → List (CompiledSelector (Styled Value)) → Settings → ℕ → Element → List ℕ
row_below parent ss settings place e =
    merged_row Crate (merged_row Crate (inherited_row Crate parent) (selectors_declare ss)) (late_declared Crate (placed_attributes place (counted_attributes settings e)))

-- the selectors at places of compiled bytes
abbrev pub found_at : List ℕ → List ℕ → List (CompiledSelector (Styled Value))
found_at code places = read_in (selector_at (walked_style_at code) code agent_origin) places

-- the document's step opens its part, and has no style. What stands above all selectors is kept in the part of the next depth, which is not open yet
unfoldable pub document_step : List ℕ → List ℕ → List ℕ → Stepped
document_step code state texts =
    let fresh = fresh_in code (part_of code 1 state) in
    record {
      row = no_style;
      state = opened (sets state (part_place code 1) fresh) (part_place code 0) (pass_at code [] fresh (part_of code 0 state)).part;
      texts = texts;
    }

-- an element below a row of the depth d: it is one child more of its parent, and opens its own part
unfoldable pub element_step : List ℕ → Settings → Element → ℕ → List ℕ → List ℕ → List ℕ → Stepped
element_step code settings e d parent state texts =
    let counted = raised state (part_place code d) in
    let passed : Passed = pass_at code (e ∷ []) (part_of code d counted) (part_of code (suc d) counted) in
    record {
      row = row_below parent (found_at code passed.matched) settings (length code + length texts) e;
      state = opened counted (part_place code (suc d)) passed.part;
      texts = texts ++ inline_contents settings e;
    }

unfoldable pub open_step : List ℕ → Settings → Handed → ℕ → List ℕ → List ℕ → List ℕ → Stepped
open_step code settings x zero parent state texts = document_step code state texts
open_step code settings x (suc d) parent state texts =
    let place = pair_at state (part_place code d) + 1 in
    element_step code settings (record { name = x.name; attributes = x.attributes; place = place }) d parent state texts

-- other content changes no state, and its style row is zeros
unfoldable pub step_on : List ℕ → Settings → Handed → ℕ → List ℕ → List ℕ → List ℕ → Stepped
step_on code settings x depth parent state texts =
    pick (is x.kind other_kind) (record { row = no_style; state = state; texts = texts }) (open_step code settings x depth parent state texts)

-- ---- the run

-- what a row hands to its step: "this row with its attribute rows .. but no other row of the page"
unfoldable pub handed_at : Page → ℕ → Handed
handed_at g i =
    let node = part g.nodes (i * node_width) node_width in
    handed_from node (part g.attributes ((node_at g.nodes i).first_attribute * attribute_width) ((node_at g.nodes i).attribute_count * attribute_width)) g.text

-- the style rows so far, and what the step before left
pub record Running : Type 0 where
  pub rows : List ℕ
  pub state : List ℕ
  pub texts : List ℕ

-- the step of row i, with "its parent's style row as that parent's step wrote it"
unfoldable pub run_step : List ℕ → Settings → Page → ℕ → Running → Running
run_step code settings g i r =
    let s = step_on code settings (handed_at g i) (depth_of g.nodes i) (style_row_at r.rows (node_at g.nodes i).parent) r.state r.texts in
    record { rows = sets r.rows (i * style_row_width) s.row; state = s.state; texts = s.texts }

-- k steps from row i on
unfoldable pub run_from : List ℕ → Settings → Page → ℕ → ℕ → Running → Running
run_from code settings g zero i r = r
run_from code settings g (suc k) i r = run_from code settings g k (suc i) (run_step code settings g i r)

-- "A run begins with fill 0 and whatever its state and stores hold"
unfoldable pub run_of : List ℕ → Settings → Page → List ℕ → List ℕ → Running
run_of code settings g rows state = run_from code settings g (node_count g.nodes) 0 (record { rows = rows; state = state; texts = [] })
