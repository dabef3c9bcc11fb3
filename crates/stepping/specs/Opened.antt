-- What opening a row asks for and leaves: its style row before its attributes count, and its part of the state.
use Rattle.std.specs.Prelude.{ℕ, suc, ◌+◌, ◌≤◌, ◌<◌, ◌≡◌, List, [], ◌∷◌, length}
use Rattle.std.proofs.lemmas.List.Edits.{sets}
use Rattle.combinators.specs.Refusal.{no_refusal}
use Rattle.cascade.specs.Row.{inherited_row}
use Rattle.cascade.specs.declared.slots.Cascade.TheVariants.{Crate}
use Rattle.page.specs.Accepted.{depth_limit}
use Rattle.page.specs.Path.{Element}
use Rattle.page.specs.Rows.{name_of}
use Rattle.styles.specs.Merged.{merged_row}
use Rattle.compiled.specs.Answer.{bytes_refusal}
use Rattle.compiled.specs.Sheet.{compiled_limit}
use Rattle.segments.specs.Down.{pass_at}
use Rattle.sweeps.specs.Met.{handed_element}
use Rattle.segments.specs.Pass.{Passed}
use Rattle.segments.specs.Sweep.{pair_at, pair_bytes}
use Rattle.runner.specs.LeastLengths.{state_least}
use Rattle.runner.specs.PageRows.{selectors_declare}
use Rattle.runner.specs.Run.{found_at}
use Rattle.runner.specs.State.{part_place, part_of, raised, opened}
use Rattle.stepping.specs.declared.step.NodeRow.{NodeRow}

-- bytes that read as a sheet, and a part of the state for each depth
pub record OpenLent (code state : List ℕ) : Type 0 where
  pub sheet : bytes_refusal code ≡ no_refusal
  pub few : length code ≤ compiled_limit
  pub for-state : state_least code ≤ length state

-- the depth of an element of an accepted page
pub record Below (depth : ℕ) : Type 0 where
  pub deep : 0 < depth
  pub shallow : depth ≤ depth_limit

-- the element of a row, by its parent's part: one child more of its parent
unfoldable pub child_below : List ℕ → List ℕ → List ℕ → List ℕ → Element
child_below node attributes text above = handed_element (name_of node text 0) attributes text (pair_at above 0 + 1)

-- what opening it leaves of both parts and of its style row, by what passing the selectors at it comes to
pub record ChildOpened (code : List ℕ) (e : Element) (above own out above₁ own₁ out₁ : List ℕ) : Type 0 where
  pub count : above₁ ≡ sets above 0 (pair_bytes (pair_at above 0 + 1))
  pub part : own₁ ≡ sets (pass_at code (e ∷ []) above₁ own).part 0 (pair_bytes 0)
  pub row : out₁ ≡ merged_row Crate (inherited_row Crate out) (selectors_declare (found_at code (pass_at code (e ∷ []) above₁ own).matched))

-- the element of a row whose parent's part begins at a place: one child more of its parent
unfoldable pub child_element : List ℕ → List ℕ → List ℕ → List ℕ → ℕ → Element
child_element node attributes text state parent = handed_element (name_of node text 0) attributes text (pair_at state parent + 1)

-- what passing the selectors at it comes to, below a row of the depth d
unfoldable pub child_passed : List ℕ → Element → ℕ → List ℕ → Passed
child_passed code e d state =
    let counted = raised state (part_place code d) in pass_at code (e ∷ []) (part_of code d counted) (part_of code (suc d) counted)

-- what opening it leaves
pub record ElementOpened (code : List ℕ) (e : Element) (d : ℕ) (out state out₁ state₁ : List ℕ) : Type 0 where
  pub row : out₁ ≡ merged_row Crate (inherited_row Crate out) (selectors_declare (found_at code (child_passed code e d state).matched))
  pub part : state₁ ≡ opened (raised state (part_place code d)) (part_place code (suc d)) (child_passed code e d state).part

-- ---- the same of a row as it is handed
abbrev pub child_below_of : NodeRow → List ℕ → Element
child_below_of row above = child_below row.node.now row.attributes.now row.text.now above

abbrev pub child_element_of : NodeRow → List ℕ → ℕ → Element
child_element_of row state parent = child_element row.node.now row.attributes.now row.text.now state parent
