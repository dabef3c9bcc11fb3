-- What a step asks for: bytes that read as a sheet, a depth of an accepted page, and the least lengths. Nothing is asked of what the state, the work
-- stores or the text store behind the fill hold.
use Rattle.std.specs.Prelude.{ℕ, ◌≤◌, ◌≡◌, List, length}
use Rattle.combinators.specs.Lent.{SameStores, SameLengths}
use Rattle.combinators.specs.Refusal.{no_refusal}
use Rattle.combinators.specs.declared.lent.Stores.{Stores}
use Rattle.page.specs.Accepted.{depth_limit}
use Rattle.page.specs.Path.{Attribute}
use Rattle.page.specs.PathOf.{attributes_from}
use Rattle.page.specs.Rows.{attribute_rows}
use Rattle.compiled.specs.Answer.{bytes_refusal}
use Rattle.compiled.specs.Sheet.{compiled_limit}
use Rattle.attributes.specs.Merging.{InlineRoom}
use Rattle.runner.specs.LeastLengths.{state_least}
use Rattle.runner.specs.Run.{Handed, handed_from}
use Rattle.stepping.specs.declared.step.NodeRow.{NodeRow}

pub record StepLent (code attributes text : List ℕ) (depth : ℕ) (state : List ℕ) (s : Stores) (fill : ℕ) : Type 0 where
  pub sheet : bytes_refusal code ≡ no_refusal
  pub few : length code ≤ compiled_limit
  pub shallow : depth ≤ depth_limit
  pub for-state : state_least code ≤ length state
  pub for-attributes : InlineRoom (attributes_from attributes text (attribute_rows attributes) 0) (length code) fill s.rules.now s.tokens.now s.brackets.now s.texts.now

-- ---- the same of a row as it is handed: its attributes, all of it, and what a step at it asks for
abbrev pub given_of : NodeRow → List Attribute
given_of row = attributes_from row.attributes.now row.text.now (attribute_rows row.attributes.now) 0

abbrev pub handed_of : NodeRow → Handed
handed_of row = handed_from row.node.now row.attributes.now row.text.now

abbrev pub StepLentOf : List ℕ → NodeRow → ℕ → List ℕ → Stores → ℕ → Type 0
StepLentOf code row depth state s fill = StepLent code row.attributes.now row.text.now depth state s fill

-- what is left of the stores: the same slices, of the same lengths, and texts that are filled within theirs
pub record Kept (a b : Stores) (fill : ℕ) : Type 0 where
  pub same : SameStores a b
  pub lengths : SameLengths a b
  pub within : fill ≤ length b.texts.now
