-- What the rows of a run ask for: a page and bytes that nothing is wrong with, and buffers of the least lengths, whatever they hold.
use Rattle.std.specs.Prelude.{ℕ, ◌+◌, ◌*◌, ◌≤◌, ◌<◌, ◌≡◌, List, ltb, length}
use Rattle.std.proofs.lemmas.List.Edits.{sets}
use Rattle.combinators.specs.Choice.{pick}
use Rattle.combinators.specs.LeastLengths.{Least}
use Rattle.combinators.specs.Refusal.{no_refusal}
use Rattle.cascade.specs.Row.{style_row_width}
use Rattle.page.specs.Accepted.{node_limit, attributes_before, bytes_before, page_refusal}
use Rattle.page.specs.Rows.{node_count, node_at}
use Rattle.compiled.specs.Answer.{bytes_refusal}
use Rattle.compiled.specs.Sheet.{compiled_limit}
use Rattle.combinators.specs.declared.lent.Stores.{Stores}
use Rattle.page.specs.Lent.{Page, page_in}
use Rattle.runner.specs.LeastLengths.{run_text_bytes, state_least, rows_least}
use Rattle.runner.specs.PageRows.{style_row_at}
use Rattle.running.specs.declared.input.RunInput.{RunInput}

-- buffers for which nothing is refused for want of length
pub record Lengths (code : List ℕ) (g : Page) (rows state rules tokens brackets texts : List ℕ) : Type 0 where
  pub few : length code ≤ compiled_limit
  pub for-rows : rows_least g ≤ length rows
  pub for-state : state_least code ≤ length state
  pub least : Least (run_text_bytes g) (length rules) (length tokens) (length brackets) (length texts)

-- and nothing is refused at all
pub record RunReady (code : List ℕ) (g : Page) (rows state rules tokens brackets texts : List ℕ) : Type 0 where
  pub sheet : bytes_refusal code ≡ no_refusal
  pub page : page_refusal g.nodes g.attributes g.text ≡ no_refusal
  pub lengths : Lengths code g rows state rules tokens brackets texts

-- the most bytes of texts of the rows before a row: as many as these rows have in the byte text, and two for each attribute
abbrev pub texts_most : Page → ℕ → ℕ
texts_most g i = bytes_before g.nodes g.attributes i + 2 * attributes_before g.nodes i

-- a row that is next, behind the texts of those before it
pub record RowReady (code : List ℕ) (g : Page) (rows state rules tokens brackets texts : List ℕ) (i fill : ℕ) : Type 0 where
  pub ready : RunReady code g rows state rules tokens brackets texts
  pub there : i < node_count g.nodes
  pub filled : fill ≤ texts_most g i

-- a place for the style row of a row
pub record PlaceRoom (i : ℕ) (rows : List ℕ) : Type 0 where
  pub few : i < node_limit
  pub room : i * style_row_width + style_row_width ≤ length rows

-- the parent's style row at the place of the row's own, where the parent comes before
unfoldable pub with_parent : List ℕ → ℕ → List ℕ → List ℕ
with_parent nodes i rows =
    pick (ltb (node_at nodes i).parent i) (sets rows (i * style_row_width) (style_row_at rows (node_at nodes i).parent)) rows

-- ---- the same of what is lent: what a run reads, rows, a state and the stores
abbrev pub LengthsOf : RunInput → List ℕ → List ℕ → Stores → Type 0
LengthsOf x rows state s = Lengths x.compiled.now (page_in x.page) rows state s.rules.now s.tokens.now s.brackets.now s.texts.now

abbrev pub RunReadyOf : RunInput → List ℕ → List ℕ → Stores → Type 0
RunReadyOf x rows state s = RunReady x.compiled.now (page_in x.page) rows state s.rules.now s.tokens.now s.brackets.now s.texts.now

abbrev pub RowReadyOf : RunInput → List ℕ → List ℕ → Stores → ℕ → ℕ → Type 0
RowReadyOf x rows state s i fill = RowReady x.compiled.now (page_in x.page) rows state s.rules.now s.tokens.now s.brackets.now s.texts.now i fill
