-- Demand 3: the style rows of a page by the bytes of three sheets, all together; and in one record the claim about the calls `compile`, `style` and `run`, for all
-- sheets, pages, settings and buffers.
use Rattle.std.specs.Prelude.{ℕ, ◌≤◌, ◌<◌, ◌≡◌, List, ◌++◌, length}
use Rattle.syntax.specs.Selector.{RuleSet}
use Rattle.syntax.specs.Style.{StyleDecl}
use Rattle.cascade.specs.declared.slots.Cascade.TheVariants.{Crate}
use Rattle.page.specs.PathOf.{path_of}
use Rattle.page.specs.Rows.{node_count, node_at, element_kind}
use Rattle.compiled.specs.Decoded.{read}
use Rattle.compiled.specs.Sheet.{CompiledSelector, decode}
use Rattle.compiler.specs.Selectors.{selectors_of}
use Rattle.styles.specs.declared.settings.Settings.{Settings}
use Rattle.styles.specs.Said.{Rules}
use Rattle.styles.specs.Computed.{computed_style}
use Rattle.page.specs.Lent.{Page}
use Rattle.styles.specs.Lent.{SheetTexts}
use Rattle.runner.specs.PageRows.{no_style, style_row_at, page_contents, page_row}
use Rattle.combinators.specs.Refusal.{no_refusal, short_store}
use Rattle.running.specs.RunAnswer.{RunLeft}
use Rattle.styling.specs.Claim.{row_left, texts_left}
use Rattle.agreement.specs.Calls.{CompileBuffers, RunBuffers, StyleBuffers, compile_with, run_with, style_with, code_of, texts_of, AcceptedPage}
use Rattle.agreement.specs.ComputedRows.{RowComputed, ComputedRows}
use Rattle.agreement.specs.SameRow.{SameRow}

-- the selectors that three sheets are compiled to
abbrev pub sheets_selectors : Rules RuleSet → List (CompiledSelector StyleDecl)
sheets_selectors rules = selectors_of rules.agent rules.user rules.author

-- the style row of each element says its computed style, by the sheets, the settings and its path, where a content is the text that it names "in the
-- compiled bytes followed by that store"; "rows of other nodes, are zeros".
pub record AllRows (rules : Rules RuleSet) (settings : Settings) (g : Page) (code : List ℕ) : Type 0 where
  -- the bytes are the sheet
  pub sheet : decode code ≡ read (length code) (sheets_selectors rules)
  pub element-rows : (i : ℕ) → i < node_count g.nodes → (node_at g.nodes i).kind ≡ element_kind
      → RowComputed (code ++ page_contents settings g) (page_row code settings g i) (computed_style Crate rules settings (path_of g.nodes g.attributes g.text i))
  pub other-rows : (i : ℕ) → i < node_count g.nodes → ¬ ((node_at g.nodes i).kind ≡ element_kind) → page_row code settings g i ≡ no_style

-- ---- a run of compiled bytes, against the sheets' texts, and against the style call at each row
pub record Agreement (settings : Settings) (s : SheetTexts) (g : Page) (code : List ℕ) (r : RunLeft) : Type 0 where
  -- the run refuses nothing
  pub answered : r.answer.refusal ≡ no_refusal
  -- every element's row equals the style computed from the sheets, which excludes "a run that styles one element and repeats it (2 and 3, on every element)";
  -- "A compiler that always writes the empty sheet fails 3."
  pub computed-rows : ComputedRows settings s g code r
  -- every row that the style call styles is the same, whatever that call is lent: number by number, each content by its text, which is in the compiled bytes
  -- followed by the run's texts
  pub styled-rows : (i : ℕ) (v : StyleBuffers) → (style_with settings s g i v).answer.refusal ≡ no_refusal
      → SameRow (code ++ texts_of r) (texts_left (style_with settings s g i v)) (style_row_at r.rows i) (row_left (style_with settings s g i v))
  -- "rows of other nodes, are zeros"
  pub other-rows : (i : ℕ) → i < node_count g.nodes → ¬ ((node_at g.nodes i).kind ≡ element_kind) → style_row_at r.rows i ≡ no_style
  -- the texts are the inline contents of the page
  pub within : r.answer.texts ≤ length r.texts
  pub contents : texts_of r ≡ page_contents settings g

-- "In demand 3 sheets and page are accepted where the compiler and the style call refuse nothing and the run does not return 2; the run then refuses nothing, so never 9."
-- "Demand 3 is a single claim about all steps of a run, on every page, and not one for each step."
-- "As soon as compiler, run and style call can be called, the whole of demand 3 is owed of them."
pub record Demand3 : Type 0 where
  -- sheets that compile, an accepted page, also one without elements, and a run of their bytes down it that does not return 2: the run refuses nothing, its rows are
  -- those computed from the sheets' texts, and each is that of every style call that styles it
  pub agrees : (s : SheetTexts) (g : Page) (settings : Settings) (b : CompileBuffers) (w : RunBuffers)
      → (compile_with s b).answer.refusal ≡ no_refusal
      → AcceptedPage g
      → ¬ ((run_with (code_of (compile_with s b)) settings g w).answer.refusal.number ≡ short_store)
      → Agreement settings s g (code_of (compile_with s b)) (run_with (code_of (compile_with s b)) settings g w)
  -- a page is accepted where the style call refuses nothing at some row of it, whatever its sheets, settings and buffers are: so `agrees` holds where the scope asks for it
  pub accepts : (s : SheetTexts) (g : Page) (settings : Settings) (j : ℕ) (v : StyleBuffers)
      → (style_with settings s g j v).answer.refusal ≡ no_refusal
      → AcceptedPage g
