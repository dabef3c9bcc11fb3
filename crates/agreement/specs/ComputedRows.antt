-- A run of compiled bytes against the texts of the sheets that they were compiled from: every element's row equals the style computed from the sheets. The sheets are
-- read from their texts, never from compiled bytes.
use Rattle.std.specs.Prelude.{ℕ, ◌<◌, ◌≡◌, List, ◌++◌}
use Rattle.syntax.specs.Selector.{RuleSet}
use Rattle.syntax.specs.Style.{StyleValue}
use Rattle.syntax.specs.declared.styles.Value.{Value}
use Rattle.cascade.specs.declared.slots.Cascade.TheVariants.{Crate}
use Rattle.cascade.specs.Record.{ComputedStyle}
use Rattle.cascade.specs.Related.{SameStyle}
use Rattle.cascade.specs.Row.{row_of}
use Rattle.page.specs.PathOf.{path_of}
use Rattle.page.specs.Rows.{node_count, node_at, element_kind}
use Rattle.origins.specs.Reading.{rules, sheets_of}
use Rattle.styles.specs.declared.settings.Settings.{Settings}
use Rattle.styles.specs.Said.{Rules}
use Rattle.styles.specs.Computed.{computed_style}
use Rattle.styles.specs.Says.{Says}
use Rattle.page.specs.Lent.{Page}
use Rattle.styles.specs.Lent.{SheetTexts}
use Rattle.runner.specs.PageRows.{style_row_at}
use Rattle.running.specs.RunAnswer.{RunLeft}
use Rattle.agreement.specs.Calls.{texts_of}

-- a style row is written as rows are, "Slots unfilled .. are zeros", and is a computed style: it has its weights and presence, its numbers, and each content by the text
-- that it names in t
pub record RowComputed (t row : List ℕ) (m : ComputedStyle StyleValue) : Type 0 where
  pub style : ComputedStyle Value
  pub written : row ≡ row_of style
  pub same : SameStyle (Says t) style m

-- "Its computed style is that of results 1 to 6, read from the sheets' texts and never from compiled bytes, nth-child sums exact also where the crate overflows."
pub record ComputedRows (settings : Settings) (s : SheetTexts) (g : Page) (code : List ℕ) (r : RunLeft) : Type 0 where
  -- the rules of the three sheets, as they are read
  pub sheets : Rules RuleSet
  pub read-texts : sheets_of s.agent s.user s.author ≡ rules sheets.agent sheets.user sheets.author
  -- each content is the text that it names in the compiled bytes followed by the run's texts
  pub element-rows : (i : ℕ) → i < node_count g.nodes → (node_at g.nodes i).kind ≡ element_kind
      → RowComputed (code ++ texts_of r) (style_row_at r.rows i) (computed_style Crate sheets settings (path_of g.nodes g.attributes g.text i))
