-- The style rows of a page, by the selectors of compiled bytes that match the path of each element, and the texts of its contents: what a run leaves, said
-- without how it goes down the page.
use Rattle.std.specs.Prelude.{ℕ, zero, suc, ◌+◌, ◌*◌, false, length, take, drop, replicate}
use mathlib.Core.List.{List, [], ◌∷◌, ◌++◌, map, foldl}
use Rattle.combinators.specs.Choice.{pick, is}
use Rattle.syntax.specs.declared.styles.Value.{Value}
use Rattle.syntax.specs.RuleLayout.{pseudo_number}
use Rattle.cascade.specs.Record.{ComputedStyle, empty_style, Declared, merge_by, inherit, from_rule, from_attribute, Styled}
use Rattle.cascade.specs.Row.{style_row_width, row_of}
use Rattle.cascade.specs.Slot.{maybe_update}
use Rattle.cascade.specs.Specificity.{inline_specificity}
use Rattle.page.specs.Ancestors.{line_of}
use Rattle.page.specs.Path.{Element}
use Rattle.page.specs.PathOf.{element_at, path_of}
use Rattle.page.specs.Rows.{element_kind, node_at, node_count}
use Rattle.matching.specs.Specificity.{specificity}
use Rattle.styles.specs.declared.settings.Settings.{Settings}
use Rattle.page.specs.Lent.{Page}
use Rattle.styles.specs.Said.{rule_style, counted_attributes}
use Rattle.styles.specs.StyleCall.{inline_contents, placed_attributes}
use Rattle.compiled.specs.Sheet.{CompiledSelector}
use Rattle.segments.specs.Down.{matching_of}
use Rattle.runner.specs.Walked.{walked}

-- ---- the style of an element

-- what the selectors that match declare, in reading order
unfoldable pub selectors_declare : {A : Type 0} → List (CompiledSelector (Styled A)) → List (Declared A)
selectors_declare [] = []
selectors_declare (s ∷ ss) = map (λ x. from_rule s.origin (rule_style (pseudo_number s.pseudo) (specificity s.components) x)) s.styles ++ selectors_declare ss

-- the style of an element: its parent's, into which the selectors are merged, then its attributes, whose contents count from a place on
unfoldable pub style_below : ComputedStyle Value → List (CompiledSelector (Styled Value)) → Settings → ℕ → Element → ComputedStyle Value
style_below parent ss settings place e =
    let attributes = map (from_attribute false inline_specificity) (placed_attributes place (counted_attributes settings e)) in
    foldl (merge_by maybe_update) (inherit parent) (selectors_declare ss ++ attributes)

-- ---- what the text store holds: the content texts of `style` attributes "down the .. page", in page order

-- those of a row
unfoldable pub row_contents : Settings → Page → ℕ → List ℕ
row_contents settings g i =
    pick (is (node_at g.nodes i).kind element_kind) (inline_contents settings (element_at g.nodes g.attributes g.text i)) []

-- those of the rows before a row
unfoldable pub contents_before : Settings → Page → ℕ → List ℕ
contents_before settings g zero = []
contents_before settings g (suc i) = contents_before settings g i ++ row_contents settings g i

unfoldable pub page_contents : Settings → Page → List ℕ
page_contents settings g = contents_before settings g (node_count g.nodes)

-- ---- the style rows, by compiled bytes, settings and a page
module _ (code : List ℕ) (settings : Settings) (g : Page) where
  -- the style of a row and what is above it, the row first: an element's is its parent's, with the selectors of the bytes that match its path and with its attributes,
  -- whose contents lie behind the bytes and behind the contents of the rows before it; other rows have none
  unfoldable pub line_style : List ℕ → ComputedStyle Value
  line_style [] = empty_style
  line_style (i ∷ above) =
      let parent = line_style above in
      let matching = matching_of (path_of g.nodes g.attributes g.text i) (walked code) in
      let place = length code + length (contents_before settings g i) in
      pick (is (node_at g.nodes i).kind element_kind) (style_below parent matching settings place (element_at g.nodes g.attributes g.text i)) empty_style

  -- a row of the page
  unfoldable pub page_row : ℕ → List ℕ
  page_row i = row_of (line_style (line_of g.nodes i))

  -- those before a row, one behind the other
  unfoldable pub rows_before : ℕ → List ℕ
  rows_before zero = []
  rows_before (suc i) = rows_before i ++ page_row i

  -- all of them
  unfoldable pub page_rows : List ℕ
  page_rows = rows_before (node_count g.nodes)

-- ---- one of the style rows of a page
unfoldable pub style_row_at : List ℕ → ℕ → List ℕ
style_row_at rows i = take style_row_width (drop (i * style_row_width) rows)

-- "rows of other nodes, are zeros"
abbrev pub no_style : List ℕ
no_style = replicate style_row_width 0
