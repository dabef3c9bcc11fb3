-- Demand 3, over the definitions: one claim about all rows, on every page. Every style row of the page by the bytes of three sheets is the computed style of its
-- element, read from the texts of the sheets.
use Prim.Native.Nat.{ℕ, ◌≤◌}
use mathlib.Core.Path.{◌≡◌}
use mathlib.Core.List.{List}
use lib.ListN.{length}
use Rattle.combinators.specs.Refusal.{no_refusal}
use Rattle.syntax.specs.Selector.{RuleSet}
use Rattle.sheets.specs.SheetAnswer.{sheet_limit}
use Rattle.cascade.specs.declared.slots.Cascade.TheVariants.{Crate}
use Rattle.cascade.specs.Related.{SameStyle}
use Rattle.cascade.specs.Row.{style_at}
use Rattle.page.specs.Accepted.{page_refusal}
use Rattle.page.specs.Path.{Path}
use Rattle.page.specs.PathOf.{path_of}
use Rattle.page.proofs.AcceptedPages.{accepted}
use Rattle.origins.specs.Reading.{rules, sheets_of}
use Rattle.origins.proofs.SheetsKnown.{sheets-known}
use Rattle.compiled.specs.Sheet.{encode}
use Rattle.compiler.specs.Selectors.{selectors_of}
use Rattle.compiler.proofs.Range.{sheets-fit}
use Rattle.styles.specs.declared.settings.Settings.{Settings}
use Rattle.styles.specs.Said.{Rules}
use Rattle.styles.specs.Computed.{computed_style}
use Rattle.styles.specs.StyleCall.{call_store, call_row}
use Rattle.styles.specs.Says.{Says}
use Rattle.styles.proofs.Called.{call-says-alone}
use Rattle.page.specs.Lent.{Page}
use Rattle.agreement.specs.Demand.{AllRows}
use Rattle.agreement.proofs.PageRight.{rows-computed}

-- three sheets that are read without a panic, none above its limit; an accepted page; document styles on or off
module _ (agent user author : List ℕ) (a u w : List RuleSet) (read : sheets_of agent user author ≡ rules a u w)
    (agent-within : length agent ≤ sheet_limit) (user-within : length user ≤ sheet_limit) (author-within : length author ≤ sheet_limit)
    (g : Page) (ok : page_refusal g.nodes g.attributes g.text ≡ no_refusal) (settings : Settings) where
  abbrev sheets : Rules RuleSet
  sheets = record { agent = a; user = u; author = w }

  -- the bytes of the sheets: every row of the page is right
  pub every-row : AllRows sheets settings g (encode (selectors_of a u w))
  every-row =
      let k = sheets-known agent user author a u w read in
      let fits = sheets-fit agent user author k.agent-read k.user-read k.author-read agent-within user-within author-within in
      rows-computed sheets fits settings g (accepted g.nodes g.attributes g.text ok)

  abbrev path_at : ℕ → Path
  path_at i = path_of g.nodes g.attributes g.text i

  -- the row of a style call says the computed style as well, in its own store
  pub call-computed : (i : ℕ) → SameStyle (Says (call_store sheets settings (path_at i))) (style_at (call_row Crate sheets settings (path_at i))) (computed_style Crate sheets settings (path_at i))
  call-computed i = call-says-alone Crate sheets settings (path_at i)
