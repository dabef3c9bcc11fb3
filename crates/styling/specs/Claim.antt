-- What a style call shows of its element wherever it refuses nothing: its row, with the texts that it filled, says the style that the sheets, the settings and the element's
-- path come to. "Style rows are compared number by number, but a content's start and length by the text that they name."
use Rattle.std.specs.Prelude.{ℕ, ◌≤◌, ◌≡◌, List, length, take}
use Rattle.syntax.specs.Selector.{RuleSet}
use Rattle.origins.specs.Reading.{rules, sheets_of}
use Rattle.cascade.specs.declared.slots.Cascade.{Cascade}
use Rattle.cascade.specs.Related.{SameStyle}
use Rattle.cascade.specs.Row.{style_row_width, style_at, RowFine}
use Rattle.page.specs.Path.{Path}
use Rattle.styles.specs.declared.settings.Settings.{Settings}
use Rattle.styles.specs.Computed.{computed_style}
use Rattle.styles.specs.Said.{Rules}
use Rattle.styles.specs.Says.{Says}
use Rattle.styles.specs.Lent.{SheetTexts}
use Rattle.styling.specs.StyleAnswer.{StyleLeft}

-- the row that is left, and the texts
abbrev pub row_left : StyleLeft → List ℕ
row_left l = take style_row_width l.row

abbrev pub texts_left : StyleLeft → List ℕ
texts_left l = take l.answer.texts l.texts

-- the row says the computed style, which excludes "invented specificities or stopping places, one fixed style row, an engine that writes no rows"
pub record RowSays (c : Cascade) (settings : Settings) (s : SheetTexts) (p : Path) (l : StyleLeft) : Type 0 where
  -- the rules of the three sheets, as they are read from their texts
  pub sheets : Rules RuleSet
  pub read : sheets_of s.agent s.user s.author ≡ rules sheets.agent sheets.user sheets.author
  -- every number is that of the computed style, a content's start and length name its text, and they lie within the texts that were filled
  pub says : SameStyle (Says (texts_left l)) (style_at (row_left l)) (computed_style c sheets settings p)
  -- "Slots unfilled .. are zeros": each slot is as the writer of slots leaves it
  pub fine : RowFine (row_left l)
  pub within : l.answer.texts ≤ length l.texts
