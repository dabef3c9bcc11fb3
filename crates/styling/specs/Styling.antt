-- What the parts of a style call ask for.
use Rattle.std.specs.Prelude.{ℕ, ◌+◌, ◌*◌, ◌≤◌, ◌≡◌, false, List, length}
use Rattle.combinators.specs.LeastLengths.{Least}
use Rattle.combinators.specs.declared.lent.Stores.{Stores}
use Rattle.combinators.specs.declared.lent.SheetTexts as code
use Rattle.sheets.specs.SheetAnswer.{sheet_limit}
use Rattle.cascade.specs.Row.{style_row_width}
use Rattle.origins.specs.Checks.{any_too_long, Lent}
use Rattle.origins.specs.Reading.{SheetsRules}
use Rattle.page.specs.Accepted.{text_limit}
use Rattle.page.specs.Path.{Path}
use Rattle.styles.specs.Room.{values_along, attributes_along}
use Rattle.rule_styles.specs.Held.{SheetsHeld, PathHeld}
use Rattle.page.specs.Lent.{Page}
use Rattle.styles.specs.Lent.{SheetTexts}
use Rattle.styling.specs.StyleAnswer.{call_bytes}

-- no more bytes than three sheets may have
pub record FewBytes (n : ℕ) : Type 0 where
  pub few : n ≤ 3 * sheet_limit

-- contents behind a place
pub record ContentsIn (texts : List ℕ) (end fill : ℕ) : Type 0 where
  pub inside : end + fill ≤ length texts

-- sheets that were read, a row for the style, and room for the path of an element
pub record ReadRoom (s : SheetsRules) (p : Path) (out rules tokens brackets texts : List ℕ) : Type 0 where
  pub row : style_row_width ≤ length out
  pub held : SheetsHeld s rules tokens texts
  pub path : PathHeld held brackets p

-- a row for the style, and stores of the least lengths for the bytes of the sheets, for those of the values of a path and for twice its attributes
pub record CallLent (sheets : ℕ) (p : Path) (out rules tokens brackets texts : List ℕ) : Type 0 where
  pub row : style_row_width ≤ length out
  pub few : values_along p + 2 * attributes_along p ≤ 3 * text_limit
  pub least : Least (sheets + values_along p + 2 * attributes_along p) (length rules) (length tokens) (length brackets) (length texts)

-- no sheet too long, a row for the style, and stores of the least lengths for all that is lent
pub record AskedLent (s : SheetTexts) (g : Page) (out rules tokens brackets texts : List ℕ) : Type 0 where
  pub within : any_too_long (length s.agent) (length s.user) (length s.author) ≡ false
  pub row : style_row_width ≤ length out
  pub least : Least (call_bytes s g) (length rules) (length tokens) (length brackets) (length texts)

-- ---- the same of what is lent
abbrev pub LentOf : code.SheetTexts → Stores → Type 0
LentOf s a = Lent s.agent.now s.user.now s.author.now a.rules.now a.tokens.now a.brackets.now a.texts.now

abbrev pub ReadRoomOf : SheetsRules → Path → List ℕ → Stores → Type 0
ReadRoomOf s p out a = ReadRoom s p out a.rules.now a.tokens.now a.brackets.now a.texts.now

abbrev pub CallLentOf : code.SheetTexts → Path → List ℕ → Stores → Type 0
CallLentOf s p out a = CallLent (length s.agent.now + length s.user.now + length s.author.now) p out a.rules.now a.tokens.now a.brackets.now a.texts.now

abbrev pub AskedLentOf : SheetTexts → Page → List ℕ → Stores → Type 0
AskedLentOf s g out a = AskedLent s g out a.rules.now a.tokens.now a.brackets.now a.texts.now
