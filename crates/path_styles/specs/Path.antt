-- What a style call keeps of three sheets, and what going down a path asks of the stores and leaves in them.
use Rattle.std.specs.Prelude.{ℕ, ◌+◌, ◌*◌, ◌^◌, ◌≤◌, ◌<◌, ◌≡◌, List, length, take, drop}
use Rattle.combinators.specs.LeastLengths.{bracket_least, number_least}
use Rattle.combinators.specs.declared.lent.Stores.{Stores}
use Rattle.syntax.specs.declared.styles.Value.{Value}
use Rattle.page.specs.declared.lent.Page as code
use Rattle.page.specs.Path.{Element, Path}
use Rattle.styles.specs.Room.{values_of, values_along, attributes_along}
use Rattle.styles.specs.Said.{Rules, StyledRule}
use Rattle.rule_styles.specs.Placing.{sheet_text, rules_kept}
use Rattle.path_styles.specs.Tops.{RightTops, sheet_selectors, TextsIn}
use Rattle.path_styles.specs.declared.tops.ReadySheet.{ReadySheet}
use Rattle.path_styles.specs.Tops.{ReadySheets}

-- ---- the rules of a sheet, and of three, with the styles that are kept for them
unfoldable pub kept_sheet : List ℕ → List ℕ → List ℕ → ℕ → ReadySheet → List (StyledRule Value)
kept_sheet rows tokens texts end s =
    rules_kept (sheet_text texts s.styled.rules.from end) s.styled.rules.count (drop s.styled.rules.place rows) (drop s.styled.styles tokens)

unfoldable pub kept_sheets : List ℕ → List ℕ → List ℕ → ReadySheets → Rules (StyledRule Value)
kept_sheets rows tokens texts s =
    record {
      agent = kept_sheet rows tokens texts s.sheets.end s.sheets.agent;
      user = kept_sheet rows tokens texts s.sheets.end s.sheets.user;
      author = kept_sheet rows tokens texts s.sheets.end s.sheets.author;
    }

-- ---- buffers that are the same as far as the call keeps something there
pub record SameKept (s : ReadySheets) (rows tokens texts rows' tokens' texts' : List ℕ) : Type 0 where
  pub same_rows : take s.rows rows' ≡ take s.rows rows
  pub same-tokens : take s.behind tokens' ≡ take s.behind tokens
  pub same-texts : take s.sheets.end texts' ≡ take s.sheets.end texts

-- ---- the numbers of the selectors of three sheets decide on a row and on its ancestors
pub record SheetsTops (s : ReadySheets) (nodes attributes text : List ℕ) (row : ℕ) (rows tokens texts : List ℕ) : Type 0 where
  pub agent-tops : RightTops nodes attributes text row (sheet_selectors rows texts s.sheets.end s.sheets.agent.styled.rules) (drop s.sheets.agent.tops tokens)
  pub user-tops : RightTops nodes attributes text row (sheet_selectors rows texts s.sheets.end s.sheets.user.styled.rules) (drop s.sheets.user.tops tokens)
  pub author-tops : RightTops nodes attributes text row (sheet_selectors rows texts s.sheets.end s.sheets.author.styled.rules) (drop s.sheets.author.tops tokens)

-- what is kept lies there: it stays the same whatever stands behind it
pub record Steady (s : ReadySheets) (nodes attributes text : List ℕ) (row : ℕ) (rows tokens texts : List ℕ) : Type 0 where
  pub kept : (rows' tokens' texts' : List ℕ) → SameKept s rows tokens texts rows' tokens' texts' → kept_sheets rows' tokens' texts' s ≡ kept_sheets rows tokens texts s
  pub tops : (rows' tokens' texts' : List ℕ) → SameKept s rows tokens texts rows' tokens' texts' → SheetsTops s nodes attributes text row rows' tokens' texts'
  pub agent-in : TextsIn texts s.sheets.end s.sheets.agent.styled.rules
  pub user-in : TextsIn texts s.sheets.end s.sheets.user.styled.rules
  pub author-in : TextsIn texts s.sheets.end s.sheets.author.styled.rules

-- ---- room behind what is kept for the attributes of an element, and of all elements of a path, whose contents begin behind the fill
pub record ElementRoom (s : ReadySheets) (e : Element) (fill : ℕ) (rows tokens brackets texts : List ℕ) : Type 0 where
  pub for-rules : s.rows + number_least (values_of e.attributes) ≤ length rows
  pub for-tokens : s.behind + number_least (values_of e.attributes) ≤ length tokens
  pub for-brackets : bracket_least (values_of e.attributes) ≤ length brackets
  pub for-texts : s.sheets.end + (fill + values_of e.attributes + 2 * length e.attributes) ≤ length texts
  pub bits : fill + values_of e.attributes + 2 * length e.attributes < 2 ^ 32

-- as much of it as colours need
pub record EarlyRoom (s : ReadySheets) (e : Element) (fill : ℕ) (tokens brackets texts : List ℕ) : Type 0 where
  pub for-tokens : s.behind + number_least (values_of e.attributes) ≤ length tokens
  pub for-brackets : bracket_least (values_of e.attributes) ≤ length brackets
  pub for-texts : s.sheets.end + (fill + values_of e.attributes + 2 * length e.attributes) ≤ length texts
  pub bits : fill + values_of e.attributes + 2 * length e.attributes < 2 ^ 32

pub record PathRoom (s : ReadySheets) (p : Path) (rows tokens brackets texts : List ℕ) : Type 0 where
  pub for-rules : s.rows + number_least (values_along p) ≤ length rows
  pub for-tokens : s.behind + number_least (values_along p) ≤ length tokens
  pub for-brackets : bracket_least (values_along p) ≤ length brackets
  pub for-texts : s.sheets.end + (s.fill + values_along p + 2 * attributes_along p) ≤ length texts
  pub bits : s.fill + values_along p + 2 * attributes_along p < 2 ^ 32

-- ---- the same of what is lent
abbrev pub kept_sheets_of : ReadySheets → Stores → Rules (StyledRule Value)
kept_sheets_of s a = kept_sheets a.rules.now a.tokens.now a.texts.now s

abbrev pub SameKeptOf : ReadySheets → Stores → Stores → Type 0
SameKeptOf s a b = SameKept s a.rules.now a.tokens.now a.texts.now b.rules.now b.tokens.now b.texts.now

abbrev pub SteadyOf : ReadySheets → code.Page → ℕ → Stores → Type 0
SteadyOf s g row a = Steady s g.nodes.now g.attributes.now g.text.now row a.rules.now a.tokens.now a.texts.now

abbrev pub ElementRoomOf : ReadySheets → Element → ℕ → Stores → Type 0
ElementRoomOf s e fill a = ElementRoom s e fill a.rules.now a.tokens.now a.brackets.now a.texts.now

abbrev pub PathRoomOf : ReadySheets → Path → Stores → Type 0
PathRoomOf s p a = PathRoom s p a.rules.now a.tokens.now a.brackets.now a.texts.now
