-- One number for each selector of the sheets of a call, found once, that decides its last descendant combinator on all rows of the path; and where these numbers lie: behind the styles that
-- the call keeps, in reading order.
use Rattle.std.specs.Prelude.{ℕ, ◌+◌, ◌≤◌, List, [], ◌∷◌, ◌++◌, length, get_or, drop}
use Rattle.syntax.specs.RuleLayout.{read_rule}
use Rattle.syntax.specs.Selector.{Selector}
use Rattle.syntax.specs.Stream.{read_many}
use Rattle.origins.specs.declared.reading.SheetRules.{SheetRules}
use Rattle.page.specs.declared.lent.Page as code
use Rattle.matching.specs.Topmost.{selector_number, RightNumber}
use Rattle.rule_styles.specs.Placing.{sheet_text, rules_selectors}
use Rattle.rule_styles.specs.Held.{StyledSheets}
use Rattle.rule_styles.specs.declared.styled.KeptSheets.{KeptSheets}
use Rattle.path_styles.specs.declared.tops.ReadySheet.{ReadySheet}

abbrev pub top_width : ℕ
top_width = 1

module _ (nodes attributes text : List ℕ) (row : ℕ) where
  -- the numbers of selectors
  unfoldable pub selectors_tops : List Selector → List ℕ
  selectors_tops [] = []
  selectors_tops (s ∷ ss) = selector_number nodes attributes text row s.components ∷ selectors_tops ss

  -- the numbers at the start of a stream decide for selectors, on the row and on its ancestors
  unfoldable pub RightTops : List Selector → List ℕ → Type 0
  RightTops [] t = Unit
  RightTops (s ∷ ss) t = RightNumber nodes attributes text s.components row (get_or t 0 0) × RightTops ss (drop top_width t)

-- the same of a page that is lent
abbrev pub selectors_tops_of : code.Page → ℕ → List Selector → List ℕ
selectors_tops_of g row = selectors_tops g.nodes.now g.attributes.now g.text.now row

abbrev pub RightTopsOf : code.Page → ℕ → List Selector → List ℕ → Type 0
RightTopsOf g row = RightTops g.nodes.now g.attributes.now g.text.now row

-- ---- the selectors of a sheet, and of three
unfoldable pub sheet_selectors : List ℕ → List ℕ → ℕ → SheetRules → List Selector
sheet_selectors rows texts end x =
    rules_selectors (read_many (read_rule (sheet_text texts x.from end)) x.count (drop x.place rows)).value

unfoldable pub sheets_selectors : List ℕ → List ℕ → StyledSheets → List Selector
sheets_selectors rows texts v =
    sheet_selectors rows texts v.sheets.end v.sheets.agent.rules
    ++ (sheet_selectors rows texts v.sheets.end v.sheets.user.rules ++ sheet_selectors rows texts v.sheets.end v.sheets.author.rules)

-- the texts of a sheet's rules lie in the store
pub record TextsIn (texts : List ℕ) (end : ℕ) (x : SheetRules) : Type 0 where
  pub begins : x.from ≤ end
  pub ends : end ≤ length texts

-- room for n numbers from a place on
pub record TopsRoom (tokens : List ℕ) (place n : ℕ) : Type 0 where
  pub room : place + n ≤ length tokens

-- texts that lie in the store, and room for the numbers of three sheets
pub record SheetsTopsRoom (rows tokens texts : List ℕ) (v : StyledSheets) : Type 0 where
  pub agent-in : TextsIn texts v.sheets.end v.sheets.agent.rules
  pub user-in : TextsIn texts v.sheets.end v.sheets.user.rules
  pub author-in : TextsIn texts v.sheets.end v.sheets.author.rules
  pub room : v.behind + length (sheets_selectors rows texts v) ≤ length tokens

-- where all of it lies: the numbers of the agent's selectors behind the styles, the user's and the author's from a place on each, and the end
abbrev pub ReadySheets : Type 0
ReadySheets = KeptSheets ReadySheet

unfoldable pub ready_places : StyledSheets → ℕ → ℕ → ℕ → ReadySheets
ready_places v user author behind =
    record {
      sheets =
          record {
            agent = record { styled = v.sheets.agent; tops = v.behind };
            user = record { styled = v.sheets.user; tops = user };
            author = record { styled = v.sheets.author; tops = author };
            end = v.sheets.end;
          };
      rows = v.rows;
      behind = behind;
      fill = v.fill;
    }

-- one behind the other, with so many selectors of each sheet
unfoldable pub ready_counts : StyledSheets → ℕ → ℕ → ℕ → ReadySheets
ready_counts v a u w = ready_places v (v.behind + a) (v.behind + a + u) (v.behind + a + u + w)

unfoldable pub ready_sheets : List ℕ → List ℕ → StyledSheets → ReadySheets
ready_sheets rows texts v =
    ready_counts v (length (sheet_selectors rows texts v.sheets.end v.sheets.agent.rules)) (length (sheet_selectors rows texts v.sheets.end v.sheets.user.rules))
    (length (sheet_selectors rows texts v.sheets.end v.sheets.author.rules))
