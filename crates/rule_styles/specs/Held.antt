-- Three sheets that were read and lie in the stores of a call: their rules, and what the call keeps of them.
use Rattle.std.specs.Prelude.{ℕ, ◌+◌, ◌*◌, ◌^◌, ◌≤◌, ◌<◌, ◌≡◌, Ok, List, ◌++◌, length}
use Rattle.std.proofs.lemmas.List.Edits.{sets}
use Rattle.combinators.specs.LeastLengths.{text_least, bracket_least, number_least}
use Rattle.combinators.specs.Store.{cleared}
use Rattle.syntax.specs.RuleLayout.{rule_rows}
use Rattle.syntax.specs.Selector.{RuleSet}
use Rattle.origins.specs.Checks.{Lent}
use Rattle.origins.specs.Reading.{sheets_of, sheets_rows, sheets_texts, sheets_answer, rules_from}
use Rattle.origins.specs.Reading.{SheetsRules}
use Rattle.page.specs.Path.{Path}
use Rattle.styles.specs.Room.{values_along, attributes_along}
use Rattle.styles.specs.Said.{Rules}
use Rattle.styles.specs.StyleCall.{sheets_contents, placed_sheets}
use Rattle.rule_styles.specs.Placing.{kept_rules}
use Rattle.rule_styles.specs.declared.styled.KeptSheets.{KeptSheets}
use Rattle.rule_styles.specs.declared.styled.StyledSheet.{StyledSheet}

-- ---- the rules that lie there
unfoldable pub sheets_from : List ℕ → List ℕ → SheetsRules → Rules RuleSet
sheets_from rows texts s = record { agent = rules_from rows texts s.agent; user = rules_from rows texts s.user; author = rules_from rows texts s.author }

-- sheets lie there as `read_sheets` leaves them in stores that were cleared
pub record SheetsHeld (s : SheetsRules) (rows tokens texts : List ℕ) : Type 0 where
  pub agent : List ℕ
  pub user : List ℕ
  pub author : List ℕ
  pub rows₀ : List ℕ
  pub tokens₀ : List ℕ
  pub brackets₀ : List ℕ
  pub texts₀ : List ℕ
  pub lent : Lent agent user author rows₀ tokens₀ brackets₀ texts₀
  pub read : Ok s ≡ sheets_answer (sheets_of agent user author)
  pub rows_are : rows ≡ sets (cleared 0 rows₀) 0 (sheets_rows (sheets_of agent user author))
  pub tokens-are : tokens ≡ cleared 0 tokens₀
  pub texts-are : texts ≡ sets (cleared 0 texts₀) 0 (sheets_texts (sheets_of agent user author))

-- and stores for the bytes of a path beside those of the sheets
pub record PathHeld {s : SheetsRules} {rows tokens texts : List ℕ} (h : SheetsHeld s rows tokens texts) (brackets : List ℕ) (p : Path) : Type 0 where
  pub for-rules : number_least (length h.agent + length h.user + length h.author + values_along p) ≤ length rows
  pub for-tokens : number_least (length h.agent + length h.user + length h.author + values_along p) ≤ length tokens
  pub for-brackets : bracket_least (length h.agent + length h.user + length h.author + values_along p) ≤ length brackets
  pub for-texts : text_least (length h.agent + length h.user + length h.author + values_along p + 2 * attributes_along p) ≤ length texts
  pub bits : values_along p + 2 * attributes_along p < 2 ^ 31

-- ---- what is kept of them: the styles that decide, rule by rule
unfoldable pub sheets_kept : Rules RuleSet → List ℕ
sheets_kept rules =
    let p = placed_sheets rules in
    kept_rules p.agent ++ (kept_rules p.user ++ kept_rules p.author)

-- where all of it lies
abbrev pub StyledSheets : Type 0
StyledSheets = KeptSheets StyledSheet

unfoldable pub styled_places : SheetsRules → Rules RuleSet → StyledSheets
styled_places s rules =
    let p = placed_sheets rules in
    let user = length (kept_rules p.agent) in
    let author = user + length (kept_rules p.user) in
    record {
      sheets =
          record {
            agent = record { rules = s.agent; styles = 0 };
            user = record { rules = s.user; styles = user };
            author = record { rules = s.author; styles = author };
            end = s.end;
          };
      rows = length (rule_rows 0 rules.agent) + length (rule_rows 0 rules.user) + length (rule_rows 0 rules.author);
      behind = author + length (kept_rules p.author);
      fill = length (sheets_contents rules);
    }
