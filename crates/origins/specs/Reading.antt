-- The three sheets as they are read, one behind the other: their rules, or the first place where the crate panics.
use Rattle.std.specs.Prelude.{ℕ, ◌+◌, ◌*◌, ◌^◌, ◌≤◌, ◌<◌, ◌≡◌, Result, Ok, Err, List, [], ◌++◌, length, drop}
use Rattle.combinators.specs.LeastLengths.{text_least, bracket_least, number_least}
use Rattle.lexer.specs.TokenRow.{token_width}
use Rattle.syntax.specs.RuleLayout.{rule_rows, rule_texts, rules_at}
use Rattle.syntax.specs.Selector.{RuleSet}
use Rattle.selectors.specs.Outcome.{Outcome, on_outcome}
use Rattle.sheets.specs.Rules.{rule_width}
use Rattle.sheets.specs.Sheet.{sheet_of}
use Rattle.sheets.specs.SheetAnswer.{sheet_limit}
use Rattle.combinators.specs.Store.{Zeros, wiped}
use Rattle.std.proofs.lemmas.List.Edits.{sets}
use Rattle.selectors.specs.declared.readings.Panic.{Panic}
use Rattle.selectors.specs.declared.readings.Read.{Read}
use Rattle.origins.specs.declared.reading.SheetRules.{SheetRules}
use Rattle.origins.specs.declared.reading.Sheets as lying
use Rattle.origins.specs.declared.reading.SheetPanic.{SheetPanic}

-- "the text (0 agent, 1 user, 2 author ..)"
abbrev pub agent_text : ℕ
agent_text = 0

abbrev pub user_text : ℕ
user_text = 1

abbrev pub author_text : ℕ
author_text = 2

-- ---- one sheet

-- eight numbers for each byte, texts no longer than the sheet but for two bytes, and none of an empty sheet
pub record RulesSize (s : List ℕ) (count numbers bytes : ℕ) : Type 0 where
  pub counted : count ≤ length s
  pub wide : numbers ≤ rule_width * length s
  pub short : bytes ≤ length s + 2
  pub nothing : length s ≡ 0 → bytes ≡ 0

unfoldable pub RulesBounds : {E : Type 0} → List ℕ → Result Read E → Type 0
RulesBounds s (Ok read) = RulesSize s read.count read.numbers read.text
RulesBounds s (Err error) = Unit

-- a panic told with the number of its sheet
unfoldable pub in_sheet : ℕ → Result Read Panic → Result Read SheetPanic
in_sheet which (Ok read) = Ok read
in_sheet which (Err panic) = Err (record { text = which; place = panic.place })

-- a store that sheets fill up to a place, and what is written of the next behind it: where the crate panics, nothing is left of any
unfoldable pub stored_behind : (List RuleSet → List ℕ) → Outcome (List RuleSet) → ℕ → List ℕ → List ℕ
stored_behind w o place l = on_outcome o (λ _ rs. sets l place (w rs)) l (λ p. wiped 0 place l)

-- what is asked of the stores, which are zero from a place and a fill on
pub record ReadRoom (s rules : List ℕ) (place : ℕ) (tokens brackets texts : List ℕ) (fill : ℕ) : Type 0 where
  pub rules-zeros : Zeros rules place
  pub tokens-zeros : Zeros tokens 0
  pub brackets-zeros : Zeros brackets 0
  pub texts-zeros : Zeros texts fill
  pub for-rules : place + (rule_width * length s + rule_width) ≤ length rules
  pub row-bits : length rules < 2 ^ 64
  pub for-tokens : token_width * length s ≤ length tokens
  pub for-brackets : length s ≤ length brackets
  pub for-texts : fill + length s + 10 ≤ length texts
  pub within : length s ≤ sheet_limit

-- ---- three sheets
pub data Sheets : Type 0 where
  rules : List RuleSet → List RuleSet → List RuleSet → Sheets
  panicked : ℕ → ℕ → Sheets

-- a sheet, and those behind it. Reading a sheet never fails (`sheet-never-fails`): what is said of that is said of nothing.
unfoldable pub and_then : ℕ → Outcome (List RuleSet) → (List RuleSet → Sheets) → Sheets
and_then which o next = on_outcome o (λ _ rs. next rs) (next []) (λ p. panicked which p)

-- "agent is read first"
unfoldable pub sheets_of : List ℕ → List ℕ → List ℕ → Sheets
sheets_of agent user author =
    and_then agent_text (sheet_of agent) (λ a. and_then user_text (sheet_of user) (λ u. and_then author_text (sheet_of author) (λ w. rules a u w)))

-- what is written of them: rows in the rules store, each sheet's with places in its own part of the text store; and their texts
unfoldable pub sheets_rows : Sheets → List ℕ
sheets_rows (rules a u w) = rule_rows 0 a ++ (rule_rows 0 u ++ rule_rows 0 w)
sheets_rows (panicked which p) = []

unfoldable pub sheets_texts : Sheets → List ℕ
sheets_texts (rules a u w) = rule_texts a ++ (rule_texts u ++ rule_texts w)
sheets_texts (panicked which p) = []

-- where the rules of each sheet lie, and where the texts end
abbrev pub SheetsRules : Type 0
SheetsRules = lying.Sheets SheetRules

unfoldable pub sheets_rules : List RuleSet → List RuleSet → List RuleSet → SheetsRules
sheets_rules a u w =
    record {
      agent = record { count = length a; place = 0; from = 0 };
      user = record { count = length u; place = length (rule_rows 0 a); from = length (rule_texts a) };
      author = record { count = length w; place = length (rule_rows 0 a) + length (rule_rows 0 u); from = length (rule_texts a) + length (rule_texts u) };
      end = length (rule_texts a) + length (rule_texts u) + length (rule_texts w);
    }

unfoldable pub sheets_answer : Sheets → Result SheetsRules SheetPanic
sheets_answer (rules a u w) = Ok (sheets_rules a u w)
sheets_answer (panicked which p) = Err (record { text = which; place = p })

-- the rules of a sheet that lie there
unfoldable pub rules_from : List ℕ → List ℕ → SheetRules → List RuleSet
rules_from rows texts s = rules_at (drop s.place rows) (drop s.from texts) s.count

-- stores that are zero throughout, of the least lengths for all texts together
pub record SheetsRoom (agent user author rules tokens brackets texts : List ℕ) : Type 0 where
  pub agent-within : length agent ≤ sheet_limit
  pub user-within : length user ≤ sheet_limit
  pub author-within : length author ≤ sheet_limit
  pub rules-zeros : Zeros rules 0
  pub tokens-zeros : Zeros tokens 0
  pub brackets-zeros : Zeros brackets 0
  pub texts-zeros : Zeros texts 0
  pub row-bits : length rules < 2 ^ 64
  pub for-rules : number_least (length agent + length user + length author) ≤ length rules
  pub for-tokens : number_least (length agent + length user + length author) ≤ length tokens
  pub for-brackets : bracket_least (length agent + length user + length author) ≤ length brackets
  pub for-texts : text_least (length agent + length user + length author) ≤ length texts
