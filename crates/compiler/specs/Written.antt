-- What is written of three sheets whose rules lie one behind the other in the rows and the text store.
use Rattle.std.specs.Prelude.{ℕ, ◌+◌, ◌≤◌, ◌<◌, List, ◌++◌, leb, length, take, drop}
use Rattle.std.proofs.lemmas.List.Edits.{sets}
use Rattle.combinators.specs.Choice.{pick}
use Rattle.origins.specs.Reading.{rules_from}
use Rattle.origins.specs.declared.reading.SheetRules.{SheetRules}
use Rattle.origins.specs.Reading.{SheetsRules}
use Rattle.syntax.specs.Style.{StyleDecl}
use Rattle.compiled.specs.Number.{number_limit}
use Rattle.compiled.specs.Sheet.{CompiledSelector}
use Rattle.compiler.specs.Selectors.{selectors_of}
use Rattle.compiler.specs.Writing.{RulesLent}

-- the selectors of three sheets that lie there
unfoldable pub selectors_from : List ℕ → List ℕ → SheetsRules → List (CompiledSelector StyleDecl)
selectors_from rows texts s = selectors_of (rules_from rows texts s.agent) (rules_from rows texts s.user) (rules_from rows texts s.author)

-- the texts of a sheet lie in the text store, and its rules can be asked for their styles
pub record SheetLying (rows texts tokens : List ℕ) (s : SheetRules) : Type 0 where
  pub texts-in : s.from ≤ length texts
  pub lent : RulesLent s.count (drop s.place rows) tokens

-- the same of three sheets, and a number can tell how many selectors there are
pub record Lying (rows texts tokens : List ℕ) (s : SheetsRules) : Type 0 where
  pub agent-lies : SheetLying rows texts tokens s.agent
  pub user-lies : SheetLying rows texts tokens s.user
  pub author-lies : SheetLying rows texts tokens s.author
  pub few : length (selectors_from rows texts s) < number_limit

-- the fill behind bytes that are written from 0 on into so much room: one more than there is where they do not fit
unfoldable pub fill_of : ℕ → List ℕ → ℕ
fill_of room bytes = pick (leb (length bytes) room) (length bytes) (room + 1)

-- a buffer with bytes at its start, as far as there is room
unfoldable pub written_in : ℕ → List ℕ → List ℕ → List ℕ
written_in room bytes l = sets (take room l) 0 bytes ++ drop room l
