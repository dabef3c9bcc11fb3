-- What a call with three sheets asks of them and of its stores.
use Rattle.std.specs.Prelude.{ℕ, ◌+◌, ◌≡◌, Bool, false, List, ltb, length}
use Rattle.combinators.specs.Choice.{or, and}
use Rattle.combinators.specs.LeastLengths.{Least}
use Rattle.characters.specs.Utf8.{valid}
use Rattle.sheets.specs.SheetAnswer.{sheet_limit}

-- ---- texts: one too long, and all of them UTF-8
unfoldable pub any_too_long : ℕ → ℕ → ℕ → Bool
any_too_long agent user author = or (ltb sheet_limit agent) (or (ltb sheet_limit user) (ltb sheet_limit author))

unfoldable pub all_valid : List ℕ → List ℕ → List ℕ → Bool
all_valid agent user author = and (valid agent) (and (valid user) (valid author))

-- ---- no text too long, and stores of the least lengths for all texts together
pub record Lent (agent user author rules tokens brackets texts : List ℕ) : Type 0 where
  pub within : any_too_long (length agent) (length user) (length author) ≡ false
  pub least : Least (length agent + length user + length author) (length rules) (length tokens) (length brackets) (length texts)
