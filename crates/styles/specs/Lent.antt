-- What a call is lent to read, beside a page: three sheets.
use Rattle.std.specs.Prelude.{ℕ, List}
use Rattle.combinators.specs.declared.lent.SheetTexts as texts

-- the bytes of the sheets
pub record SheetTexts : Type 0 where
  pub agent : List ℕ
  pub user : List ℕ
  pub author : List ℕ

-- what the struct of the code refers to
abbrev pub sheets_in : texts.SheetTexts → SheetTexts
sheets_in s = record { agent = s.agent.now; user = s.user.now; author = s.author.now }
