-- Rules in the order of the code, and the room that reading them asks for.
use Rattle.std.specs.Prelude.{ℕ, ◌+◌, ◌*◌, ◌^◌, ◌≤◌, ◌<◌, List, map, length}
use Rattle.lexer.specs.TokenRow.{token_width}
use Rattle.syntax.specs.Declaration.{Declaration}
use Rattle.syntax.specs.Layout.{declaration_width}
use Rattle.declarations.specs.Rules.{starts_at}
use Rattle.selectors.specs.Outcome.{Outcome, behind}
use Rattle.sheets.specs.Sheet.{block_of}
use Rattle.combinators.specs.Store.{Zeros}

-- ---- the declarations of a rule whose text starts at a byte
unfoldable pub block_at : ℕ → List ℕ → ℕ → Outcome (List Declaration)
block_at at t n = behind 0 (block_of t n) (map (starts_at at))

-- ---- room: all stores are zero where something may be written

-- for statements that are read and dropped
pub record WorkRoom (s tokens brackets store : List ℕ) (fill : ℕ) : Type 0 where
  pub tokens-zeros : Zeros tokens 0
  pub brackets-zeros : Zeros brackets 0
  pub store-zeros : Zeros store fill
  pub for-tokens : token_width * length s ≤ length tokens
  pub for-brackets : length s ≤ length brackets
  pub for-texts : fill + length s + 10 ≤ length store
  pub text-bits : fill + length s + 10 < 2 ^ 32

-- for the block of a rule
pub record BlockRoom (s : List ℕ) (n at : ℕ) (rules : List ℕ) (place : ℕ) (tokens brackets store : List ℕ) (fill : ℕ) : Type 0 where
  pub within : n ≤ length s
  pub rules-zeros : Zeros rules place
  pub tokens-zeros : Zeros tokens 0
  pub brackets-zeros : Zeros brackets 0
  pub store-zeros : Zeros store fill
  pub for-rules : place + declaration_width * length s ≤ length rules + declaration_width * n
  pub row-bits : length rules < 2 ^ 64
  pub for-tokens : token_width * length s ≤ length tokens
  pub for-brackets : length s ≤ length brackets
  pub for-texts : fill + length s + 2 ≤ length store + n
  pub text-bits : fill + length s + 2 < 2 ^ 32 + n
  pub start-bits : at + length s < 2 ^ 32

-- for a rule: eight numbers for each byte that is read (`rule_width`)
abbrev pub rule_width : ℕ
rule_width = 8

pub record RuleRoom (s : List ℕ) (at : ℕ) (rules : List ℕ) (place : ℕ) (tokens brackets store : List ℕ) (fill : ℕ) : Type 0 where
  pub rules-zeros : Zeros rules place
  pub for-rules : place + (declaration_width * length s + rule_width) ≤ length rules
  pub row-bits : length rules < 2 ^ 64
  pub start-bits : at + length s < 2 ^ 32
  pub work : WorkRoom s tokens brackets store fill

-- for a sheet: all stores are zero
pub record SheetRoom (s rules tokens brackets store : List ℕ) : Type 0 where
  pub rules-zeros : Zeros rules 0
  pub for-rules : rule_width * length s + rule_width ≤ length rules
  pub row-bits : length rules < 2 ^ 64
  pub work : WorkRoom s tokens brackets store 0
