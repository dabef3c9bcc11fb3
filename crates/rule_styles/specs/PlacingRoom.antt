-- What placing the styles of rules asks for: room in the stores, and numbers that fit.
use Rattle.std.specs.Prelude.{ℕ, zero, suc, ◌+◌, ◌*◌, ◌^◌, ◌≤◌, ◌<◌, List, length, get_or}
use Rattle.syntax.specs.Layout.{declaration_width, style_width}
use Rattle.syntax.specs.RuleLayout.{rule_head, rule_declarations, read_rule}
use Rattle.syntax.specs.Stream.{read_many}
use Rattle.cascade.specs.Record.{slot_count}
use Rattle.combinators.specs.Store.{Zeros}
use Rattle.origins.specs.Rules.{selectors_read}
use Rattle.rule_styles.specs.Placing.{kept_head}

-- room for contents from a fill on, whose places are numbers of 32 bits
pub record ContentsRoom (store : List ℕ) (fill : ℕ) (contents : List ℕ) : Type 0 where
  pub room : fill + length contents ≤ length store
  pub bits : fill + length contents < 2 ^ 32

-- so many style rows from a place on
pub record StyleRowsRoom (rows : List ℕ) (at count : ℕ) : Type 0 where
  pub room : at + style_width * count ≤ length rows

-- ---- what is kept of a rule, behind which its styles are made
-- two styles for each slot at most
abbrev pub kept_width : ℕ
kept_width = 2 * slot_count * style_width

-- so many styles from a place on, behind room for what is kept of them
pub record KeptRoom (rows : List ℕ) (place at count : ℕ) : Type 0 where
  pub apart : place + kept_head + kept_width ≤ at
  pub inside : at + style_width * count ≤ length rows

-- the rule at the start of a stream, with room for its styles in a store that is zero from a place on
pub record RuleKeptRoom (t tokens : List ℕ) (place : ℕ) : Type 0 where
  pub texts : List ℕ
  pub declared : declaration_width * get_or t rule_declarations 0 ≤ length (selectors_read texts t).rest
  pub styled : place + kept_head + kept_width + style_width * (get_or t rule_declarations 0 + 1) ≤ length tokens
  pub zeros : Zeros tokens place

-- ---- the rule at the start of a stream is there: its head, and its declarations behind its selectors
pub record RuleLies (text t : List ℕ) : Type 0 where
  pub head : rule_head ≤ length t
  pub declared : declaration_width * get_or t rule_declarations 0 ≤ length (selectors_read text t).rest

-- the first n rules of a stream, one at a time
unfoldable pub EachLies : List ℕ → ℕ → List ℕ → Type 0
EachLies text zero t = Unit
EachLies text (suc n) t = RuleLies text t × EachLies text n (read_rule text t).rest

-- they are there, and the store is zero from a place on, with room for as many numbers as they take and for what is made behind those, but for the head of a rule: what is
-- kept of a rule takes no more numbers than the rule, and what is made of one takes the place of its head too
pub record RulesKeptRoom (text : List ℕ) (n : ℕ) (t tokens : List ℕ) (place : ℕ) : Type 0 where
  pub lie : EachLies text n t
  pub room : place + kept_head + kept_width + style_width + length t ≤ length tokens + rule_head + length (read_many (read_rule text) n t).rest
  pub zeros : Zeros tokens place
