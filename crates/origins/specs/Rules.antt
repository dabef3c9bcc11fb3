-- Rules in rows: their parts and their styles, and what making those asks for.
use Rattle.std.specs.Prelude.{ℕ, zero, suc, ◌+◌, ◌*◌, ◌≤◌, List, [], length, get_or, drop}
use Rattle.syntax.specs.Layout.{declaration_width, style_width}
use Rattle.syntax.specs.RuleLayout.{rule_head, rule_selectors, rule_declarations, read_selector, read_rule}
use Rattle.syntax.specs.Selector.{Selector}
use Rattle.syntax.specs.Stream.{Read, read_many}
use Rattle.declarations.specs.StyleNumbers.{style_numbers}

-- the selectors of the rule at the start of a stream; its declarations lie behind them
unfoldable pub selectors_read : List ℕ → List ℕ → Read (List Selector)
selectors_read texts t = read_many (read_selector texts) (get_or t rule_selectors 0) (drop rule_head t)

-- the rows of its styles, which say where their texts lie and not what they are
unfoldable pub rule_styles : List ℕ → List ℕ
rule_styles t = style_numbers (selectors_read [] t).rest (get_or t rule_declarations 0)

-- what its styles ask for, in a store of l numbers: that its declarations lie there, and room for a style for each and one more
pub record RuleRoom (t : List ℕ) (l : ℕ) : Type 0 where
  pub texts : List ℕ
  pub declared : declaration_width * get_or t rule_declarations 0 ≤ length (selectors_read texts t).rest
  pub styled : style_width * (get_or t rule_declarations 0 + 1) ≤ l

-- the same of the first n rules of a stream, one at a time
unfoldable pub EachRoom : List ℕ → ℕ → List ℕ → ℕ → Type 0
EachRoom texts zero t l = Unit
EachRoom texts (suc n) t l = RuleRoom t l × EachRoom texts n (read_rule texts t).rest l

pub record RulesRoom (n : ℕ) (t : List ℕ) (l : ℕ) : Type 0 where
  pub texts : List ℕ
  pub each : EachRoom texts n t l
