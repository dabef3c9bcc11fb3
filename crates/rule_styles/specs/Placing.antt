-- The styles of rules in numbers, made once for a call: contents are copied behind one another, and each style says where its own lies.
use Rattle.std.specs.Prelude.{ℕ, zero, suc, ◌+◌, ◌-◌, ◌/◌, ◌≤◌, List, [], ◌∷◌, ◌++◌, map, length, get_or, take, drop}
use Rattle.combinators.specs.Choice.{pick, is}
use Rattle.combinators.specs.Part.{part}
use Rattle.syntax.specs.Layout.{content_slot, style_width, numbers_at, row_of_numbers}
use Rattle.syntax.specs.RuleLayout.{read_rule}
use Rattle.syntax.specs.Selector.{Selector, RuleSet}
use Rattle.syntax.specs.Stream.{Read, read_many, texts_many}
use Rattle.syntax.specs.declared.styles.StyleNumbers.{StyleNumbers}
use Rattle.syntax.specs.declared.styles.Value.{Value}
use Rattle.cascade.specs.Record.{Styled}
use Rattle.origins.specs.Rules.{rule_styles}
use Rattle.styles.specs.Said.{StyledRule}
use Rattle.styles.specs.StyleCall.{in_numbers}
use Rattle.rule_styles.specs.Deciding.{deciding}

-- ---- the text that the rules of a sheet name their texts in: from the sheet's first text to the end of those of all sheets
unfoldable pub sheet_text : List ℕ → ℕ → ℕ → List ℕ
sheet_text texts from end = take (end - from) (drop from texts)

-- ---- styles in rows of numbers
unfoldable pub read_numbers : List ℕ → Read StyleNumbers
read_numbers t = record { value = numbers_at t; rest = drop style_width t }

-- the n styles at the start of a stream
unfoldable pub numbers_of : ℕ → List ℕ → List StyleNumbers
numbers_of n t = (read_many read_numbers n t).value

-- room for one, from a place on
pub record StyleRowRoom (rows : List ℕ) (at : ℕ) : Type 0 where
  pub room : at + style_width ≤ length rows

-- ---- one style: the text of a content, and the style where that lies at f
unfoldable pub content_of : List ℕ → StyleNumbers → List ℕ
content_of text x = pick (is x.slot content_slot) (part text x.value.number x.value.second) []

unfoldable pub placed_value : List ℕ → ℕ → StyleNumbers → Value
placed_value text f x = pick (is x.slot content_slot) (record { number = f; second = length (content_of text x); start = x.value.start }) x.value

unfoldable pub placed_numbers : List ℕ → ℕ → StyleNumbers → StyleNumbers
placed_numbers text f x = record { slot = x.slot; important = x.important; value = placed_value text f x }

-- many, whose contents lie end to end from f on
unfoldable pub contents_of : List ℕ → List StyleNumbers → List ℕ
contents_of text xs = texts_many (content_of text) xs

unfoldable pub placed_all : List ℕ → ℕ → List StyleNumbers → List StyleNumbers
placed_all text f [] = []
placed_all text f (x ∷ xs) = placed_numbers text f x ∷ placed_all text (f + length (content_of text x)) xs

-- ---- the rule at the start of a stream: its styles as they lie, its contents, and the rule with its styles placed
unfoldable pub lying_styles : List ℕ → List StyleNumbers
lying_styles t = numbers_of (length (rule_styles t) / style_width) (rule_styles t)

unfoldable pub contents_at : List ℕ → List ℕ → List ℕ
contents_at text t = contents_of text (lying_styles t)

unfoldable pub styles_placed : List ℕ → ℕ → List ℕ → List (Styled Value)
styles_placed text f t = map in_numbers (placed_all text f (lying_styles t))

unfoldable pub styled_rule : List ℕ → ℕ → List ℕ → StyledRule Value
styled_rule text f t = record { selectors = (read_rule text t).value.selectors; styles = styles_placed text f t }

-- ---- n rules from the start of a stream on, contents from f on
unfoldable pub rules_contents_at : List ℕ → ℕ → List ℕ → List ℕ
rules_contents_at text zero t = []
rules_contents_at text (suc n) t = contents_at text t ++ rules_contents_at text n (read_rule text t).rest

unfoldable pub styled_rules : List ℕ → ℕ → ℕ → List ℕ → List (StyledRule Value)
styled_rules text f zero t = []
styled_rules text f (suc n) t = styled_rule text f t ∷ styled_rules text (f + length (contents_at text t)) n (read_rule text t).rest

-- ---- the selectors of rules, in reading order
unfoldable pub rules_selectors : List RuleSet → List Selector
rules_selectors [] = []
rules_selectors (r ∷ rs) = r.selectors ++ rules_selectors rs

-- ---- the styles of rules as the call keeps them: for each rule how many decide, and their rows
abbrev pub kept_head : ℕ
kept_head = 1

abbrev pub kept_count : ℕ
kept_count = 0

unfoldable pub styled_row : Styled Value → List ℕ
styled_row x = row_of_numbers (record { slot = x.slot; important = x.important; value = x.value })

unfoldable pub kept : List (Styled Value) → List ℕ
kept xs = length xs ∷ texts_many styled_row xs

unfoldable pub kept_rules : List (StyledRule Value) → List ℕ
kept_rules rs = texts_many (λ (r : StyledRule Value). kept (deciding r.styles)) rs

-- read back
unfoldable pub read_styled : List ℕ → Read (Styled Value)
read_styled t = record { value = in_numbers (numbers_at t); rest = drop style_width t }

-- the styles in style rows
unfoldable pub styled_in : List (List ℕ) → List (Styled Value)
styled_in rows = map (λ (row : List ℕ). in_numbers (numbers_at row)) rows

unfoldable pub read_kept : List ℕ → Read (List (Styled Value))
read_kept t = read_many read_styled (get_or t kept_count 0) (drop kept_head t)

-- n rules, whose selectors are read from their rows and whose styles from those that the call keeps
unfoldable pub rules_kept : List ℕ → ℕ → List ℕ → List ℕ → List (StyledRule Value)
rules_kept text zero t styles = []
rules_kept text (suc n) t styles =
    record { selectors = (read_rule text t).value.selectors; styles = (read_kept styles).value } ∷ rules_kept text n (read_rule text t).rest (read_kept styles).rest
