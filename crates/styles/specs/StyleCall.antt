-- The row of a style call: contents are starts and lengths in its text store, which holds "only content texts, a style call's sheets first, then
-- `style` attributes down the path".
use Rattle.std.specs.Prelude.{ℕ, ◌+◌, List, [], ◌∷◌, ◌++◌, length}
use Rattle.syntax.specs.Layout.{style_text, style_texts, numbers_from}
use Rattle.syntax.specs.Selector.{RuleSet}
use Rattle.syntax.specs.Stream.{texts_many}
use Rattle.syntax.specs.Style.{StyleDecl}
use Rattle.syntax.specs.declared.styles.Value.{Value}
use Rattle.syntax.specs.declared.styles.StyleNumbers.{StyleNumbers}
use Rattle.cascade.specs.declared.slots.Cascade.{Cascade}
use Rattle.cascade.specs.Record.{Styled, AttributeStyle, Sources}
use Rattle.cascade.specs.Row.{row_of}
use Rattle.page.specs.Path.{Attribute, Element, Path}
use Rattle.styles.specs.declared.settings.Settings.{Settings}
use Rattle.styles.specs.Said.{Rules, StyledRule, rule_styles, attribute_styles, attribute_says, counted_attributes, sources_from}
use Rattle.styles.specs.Computed.{cascaded}

-- ---- the texts, in the order of the store
unfoldable pub rule_contents : RuleSet → List ℕ
rule_contents r = style_texts (rule_styles r)

unfoldable pub rules_contents : List RuleSet → List ℕ
rules_contents rs = texts_many rule_contents rs

unfoldable pub sheets_contents : Rules RuleSet → List ℕ
sheets_contents rules = rules_contents rules.agent ++ (rules_contents rules.user ++ rules_contents rules.author)

unfoldable pub attribute_contents : Attribute → List ℕ
attribute_contents a = style_texts (attribute_styles a)

unfoldable pub attributes_contents : List Attribute → List ℕ
attributes_contents xs = texts_many attribute_contents xs

-- with the switch off there are none
unfoldable pub inline_contents : Settings → Element → List ℕ
inline_contents settings e = attributes_contents (counted_attributes settings e)

-- those of a path, from the top
unfoldable pub path_contents : Settings → Path → List ℕ
path_contents settings [] = []
path_contents settings (e ∷ up) = path_contents settings up ++ inline_contents settings e

-- ---- styles in numbers, whose texts lie end to end from f on
unfoldable pub in_numbers : StyleNumbers → Styled Value
in_numbers x = record { slot = x.slot; important = x.important; value = x.value }

unfoldable pub placed_styles : ℕ → List StyleDecl → List (Styled Value)
placed_styles f [] = []
placed_styles f (d ∷ ds) = in_numbers (numbers_from f d) ∷ placed_styles (f + length (style_text d)) ds

unfoldable pub placed_rules : ℕ → List RuleSet → List (StyledRule Value)
placed_rules f [] = []
placed_rules f (r ∷ rs) =
    record { selectors = r.selectors; styles = placed_styles f (rule_styles r) } ∷ placed_rules (f + length (rule_contents r)) rs

-- the rules of three sheets, from 0 on
unfoldable pub placed_sheets : Rules RuleSet → Rules (StyledRule Value)
placed_sheets rules =
    let user = length (rules_contents rules.agent) in
    let author = user + length (rules_contents rules.user) in
    record { agent = placed_rules 0 rules.agent; user = placed_rules user rules.user; author = placed_rules author rules.author }

unfoldable pub placed_attributes : ℕ → List Attribute → List (AttributeStyle Value)
placed_attributes f [] = []
placed_attributes f (a ∷ others) = attribute_says (placed_styles f) a ++ placed_attributes (f + length (attribute_contents a)) others

-- ---- what is said of each element of a path, contents by their place: those of the sheets before `from`, those of the path from there on
unfoldable pub placed_from : Rules (StyledRule Value) → ℕ → Settings → Path → List (Sources Value)
placed_from rules from settings [] = []
placed_from rules from settings (e ∷ up) =
    let inline = from + length (path_contents settings up) in
    sources_from rules (placed_attributes inline (counted_attributes settings e)) (e ∷ up) ∷ placed_from rules from settings up

unfoldable pub placed_along : Rules RuleSet → Settings → Path → List (Sources Value)
placed_along rules settings p = placed_from (placed_sheets rules) (length (sheets_contents rules)) settings p

-- ---- the store and the row of a style call
unfoldable pub call_store : Rules RuleSet → Settings → Path → List ℕ
call_store rules settings p = sheets_contents rules ++ path_contents settings p

unfoldable pub call_row : Cascade → Rules RuleSet → Settings → Path → List ℕ
call_row c rules settings p = row_of (cascaded c (placed_along rules settings p))
