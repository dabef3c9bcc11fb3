-- How many numbers a selector and a rule take; where their texts start does not matter.
use Rattle.std.specs.Prelude.{ℕ, ◌+◌, ◌*◌, List, [], ◌∷◌, length}
use Rattle.syntax.specs.Layout.{declaration_width}
use Rattle.syntax.specs.RuleLayout.{component_width, selector_head, rule_head}
use Rattle.syntax.specs.Selector.{Selector, RuleSet}

-- the sizes of a list of values, together
unfoldable pub sizes : {A : Type 0} → (A → ℕ) → List A → ℕ
sizes n [] = 0
sizes n (a ∷ xs) = n a + sizes n xs

unfoldable pub selector_size : Selector → ℕ
selector_size s = selector_head + component_width * length s.components

unfoldable pub rule_size : RuleSet → ℕ
rule_size r = rule_head + sizes selector_size r.selectors + declaration_width * length r.declarations
