-- What the rules of sheets and the attributes of elements say, for values of any type: a computed style holds the styles themselves, a row three numbers for
-- each. `styled` takes the styles of a rule or of an attribute to the form that is asked for.
use Rattle.std.specs.Prelude.{ℕ, Bool, false, List, [], ◌∷◌, ◌++◌, map}
use Rattle.combinators.specs.Choice.{pick}
use Rattle.characters.specs.Literal.{text}
use Rattle.syntax.specs.Declaration.{Colour}
use Rattle.syntax.specs.Layout.{style_slot_of}
use Rattle.syntax.specs.RuleLayout.{pseudo_number}
use Rattle.syntax.specs.Selector.{Selector, RuleSet}
use Rattle.syntax.specs.Style as style
use Rattle.syntax.specs.Style.{Style, StyleValue, StyleDecl}
use Rattle.values.specs.Words.{Found, on_found}
use Rattle.declarations.specs.Attribute.{style_attribute, colour_attribute}
use Rattle.declarations.specs.Styles.{styles_of}
use Rattle.cascade.specs.Record.{Styled, RuleStyle, AttributeStyle, Sources}
use Rattle.cascade.specs.declared.specificity.Specificity.{Specificity}
use Rattle.page.specs.Path.{Attribute, Element, Path}
use Rattle.matching.specs.Matches.{is_named, matches}
use Rattle.matching.specs.Specificity.{specificity}
use Rattle.styles.specs.declared.settings.Settings.{Settings}

-- ---- the rules of three sheets; a rule with its styles
pub record Rules (A : Type 0) : Type 0 where
  pub agent : List A
  pub user : List A
  pub author : List A

pub record StyledRule (A : Type 0) : Type 0 where
  pub selectors : List Selector
  pub styles : List (Styled A)

-- the styles of a rule, which its selectors share
unfoldable pub rule_styles : RuleSet → List StyleDecl
rule_styles r = styles_of r.declarations

-- ---- what rules say of the element that a path begins with, in reading order
unfoldable pub rule_style : {A : Type 0} → ℕ → Specificity → Styled A → RuleStyle A
rule_style pseudo spec x = record { pseudo = pseudo; spec = spec; style = x }

unfoldable pub selector_says : {A : Type 0} → Path → List (Styled A) → Selector → List (RuleStyle A)
selector_says p ds s =
    pick (matches s.components p) (map (rule_style (pseudo_number s.pseudo) (specificity s.components)) ds) []

unfoldable pub selectors_say : {A : Type 0} → Path → List (Styled A) → List Selector → List (RuleStyle A)
selectors_say p ds [] = []
selectors_say p ds (s ∷ ss) = selector_says p ds s ++ selectors_say p ds ss

unfoldable pub rules_say : {A : Type 0} → Path → List (StyledRule A) → List (RuleStyle A)
rules_say p [] = []
rules_say p (r ∷ rs) = selectors_say p r.styles r.selectors ++ rules_say p rs

-- ---- the styles of an attribute: of `style` what it declares, of `color` and `bgcolor` a colour (S-3: "For inline styles the byte counts from the attribute's value;
-- for `color` and `bgcolor` it is 0.")
unfoldable pub colour_styles : (Colour → Style) → Found Colour → List StyleDecl
colour_styles slot c = on_found c (λ x. record { value = record { style = slot x; start = 0 }; important = false } ∷ []) []

unfoldable pub attribute_styles : Attribute → List StyleDecl
attribute_styles a =
    pick (is_named (text "style") a) (style_attribute a.value)
    (pick (is_named (text "color") a) (colour_styles style.colour (colour_attribute a.value))
    (pick (is_named (text "bgcolor") a) (colour_styles style.background (colour_attribute a.value))
    []))

-- what an attribute says
unfoldable pub attribute_style : {A : Type 0} → Bool → Styled A → AttributeStyle A
attribute_style is_style x = record { is_style = is_style; style = x }

unfoldable pub attribute_says : {A : Type 0} → (List StyleDecl → List (Styled A)) → Attribute → List (AttributeStyle A)
attribute_says styled a = map (attribute_style (is_named (text "style") a)) (styled (attribute_styles a))

-- the attributes that are looked at: "if document styles are on, `style`, `color`, `bgcolor` in attribute order"; those of other names say nothing (`attribute_styles`)
unfoldable pub counted_attributes : Settings → Element → List Attribute
counted_attributes settings e = pick settings.document_styles e.attributes []

-- ---- all that is said of the element that a path begins with
unfoldable pub sources_from : {A : Type 0} → Rules (StyledRule A) → List (AttributeStyle A) → Path → Sources A
sources_from rules attributes p =
    record { agent = rules_say p rules.agent; user = rules_say p rules.user; author = rules_say p rules.author; attributes = attributes }

-- ---- by the styles themselves, with their starts
unfoldable pub meant : StyleDecl → Styled StyleValue
meant d = record { slot = style_slot_of d.value.style; important = d.important; value = d.value }

unfoldable pub meant_rule : RuleSet → StyledRule StyleValue
meant_rule r = record { selectors = r.selectors; styles = map meant (rule_styles r) }

unfoldable pub meant_rules : Rules RuleSet → Rules (StyledRule StyleValue)
meant_rules rules =
    record { agent = map meant_rule rules.agent; user = map meant_rule rules.user; author = map meant_rule rules.author }

unfoldable pub attributes_say : List Attribute → List (AttributeStyle StyleValue)
attributes_say [] = []
attributes_say (a ∷ others) = attribute_says (map meant) a ++ attributes_say others
