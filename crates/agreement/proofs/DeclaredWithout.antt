-- What sheets and attributes declare without their declarations of `visibility`: what they declare, without what is for that slot.
use Prim.Native.Nat.{ℕ}
use mathlib.Core.Bool.{Bool, true, false}
use mathlib.Core.List.{List, [], ◌∷◌, ◌++◌, map}
use mathlib.Core.Path.{◌≡◌, refl, ap, ◌∙◌}
use Rattle.combinators.specs.Choice.{pick, is}
use Rattle.combinators.proofs.Rules.{pick-false}
use Rattle.characters.specs.Literal.{text}
use Rattle.syntax.specs.Declaration.{Colour, Declaration}
use Rattle.syntax.specs.Layout.{visibility_slot, style_slot_of}
use Rattle.syntax.specs.RuleLayout.{pseudo_number}
use Rattle.syntax.specs.Selector.{Selector, RuleSet}
use Rattle.syntax.specs.Style as style
use Rattle.syntax.specs.Style.{Style, StyleValue, StyleDecl, agent_origin, user_origin, author_origin}
use Rattle.values.specs.Words.{Found, found, missing, on_found}
use Rattle.declarations.specs.Attribute.{style_attribute, colour_attribute}
use Rattle.declarations.specs.Rules.{declarations_of}
use Rattle.declarations.specs.Styles.{styles_of}
use Rattle.cascade.specs.Specificity.{inline_specificity}
use Rattle.cascade.specs.Record.{Styled, RuleStyle, AttributeStyle, Declared, from_rule, from_attribute, crate_declared}
use Rattle.page.specs.Path.{Attribute, Path}
use Rattle.matching.specs.Matches.{is_named, matches}
use Rattle.matching.specs.Specificity.{specificity}
use Rattle.styles.specs.Said.{Rules, rule_styles, rule_style, selector_says, selectors_say, rules_say, colour_styles, attribute_styles, attribute_style, attribute_says, attributes_say, sources_from, meant, meant_rule, meant_rules}
use Rattle.agreement.specs.VisibilityAside.{without_visibility, rule_without, rules_without, attribute_styles_without, attributes_say_without}
use Rattle.agreement.proofs.StylesWithout.{others, others-both, others-pick, others-map, decl_slot, styles-without}

-- ---- the slots that things are for
abbrev styled_slot : Styled StyleValue → ℕ
styled_slot x = x.slot

abbrev rule_slot : RuleStyle StyleValue → ℕ
rule_slot x = x.style.slot

abbrev attribute_slot : AttributeStyle StyleValue → ℕ
attribute_slot x = x.style.slot

abbrev pub declared_slot : Declared StyleValue → ℕ
declared_slot d = d.slot

-- ---- what rules say
-- as they are meant, the other styles are the others of what the styles mean
meant-without : (ds : List StyleDecl) → map meant (others decl_slot ds) ≡ others styled_slot (map meant ds)
meant-without ds = others-map decl_slot styled_slot meant (λ x. unfold meant in refl) ds

module _ (p : Path) where
  -- a selector says of the other styles what it says of the styles, but for that slot
  selector-without : (xs : List (Styled StyleValue)) (s : Selector) → selector_says p (others styled_slot xs) s ≡ others rule_slot (selector_says p xs s)
  unfolding selector_says
  selector-without xs s =
      let say = rule_style (pseudo_number s.pseudo) (specificity s.components) in
      others-pick rule_slot (matches s.components p) (map say xs) [] (others-map styled_slot rule_slot say (λ x. unfold rule_style in refl) xs) (unfold others in refl)

  -- so do the selectors of a rule
  selectors-without : (xs : List (Styled StyleValue)) (ss : List Selector) → selectors_say p (others styled_slot xs) ss ≡ others rule_slot (selectors_say p xs ss)
  unfolding selectors_say
  selectors-without xs [] = unfold others in refl
  selectors-without xs (s ∷ ss) = others-both rule_slot (selector_says p xs s) (selectors_say p xs ss) (selector-without xs s) (selectors-without xs ss)

  -- so do the rules of a sheet
  pub rules-without : (rs : List RuleSet) → rules_say p (map meant_rule (map rule_without rs)) ≡ others rule_slot (rules_say p (map meant_rule rs))
  unfolding rules_say meant_rule rule_without rule_styles
  rules-without [] = unfold others in refl
  rules-without (r ∷ rs) =
      let xs = map meant (styles_of r.declarations) in
      others-both rule_slot (selectors_say p xs r.selectors) (rules_say p (map meant_rule rs))
      (ap (λ ys. selectors_say p ys r.selectors) (ap (map meant) (styles-without r.declarations) ∙ meant-without (styles_of r.declarations)) ∙ selectors-without xs r.selectors)
      (rules-without rs)

-- ---- what attributes say
-- a colour of an attribute is not for that slot
colour-stays : (slot : Colour → Style) → ((x : Colour) → is (style_slot_of (slot x)) visibility_slot ≡ false) → (c : Found Colour) → colour_styles slot c ≡ others decl_slot (colour_styles slot c)
unfolding colour_styles on_found others
colour-stays slot h (found x) = ap (λ (l : List StyleDecl). l ++ []) (pick-false _ _ _ _ (h x) refl)
colour-stays slot h missing = refl

-- the styles of an attribute without visibility are its styles but for that slot
attribute-without : (a : Attribute) → attribute_styles_without a ≡ others decl_slot (attribute_styles a)
unfolding attribute_styles_without attribute_styles style_attribute
attribute-without a = go (is_named (text "style") a)
  where
    ds : List Declaration
    ds = (declarations_of a.value).declarations

    colours : List StyleDecl
    colours =
        pick (is_named (text "color") a) (colour_styles style.colour (colour_attribute a.value))
        (pick (is_named (text "bgcolor") a) (colour_styles style.background (colour_attribute a.value)) [])

    colours-stay : colours ≡ others decl_slot colours
    colours-stay =
        others-pick decl_slot (is_named (text "color") a) _ _ (colour-stays style.colour (λ x. unfold style_slot_of is in refl) (colour_attribute a.value))
        (others-pick decl_slot (is_named (text "bgcolor") a) _ [] (colour-stays style.background (λ x. unfold style_slot_of is in refl) (colour_attribute a.value)) (unfold others in refl))

    go : (t : Bool) → pick t (styles_of (without_visibility ds)) (pick t (styles_of ds) colours) ≡ others decl_slot (pick t (styles_of ds) colours)
    go true = unfold pick in styles-without ds
    go false = unfold pick in colours-stay

-- all attributes say without visibility what they say, but for that slot
pub attributes-without : (xs : List Attribute) → attributes_say_without xs ≡ others attribute_slot (attributes_say xs)
unfolding attributes_say_without attributes_say attribute_says
attributes-without [] = unfold others in refl
attributes-without (a ∷ xs) =
    let say = attribute_style (is_named (text "style") a) in
    let ys = map meant (attribute_styles a) in
    others-both attribute_slot (map say ys) (attributes_say xs)
    (ap (λ ds. map say (map meant ds)) (attribute-without a) ∙ ap (map say) (meant-without (attribute_styles a)) ∙ others-map styled_slot attribute_slot say (λ x. unfold attribute_style in refl) ys)
    (attributes-without xs)

-- ---- what is declared for an element without visibility is what is declared for it, but for that slot
pub declared-without : (rules : Rules RuleSet) (xs : List Attribute) (p : Path)
    → crate_declared (sources_from (meant_rules (rules_without rules)) (attributes_say_without xs) p) ≡ others declared_slot (crate_declared (sources_from (meant_rules rules) (attributes_say xs) p))
unfolding crate_declared sources_from meant_rules rules_without
declared-without rules xs p =
    others-both declared_slot _ _ (sheet agent_origin rules.agent)
    (others-both declared_slot _ _ (sheet user_origin rules.user) (others-both declared_slot _ _ (sheet author_origin rules.author) attributes))
  where
    sheet : (o : ℕ) (rs : List RuleSet) → map (from_rule o) (rules_say p (map meant_rule (map rule_without rs))) ≡ others declared_slot (map (from_rule o) (rules_say p (map meant_rule rs)))
    sheet o rs = ap (map (from_rule o)) (rules-without p rs) ∙ others-map rule_slot declared_slot (from_rule o) (λ x. unfold from_rule in refl) (rules_say p (map meant_rule rs))

    attributes : map (from_attribute false inline_specificity) (attributes_say_without xs) ≡ others declared_slot (map (from_attribute false inline_specificity) (attributes_say xs))
    attributes =
        ap (map (from_attribute false inline_specificity)) (attributes-without xs)
        ∙ others-map attribute_slot declared_slot (from_attribute false inline_specificity) (λ x. unfold from_attribute in refl) (attributes_say xs)
