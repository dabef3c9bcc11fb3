-- Where the texts lie in t as a style call or a run has put them, what is said by numbers says, with t, what is said by the styles themselves.
use mathlib.Core.Path.{◌≡◌, refl}
use mathlib.Core.Bool.{Bool}
use mathlib.Core.List.{List, [], ◌∷◌, ◌++◌, map}
use Prim.Native.Nat.{ℕ, ◌+◌}
use native.Mathlib.Nat.{zero-add}
use lib.ListN.{length}
use Rattle.characters.specs.Literal.{text}
use Rattle.syntax.specs.Layout.{style_text, style_text_of, style_texts, number_from, value_from, numbers_from}
use Rattle.syntax.specs.RuleLayout.{pseudo_number}
use Rattle.syntax.specs.Selector.{Selector, RuleSet}
use Rattle.syntax.specs.Stream.{texts_many}
use Rattle.syntax.specs.Style as style
use Rattle.syntax.specs.Style.{Style, StyleValue, StyleDecl}
use Rattle.syntax.specs.declared.styles.Value.{Value}
use Rattle.syntax.proofs.Streams.{held-part}
use Rattle.cascade.specs.declared.specificity.Specificity.{Specificity}
use Rattle.cascade.specs.Record.{Styled, AttributeStyle}
use Rattle.cascade.specs.Related.{Each, none, next}
use Rattle.cascade.proofs.Relating.{pick_same, each_append, each_map, SameStyled, SameRule, SameAttribute, SameSources}
use Rattle.page.specs.Path.{Attribute, Path}
use Rattle.matching.specs.Matches.{is_named, matches}
use Rattle.matching.specs.Specificity.{specificity}
use Rattle.styles.specs.Said.{Rules, StyledRule, rule_styles, rule_style, selector_says, selectors_say, rules_say, attribute_styles, attribute_style, attribute_says, sources_from, meant, meant_rule, meant_rules, attributes_say}
use Rattle.styles.specs.StyleCall.{rule_contents, rules_contents, sheets_contents, attribute_contents, attributes_contents, in_numbers, placed_styles, placed_rules, placed_sheets, placed_attributes}
use Rattle.styles.specs.Says.{SaysStyle, Says}
use Rattle.styles.proofs.Lying.{Lies, lies-left, lies-right, lies_at}

-- ---- what rules say, from rules whose styles are the same
module _ {A B : Type 0} (R : A → B → Type 0) where
  -- a rule with the same selectors, and styles that are the same
  pub record SameStyledRule (x : StyledRule A) (y : StyledRule B) : Type 0 where
    pub selectors-same : x.selectors ≡ y.selectors
    pub styles-same : Each (SameStyled R) x.styles y.styles

  pub record SameRules (x : Rules (StyledRule A)) (y : Rules (StyledRule B)) : Type 0 where
    pub agents : Each SameStyledRule x.agent y.agent
    pub users : Each SameStyledRule x.user y.user
    pub authors : Each SameStyledRule x.author y.author

  -- a style of a selector is said the same, where the styles are the same
  pub rule-style-same : (n : ℕ) (c : Specificity) (x : Styled A) (y : Styled B) → SameStyled R x y → SameRule R (rule_style n c x) (rule_style n c y)
  unfolding rule_style
  rule-style-same n c x y h = record { pseudos = refl; specs = refl; styles = h }

  module _ (p : Path) where
    -- styles that are the same are said the same by one selector, where it matches the path
    selector-same : (xs : List (Styled A)) (ys : List (Styled B)) (s : Selector) → Each (SameStyled R) xs ys → Each (SameRule R) (selector_says p xs s) (selector_says p ys s)
    unfolding selector_says
    selector-same xs ys s h =
        let say = rule-style-same (pseudo_number s.pseudo) (specificity s.components) in
        pick_same (Each (SameRule R)) (matches s.components p) (matches s.components p) _ [] _ [] refl (each_map (SameStyled R) (SameRule R) _ _ say h) none

    -- styles that are the same are said the same by all selectors of a rule
    selectors-same : (xs : List (Styled A)) (ys : List (Styled B)) (ss : List Selector) → Each (SameStyled R) xs ys → Each (SameRule R) (selectors_say p xs ss) (selectors_say p ys ss)
    unfolding selectors_say
    selectors-same xs ys [] h = none
    selectors-same xs ys (s ∷ ss) h = each_append (SameRule R) (selector-same xs ys s h) (selectors-same xs ys ss h)

    -- all rules of a sheet
    pub rules-same : {xs : List (StyledRule A)} {ys : List (StyledRule B)} → Each SameStyledRule xs ys → Each (SameRule R) (rules_say p xs) (rules_say p ys)
    unfolding rules_say
    rules-same none = none
    rules-same (next {a = x} {b = y} h hs) =
        each_append (SameRule R) (by-selectors x.selectors y.selectors h.selectors-same (selectors-same x.styles y.styles y.selectors h.styles-same)) (rules-same hs)
      where
        by-selectors : (l m : List Selector) → l ≡ m → Each (SameRule R) (selectors_say p x.styles m) (selectors_say p y.styles m) → Each (SameRule R) (selectors_say p x.styles l) (selectors_say p y.styles m)
        by-selectors l m e r = rw e r

    -- all that is said of an element
    pub sources-same : (x : Rules (StyledRule A)) (y : Rules (StyledRule B)) (us : List (AttributeStyle A)) (vs : List (AttributeStyle B)) → SameRules x y → Each (SameAttribute R) us vs
        → SameSources R (sources_from x us p) (sources_from y vs p)
    unfolding sources_from
    sources-same x y us vs h k = record { agents = rules-same h.agents; users = rules-same h.users; authors = rules-same h.authors; attributes = k }

module _ (t : List ℕ) where
  -- ---- a style in numbers, whose text lies at f if it is a content
  number-says : (f b : ℕ) (s : Style) → ((x : List ℕ) → s ≡ style.content x → Lies t f x)
      → SaysStyle t (record { number = number_from f s; second = length (style_text_of s); start = b }) s
  unfolding SaysStyle number_from style_text_of
  number-says f b (style.colour c) h = record { number = refl; second = refl }
  number-says f b (style.background c) h = record { number = refl; second = refl }
  number-says f b style.display_none h = record { number = refl; second = refl }
  number-says f b (style.white_space w) h = record { number = refl; second = refl }
  number-says f b (style.content x) h = let l = h x refl in record { long = refl; within = l.within; named = held-part t f x l.there }
  number-says f b (style.visibility z) h = record { number = refl; second = refl }

  -- the value of a style in numbers says the style, where the text of a content lies at f
  pub value-says : (f : ℕ) (v : StyleValue) → ((x : List ℕ) → v.style ≡ style.content x → Lies t f x) → Says t (value_from f v) v
  unfolding value_from
  value-says f v h = record { style = number-says f v.start v.style h; start = refl }

  -- a style in numbers says the style, where its text lies at f if it is a content
  pub style-says : (f : ℕ) (d : StyleDecl) → ((x : List ℕ) → d.value.style ≡ style.content x → Lies t f x) → SameStyled (Says t) (in_numbers (numbers_from f d)) (meant d)
  unfolding in_numbers numbers_from meant
  style-says f d h = record { slots = refl; importances = refl; values = value-says f d.value h }

  -- the text of a style that is a content is that content
  content-text : (d : StyleDecl) (x : List ℕ) → d.value.style ≡ style.content x → style_text d ≡ x
  unfolding style_text style_text_of
  content-text d x e = rw e

  -- a style in numbers says the style, where its text, empty for others than contents, lies at f
  style-placed : (f : ℕ) (d : StyleDecl) → Lies t f (style_text d) → SameStyled (Says t) (in_numbers (numbers_from f d)) (meant d)
  style-placed f d h = style-says f d (λ x e. rw (content-text d x e) at h)

  -- many, whose texts lie end to end
  pub styles-placed : (ds : List StyleDecl) (f : ℕ) → Lies t f (style_texts ds) → Each (SameStyled (Says t)) (placed_styles f ds) (map meant ds)
  unfolding placed_styles style_texts texts_many
  styles-placed [] f h = none
  styles-placed (d ∷ ds) f h =
      next (style-placed f d (lies-left t f (style_text d) (style_texts ds) h)) (styles-placed ds (f + length (style_text d)) (lies-right t f (style_text d) (style_texts ds) h))

  -- ---- the rules of a sheet
  -- the rules of a sheet, by numbers over the contents that lie from f on, say what the rules mean
  pub rules-placed : (rs : List RuleSet) (f : ℕ) → Lies t f (rules_contents rs) → Each (SameStyledRule (Says t)) (placed_rules f rs) (map meant_rule rs)
  unfolding placed_rules meant_rule rule_contents rules_contents texts_many
  rules-placed [] f h = none
  rules-placed (r ∷ rs) f h =
      next (record { selectors-same = refl; styles-same = styles-placed (rule_styles r) f (lies-left t f (rule_contents r) (rules_contents rs) h) })
      (rules-placed rs (f + length (rule_contents r)) (lies-right t f (rule_contents r) (rules_contents rs) h))

  -- the rules of three sheets, by numbers over the texts that lie in t, say what the rules mean
  pub sheets-placed : (rules : Rules RuleSet) → Lies t 0 (sheets_contents rules) → SameRules (Says t) (placed_sheets rules) (meant_rules rules)
  unfolding placed_sheets meant_rules sheets_contents
  sheets-placed rules h =
      let a = rules_contents rules.agent in
      let u = rules_contents rules.user in
      let b = rules_contents rules.author in
      let behind = lies_at t (0 + length a) (length a) (u ++ b) (zero-add (length a)) (lies-right t 0 a (u ++ b) h) in
      record {
        agents = rules-placed rules.agent 0 (lies-left t 0 a (u ++ b) h);
        users = rules-placed rules.user (length a) (lies-left t (length a) u b behind);
        authors = rules-placed rules.author (length a + length u) (lies-right t (length a) u b behind);
      }

  -- ---- what attributes say
  attribute-same : (i : Bool) (x : Styled Value) (y : Styled StyleValue) → SameStyled (Says t) x y → SameAttribute (Says t) (attribute_style i x) (attribute_style i y)
  unfolding attribute_style
  attribute-same i x y h = record { kinds = refl; styles = h }

  -- what an attribute says by numbers, over the contents in t, is what it means
  pub attribute-placed : (a : Attribute) (f : ℕ) → Lies t f (attribute_contents a) → Each (SameAttribute (Says t)) (attribute_says (placed_styles f) a) (attribute_says (map meant) a)
  unfolding attribute_says attribute_contents
  attribute-placed a f h =
      let i = is_named (text "style") a in
      each_map (SameStyled (Says t)) (SameAttribute (Says t)) (attribute_style i) (attribute_style i) (attribute-same i) (styles-placed (attribute_styles a) f h)

  -- many, whose contents lie end to end
  pub attributes-placed : (xs : List Attribute) (f : ℕ) → Lies t f (attributes_contents xs) → Each (SameAttribute (Says t)) (placed_attributes f xs) (attributes_say xs)
  unfolding placed_attributes attributes_say attributes_contents texts_many
  attributes-placed [] f h = none
  attributes-placed (a ∷ xs) f h =
      each_append (SameAttribute (Says t)) (attribute-placed a f (lies-left t f (attribute_contents a) (attributes_contents xs) h))
      (attributes-placed xs (f + length (attribute_contents a)) (lies-right t f (attribute_contents a) (attributes_contents xs) h))
