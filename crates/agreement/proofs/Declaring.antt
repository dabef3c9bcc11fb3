-- What the selectors of a compiled sheet declare for an element is what the rules of the three sheets say of it, in the same order.
use Prim.Native.Nat.{ℕ}
use mathlib.Core.Path.{◌≡◌, refl, ap, ap₂, sym, ◌∙◌}
use mathlib.Core.Bool.{Bool, true, false}
use mathlib.Core.List.{List, [], ◌∷◌, ◌++◌, map, map-append, map-map, append_assoc, append-nil}
use Rattle.combinators.specs.Choice.{pick}
use Rattle.syntax.specs.RuleLayout.{pseudo_number}
use Rattle.syntax.specs.Selector.{Component, Selector, RuleSet}
use Rattle.syntax.specs.Style.{agent_origin, user_origin, author_origin, StyleDecl}
use Rattle.declarations.specs.Styles.{styles_of}
use Rattle.syntax.specs.Style.{StyleValue}
use Rattle.cascade.specs.declared.specificity.Specificity.{Specificity}
use Rattle.cascade.specs.Record.{Styled, Declared, RuleStyle, from_rule}
use Rattle.cascade.specs.Related.{Each, none, next}
use Rattle.cascade.proofs.Relating.{pick_same, each_append, each_map, SameStyled, SameDeclared, rule-declared}
use Rattle.page.specs.Path.{Path}
use Rattle.matching.specs.Matches.{matches}
use Rattle.matching.specs.Specificity.{specificity}
use Rattle.compiled.specs.Sheet.{CompiledSelector}
use Rattle.compiler.specs.Selectors.{compiled_selector, styled_selectors, rule_selectors, sheet_selectors, selectors_of}
use Rattle.styles.specs.Said.{rule_styles, rule_style, selector_says, selectors_say, rules_say, meant, meant_rule}
use Rattle.styles.proofs.Placed.{rule-style-same}
use Rattle.segments.specs.Down.{matching_of}
use Rattle.runner.specs.Walked.{meant_selector}
use Rattle.runner.specs.PageRows.{selectors_declare}
use Rattle.runner.proofs.FoundLaws.{declared-append}

-- ---- selectors one after the other: which of them match
-- of selectors one after the other, those that match are those of the first that do, then those of the second
matching-append : {A : Type 0} (p : Path) (a b : List (CompiledSelector (Styled A))) → matching_of p (a ++ b) ≡ matching_of p a ++ matching_of p b
unfolding matching_of
matching-append p [] b = refl
matching-append p (s ∷ a) b = rw (matching-append p a b) (sym (append_assoc (pick (matches s.components p) (s ∷ []) []) (matching_of p a) (matching_of p b)))

-- ---- selectors that are the same but for the form of their styles' values
module _ {A B : Type 0} (R : A → B → Type 0) where
  pub record SameSelector (x : CompiledSelector (Styled A)) (y : CompiledSelector (Styled B)) : Type 0 where
    pub origins : x.origin ≡ y.origin
    pub pseudos : x.pseudo ≡ y.pseudo
    pub components-same : x.components ≡ y.components
    pub styles-same : Each (SameStyled R) x.styles y.styles

  -- styles that are the same, of selectors with the same origin, pseudo element and specificity, are declared the same
  style-declared : (o o' n n' : ℕ) (c c' : Specificity) → o ≡ o' → n ≡ n' → c ≡ c' → (x : Styled A) (y : Styled B) → SameStyled R x y
      → SameDeclared R (from_rule o (rule_style n c x)) (from_rule o' (rule_style n' c' y))
  style-declared o o' n n' c c' e f g x y h = rw (e, f, g) (rule-declared R o' (rule_style n' c' x) (rule_style n' c' y) (rule-style-same R n' c' x y h))

  -- declare what is the same
  pub declared-alike : {xs : List (CompiledSelector (Styled A))} {ys : List (CompiledSelector (Styled B))} → Each SameSelector xs ys → Each (SameDeclared R) (selectors_declare xs) (selectors_declare ys)
  unfolding selectors_declare
  declared-alike none = none
  declared-alike (next {a = x} {b = y} h hs) =
      each_append (SameDeclared R)
      (each_map (SameStyled R) (SameDeclared R) _ _
      (style-declared x.origin y.origin (pseudo_number x.pseudo) (pseudo_number y.pseudo) (specificity x.components) (specificity y.components) h.origins (ap pseudo_number h.pseudos) (ap specificity h.components-same))
      h.styles-same)
      (declared-alike hs)

  -- of two such lists, the selectors that match a path are again the same one by one
  pub matching-alike : (p : Path) {xs : List (CompiledSelector (Styled A))} {ys : List (CompiledSelector (Styled B))} → Each SameSelector xs ys → Each SameSelector (matching_of p xs) (matching_of p ys)
  unfolding matching_of
  matching-alike p none = none
  matching-alike p (next {a = x} {b = y} h hs) =
      each_append SameSelector
      (pick_same (Each SameSelector) (matches x.components p) (matches y.components p) _ [] _ [] (ap (λ (cs : List Component). matches cs p) h.components-same) (next h none) none)
      (matching-alike p hs)

-- ---- what the selectors of the sheets declare
module _ (p : Path) where
  -- what compiled selectors declare, with the texts themselves
  abbrev said : List (CompiledSelector StyleDecl) → List (Declared StyleValue)
  said ss = selectors_declare (matching_of p (map meant_selector ss))

  -- what two lists of selectors say when joined is what the first says, then what the second says
  said-append : (a b : List (CompiledSelector StyleDecl)) → said (a ++ b) ≡ said a ++ said b
  said-append a b =
      rw (map-append meant_selector a b, matching-append p (map meant_selector a) (map meant_selector b), declared-append (matching_of p (map meant_selector a)) (matching_of p (map meant_selector b)))

  -- a selector of a rule declares what it says
  one-said : (m : Bool) (o : ℕ) (ds : List StyleDecl) (s : Selector) → selectors_declare (pick m (meant_selector (compiled_selector o ds s) ∷ []) [])
      ≡ map (from_rule o) (pick m (map (rule_style (pseudo_number s.pseudo) (specificity s.components)) (map meant ds)) [])
  unfolding pick selectors_declare meant_selector compiled_selector
  one-said true o ds s = append-nil _ ∙ sym (map-map (from_rule o) (rule_style (pseudo_number s.pseudo) (specificity s.components)) (map meant ds))
  one-said false o ds s = refl

  -- it declares that where it matches
  first_said : (o : ℕ) (ds : List StyleDecl) (s : Selector) → said (compiled_selector o ds s ∷ []) ≡ map (from_rule o) (selector_says p (map meant ds) s)
  unfolding matching_of selector_says meant_selector compiled_selector
  first_said o ds s =
      ap selectors_declare (append-nil (pick (matches s.components p) (meant_selector (compiled_selector o ds s) ∷ []) [])) ∙ one-said (matches s.components p) o ds s

  -- the selectors of a rule with these styles, compiled, say what the rule's selectors say
  selectors-said : (o : ℕ) (ds : List StyleDecl) (ss : List Selector) → said (map (compiled_selector o ds) ss) ≡ map (from_rule o) (selectors_say p (map meant ds) ss)
  unfolding selectors_say
  selectors-said o ds [] = unfold matching_of selectors_declare in refl
  selectors-said o ds (s ∷ ss) =
      said-append (compiled_selector o ds s ∷ []) (map (compiled_selector o ds) ss)
      ∙ ap₂ ◌++◌ (first_said o ds s) (selectors-said o ds ss)
      ∙ sym (map-append (from_rule o) (selector_says p (map meant ds) s) (selectors_say p (map meant ds) ss))

  -- a rule without styles says nothing
  nothing-one : (m : Bool) (a b : List (RuleStyle StyleValue)) → a ≡ [] → b ≡ [] → pick m a b ≡ []
  unfolding pick
  nothing-one true a b e f = e
  nothing-one false a b e f = f

  -- a rule without styles says nothing, whatever its selectors
  nothing_said : (ss : List Selector) → selectors_say {A = StyleValue} p [] ss ≡ []
  unfolding selectors_say selector_says
  nothing_said [] = refl
  nothing_said (s ∷ ss) = rw (nothing-one (matches s.components p) [] [] refl refl, nothing_said ss)

  -- the selectors of a rule that are compiled: all, or none where it has no style
  styled-said : (o : ℕ) (ds : List StyleDecl) (ss : List Selector) → said (styled_selectors o ds ss) ≡ map (from_rule o) (selectors_say p (map meant ds) ss)
  unfolding styled_selectors
  styled-said o [] ss = unfold matching_of selectors_declare in rw (nothing_said ss)
  styled-said o (d ∷ ds) ss = selectors-said o (d ∷ ds) ss

  -- the compiled selectors of a sheet say what its rules say
  sheet-said : (o : ℕ) (rs : List RuleSet) → said (sheet_selectors o rs) ≡ map (from_rule o) (rules_say p (map meant_rule rs))
  unfolding sheet_selectors rule_selectors rules_say meant_rule rule_styles
  sheet-said o [] = unfold matching_of selectors_declare in refl
  sheet-said o (r ∷ rs) =
      said-append (styled_selectors o (styles_of r.declarations) r.selectors) (sheet_selectors o rs)
      ∙ ap₂ ◌++◌ (styled-said o (styles_of r.declarations) r.selectors) (sheet-said o rs)
      ∙ sym (map-append (from_rule o) (selectors_say p (map meant (rule_styles r)) r.selectors) (rules_say p (map meant_rule rs)))

  -- what the matching selectors of three sheets declare is what the agent's rules say, then the user's, then the author's
  pub selectors-declare : (agent user author : List RuleSet) → selectors_declare (matching_of p (map meant_selector (selectors_of agent user author)))
      ≡ map (from_rule agent_origin) (rules_say p (map meant_rule agent)) ++ (map (from_rule user_origin) (rules_say p (map meant_rule user)) ++ map (from_rule author_origin) (rules_say p (map meant_rule author)))
  unfolding selectors_of
  selectors-declare agent user author =
      said-append (sheet_selectors agent_origin agent) (sheet_selectors user_origin user ++ sheet_selectors author_origin author)
      ∙ ap₂ ◌++◌ (sheet-said agent_origin agent)
      (said-append (sheet_selectors user_origin user) (sheet_selectors author_origin author) ∙ ap₂ ◌++◌ (sheet-said user_origin user) (sheet-said author_origin author))
