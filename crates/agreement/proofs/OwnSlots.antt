-- Each slot of a computed style holds a style of its own kind: a colour in the slot of colours, a content in that of contents.
use Prim.Native.Nat.{ℕ, zero, suc, ◌<◌}
use mathlib.Core.Path.{◌≡◌, refl, sym, subst, ◌∙◌}
use mathlib.Core.Bool.{Bool, true, false}
use mathlib.Core.List.{List, [], ◌∷◌, ◌++◌, map, foldl}
use lib.ListN.{get_or, replicate}
use Rattle.combinators.specs.All.{All}
use Rattle.combinators.specs.Choice.{pick, and, is}
use Rattle.combinators.proofs.Rules.{pick-holds, and-true, is_true}
use Rattle.combinators.proofs.AllLaws.{all_append, all_map}
use Rattle.syntax.specs.Layout.{style_slot_of}
use Rattle.syntax.specs.Selector.{Selector, RuleSet}
use Rattle.syntax.specs.Style.{StyleValue, StyleDecl, agent_origin, user_origin, author_origin}
use Rattle.cascade.specs.declared.slots.Cascade.TheVariants.{Crate}
use Rattle.cascade.specs.Slot.{Candidate, Slot, empty, held, held_against, maybe_update}
use Rattle.cascade.specs.Specificity.{inline_specificity}
use Rattle.cascade.specs.Record.{slot_count, record_count, record_in, slot_of, slot_in, empty_record, empty_style, ComputedStyle, Styled, RuleStyle, AttributeStyle, Declared, from_rule, from_attribute, Sources, crate_declared, candidates_for}
use Rattle.cascade.proofs.Cascading.{crate-folds}
use Rattle.page.specs.Path.{Attribute, Path}
use Rattle.matching.specs.Matches.{is_named, matches}
use Rattle.characters.specs.Literal.{text}
use Rattle.styles.specs.declared.settings.Settings.{Settings}
use Rattle.styles.specs.Computed.{cascaded, sources_along, computed_style}
use Rattle.styles.specs.Said.{Rules, rule_styles, rule_style, selector_says, selectors_say, rules_say, attribute_styles, attribute_style, attribute_says, attributes_say, sources_from, meant, meant_rule, meant_rules, counted_attributes}
use Rattle.styles.proofs.Called.{cascaded-formed}

-- ---- what is said is said of its own slot
abbrev OwnStyled : Styled StyleValue → Type 0
OwnStyled x = style_slot_of x.value.style ≡ x.slot

abbrev OwnRule : RuleStyle StyleValue → Type 0
OwnRule x = OwnStyled x.style

abbrev OwnAttribute : AttributeStyle StyleValue → Type 0
OwnAttribute x = OwnStyled x.style

abbrev OwnDeclared : Declared StyleValue → Type 0
OwnDeclared d = style_slot_of d.candidate.value.style ≡ d.slot

-- declarations as they are meant
meant-own : (ds : List StyleDecl) → All OwnStyled (map meant ds)
unfolding meant
meant-own [] = tt
meant-own (d ∷ ds) = (refl, meant-own ds)

module _ (p : Path) (ds : List (Styled StyleValue)) (own : All OwnStyled ds) where
  -- where each style is of its own slot, so is each that a selector says
  selector-own : (s : Selector) → All OwnRule (selector_says p ds s)
  unfolding selector_says rule_style
  selector-own s = pick-holds (All OwnRule) (matches s.components p) _ [] (λ _. all_map OwnStyled OwnRule _ (λ x h. h) ds own) (λ _. tt)

  -- by the selectors of a rule
  selectors-own : (ss : List Selector) → All OwnRule (selectors_say p ds ss)
  unfolding selectors_say
  selectors-own [] = tt
  selectors-own (s ∷ ss) = all_append OwnRule (selector_says p ds s) (selectors_say p ds ss) (selector-own s) (selectors-own ss)

-- by the rules of a sheet
rules-own : (p : Path) (rs : List RuleSet) → All OwnRule (rules_say p (map meant_rule rs))
unfolding rules_say meant_rule
rules-own p [] = tt
rules-own p (r ∷ rs) =
    all_append OwnRule (selectors_say p (map meant (rule_styles r)) r.selectors) (rules_say p (map meant_rule rs))
    (selectors-own p (map meant (rule_styles r)) (meant-own (rule_styles r)) r.selectors) (rules-own p rs)

-- each style that an attribute says is of its own slot
attribute-own : (a : Attribute) → All OwnAttribute (attribute_says (map meant) a)
unfolding attribute_says attribute_style
attribute-own a = all_map OwnStyled OwnAttribute (attribute_style (is_named (text "style") a)) (λ x h. h) (map meant (attribute_styles a)) (meant-own (attribute_styles a))

-- so is each style that a list of attributes says
attributes-own : (xs : List Attribute) → All OwnAttribute (attributes_say xs)
unfolding attributes_say
attributes-own [] = tt
attributes-own (a ∷ xs) = all_append OwnAttribute (attribute_says (map meant) a) (attributes_say xs) (attribute-own a) (attributes-own xs)

-- what is declared of an element, by a sheet
sheet-own : (o : ℕ) (p : Path) (rs : List RuleSet) → All OwnDeclared (map (from_rule o) (rules_say p (map meant_rule rs)))
unfolding from_rule
sheet-own o p rs = all_map OwnRule OwnDeclared (from_rule o) (λ x h. h) (rules_say p (map meant_rule rs)) (rules-own p rs)

-- so is each style that the three sheets and the attributes declare of an element together
declared-own : (rules : Rules RuleSet) (xs : List Attribute) (p : Path) → All OwnDeclared (crate_declared (sources_from (meant_rules rules) (attributes_say xs) p))
unfolding crate_declared sources_from meant_rules from_attribute
declared-own rules xs p =
    let A = map (from_rule agent_origin) (rules_say p (map meant_rule rules.agent)) in
    let U = map (from_rule user_origin) (rules_say p (map meant_rule rules.user)) in
    let W = map (from_rule author_origin) (rules_say p (map meant_rule rules.author)) in
    let I = map (from_attribute false inline_specificity) (attributes_say xs) in
    all_append OwnDeclared A (U ++ (W ++ I)) (sheet-own agent_origin p rules.agent)
    (all_append OwnDeclared U (W ++ I) (sheet-own user_origin p rules.user)
    (all_append OwnDeclared W I (sheet-own author_origin p rules.author)
    (all_map OwnAttribute OwnDeclared (from_attribute false inline_specificity) (λ x h. h) (attributes_say xs) (attributes-own xs))))

-- ---- slots hold only styles of their kind
module _ (k : ℕ) where
  -- a slot holds nothing, or a style of its kind
  abbrev pub Own : Slot StyleValue → Type 0
  Own empty = Unit
  Own (held c) = style_slot_of c.value.style ≡ k

  abbrev OwnCandidate : Candidate StyleValue → Type 0
  OwnCandidate c = style_slot_of c.value.style ≡ k

  -- an update by a candidate of the slot's kind leaves a style of that kind, whichever of the two stays
  update-own : (s : Slot StyleValue) (c : Candidate StyleValue) → Own s → OwnCandidate c → Own (maybe_update s c)
  unfolding maybe_update
  update-own empty c h l = l
  update-own (held d) c h l = pick-holds Own (held_against d.weight c.weight) (held d) (held c) (λ _. h) (λ _. l)

  -- updates by many candidates of the slot's kind, one after the other, leave a style of that kind
  updates-own : (cs : List (Candidate StyleValue)) (s : Slot StyleValue) → Own s → All OwnCandidate cs → Own (foldl maybe_update s cs)
  updates-own [] s h l = h
  updates-own (c ∷ cs) s h l = updates-own cs (maybe_update s c) (update-own s c h l.0) l.1

  -- the candidates for a slot are of its kind
  candidates-own : (r : ℕ) (ds : List (Declared StyleValue)) → All OwnDeclared ds → All OwnCandidate (candidates_for r k ds)
  unfolding candidates_for
  candidates-own r [] h = tt
  candidates-own r (d ∷ ds) h =
      all_append OwnCandidate (pick (and (is d.pseudo r) (is d.slot k)) (d.candidate ∷ []) []) (candidates_for r k ds)
      (pick-holds (All OwnCandidate) (and (is d.pseudo r) (is d.slot k)) (d.candidate ∷ []) [] (λ e. (h.0 ∙ is_true d.slot k (and-true _ _ e).1, tt)) (λ _. tt))
      (candidates-own r ds h.1)

-- ---- in a style, each slot of each record holds nothing or a style of its kind
abbrev pub OwnSlots : ComputedStyle StyleValue → Type 0
OwnSlots s = (r k : ℕ) → r < record_count → k < slot_count → Own k (slot_in s r k)

-- of the one in which nothing is declared
own-none : (k n j : ℕ) → Own k (get_or (replicate n empty) j empty)
own-none k zero j = tt
own-none k (suc n) zero = tt
own-none k (suc n) (suc j) = own-none k n j

-- the style in which nothing is declared holds nothing in each slot of each record
empty-own : OwnSlots empty_style
unfolding slot_in slot_of record_in empty_style empty_record pick
empty-own r k h l = go (is r 0) (is r 1)
  where
    go : (a b : Bool) → Own k (slot_of (pick a empty_record (pick b empty_record empty_record)) k)
    go true b = own-none k slot_count k
    go false true = own-none k slot_count k
    go false false = own-none k slot_count k

-- in the computed style of an element each slot holds nothing or a style of its kind
pub computed-own : (rules : Rules RuleSet) (settings : Settings) (p : Path) → OwnSlots (computed_style Crate rules settings p)
unfolding computed_style sources_along cascaded
computed-own rules settings [] r k h l = empty-own r k h l
computed-own rules settings (e ∷ up) r k h l =
    let parent : ComputedStyle StyleValue = cascaded Crate (sources_along rules settings up) in
    let x : Sources StyleValue = sources_from (meant_rules rules) (attributes_say (counted_attributes settings e)) (e ∷ up) in
    subst (Own k) (sym (crate-folds parent x r k (cascaded-formed Crate (sources_along rules settings up)) h l))
    (updates-own k (candidates_for r k (crate_declared x)) (slot_in parent r k) (computed-own rules settings up r k h l)
    (candidates-own k r (crate_declared x) (declared-own rules (counted_attributes settings e) (e ∷ up))))
