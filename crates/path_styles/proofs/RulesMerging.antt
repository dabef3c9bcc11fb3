-- The returns and turns of the functions that merge what rules say of an element.
use mathlib.Core.Path.{◌≡◌, refl, sym, ap, ◌∙◌}
use mathlib.Core.Bool.{Bool, true, false}
use mathlib.Core.List.{List, [], ◌∷◌, ◌++◌, map, map-append}
use Prim.Native.Nat.{ℕ, zero, suc, ◌+◌, ◌*◌, ◌-◌, ◌≤◌, ◌<◌}
use native.Mathlib.Omega.{arith}
use lib.ListN.{get_or, drop}
use lib.Seq.{get_or-drop, drop-drop}
use Rattle.combinators.specs.Choice.{pick}
use Rattle.combinators.proofs.Rules.{pick_true, pick-false}
use Rattle.syntax.specs.Layout.{declaration_width, style_width, numbers_at}
use Rattle.syntax.specs.RuleLayout.{selector_pseudo, rule_head, rule_selectors, rule_declarations, pseudo_number, pseudo_from, read_selector, read_rule}
use Rattle.syntax.specs.Selector.{Component, Selector}
use Rattle.syntax.specs.Stream.{read_many}
use Rattle.syntax.specs.declared.styles.StyleNumbers.{StyleNumbers}
use Rattle.syntax.specs.declared.styles.Value.{Value}
use Rattle.origins.proofs.WalkLaws.{many-rest, declaration-rest, Passing, passing-more, passing-done}
use Rattle.cascade.specs.declared.slots.Cascade.{Cascade}
use Rattle.cascade.specs.declared.specificity.Specificity.{Specificity}
use Rattle.cascade.specs.Record.{Styled, RuleStyle, Declared, from_rule}
use Rattle.cascade.specs.Row.{Merged}
use Rattle.page.specs.Path.{Path}
use Rattle.matching.specs.Matches.{matches}
use Rattle.matching.specs.Specificity.{specificity}
use Rattle.styles.specs.Merged.{merged_row}
use Rattle.styles.specs.Said.{rule_style, selector_says, selectors_say, rules_say}
use Rattle.styles.specs.StyleCall.{in_numbers}
use Rattle.styles.proofs.Merging.{merged-none, merged-more, Merging, merging-begin, merging-more, merging-done}
use Rattle.rule_styles.specs.Placing.{kept_head, kept_count, read_styled, read_kept, rules_kept}
use Rattle.path_styles.specs.Tops.{RightTops}
use Rattle.path_styles.proofs.TopsLaws.{rule-selectors}

-- ---- turns of `merge_styles`
module _ (c : Cascade) (pseudo origin : ℕ) (spec : Specificity) (styles : List ℕ) (count at : ℕ) (row₀ : List ℕ) where
  -- what the style at a place declares
  abbrev style_declared : ℕ → Declared Value
  style_declared place = from_rule origin (rule_style pseudo spec (read_styled (drop place styles)).value)

  -- what n styles from a place on declare
  abbrev pub styles_declared : ℕ → ℕ → List (Declared Value)
  styles_declared n place = map (from_rule origin) (map (rule_style pseudo spec) (read_many read_styled n (drop place styles)).value)

  -- what is left to merge of n styles from a place on is what was to be merged
  pub record StylesMerging (n place : ℕ) (row : List ℕ) : Type 0 where
    pub merging : Merging c row₀ (styles_declared count at) row (styles_declared n place)

  -- the first of them, and the others
  one-declared : (n place next : ℕ) → 0 < n → drop next styles ≡ drop (place + style_width) styles
      → styles_declared n place ≡ (style_declared place ∷ []) ++ styles_declared (n - 1) next
  unfolding read_many read_styled
  one-declared zero place next h e = absurd (omega arith)
  one-declared (suc k) place next h e = let q : suc k - 1 ≡ k = omega arith in rw (q, e, drop-drop style_width place styles)

  -- no styles from a place on declare nothing
  none-declared : (n place : ℕ) → n ≤ 0 → styles_declared n place ≡ []
  unfolding read_many
  none-declared zero place h = refl
  none-declared (suc k) place h = absurd (omega arith)

  -- merging the numbers of the style at a place leaves the row with what that style declares
  style-merged : (place : ℕ) (row z : List ℕ) (s : StyleNumbers) → s ≡ numbers_at (drop place styles)
      → Merged c row z (record { pseudo = pseudo; slot = s.slot; candidate = record { weight = record { important = s.important; origin = origin; spec = spec }; value = s.value } })
      → z ≡ merged_row c row (style_declared place ∷ [])
  unfolding from_rule rule_style read_styled in_numbers
  style-merged place row z s e m = m.numbers ∙ rw e (sym (merged-more c row (style_declared place) [] ∙ merged-none c _))

  module _ (n place : ℕ) (row : List ℕ) (m : StylesMerging n place row) where
    -- a style is merged
    pub styles-more : 0 < n → (fewer : ℕ) → fewer ≡ n - 1 → (s : StyleNumbers) → s ≡ numbers_at (drop place styles) → (z : List ℕ)
        → Merged c row z (record { pseudo = pseudo; slot = s.slot; candidate = record { weight = record { important = s.important; origin = origin; spec = spec }; value = s.value } })
        → (next : ℕ) → drop next styles ≡ drop (place + style_width) styles → StylesMerging fewer next z
    styles-more h fewer q s e z d next p =
        rw q (
        record {
          merging = merging-more c row₀ _ row _ m.merging (style_declared place ∷ []) (styles_declared (n - 1) next) (one-declared n place next h p) z (style-merged place row z s e d);
        })

    -- when none is left, all styles are merged into the row
    pub styles-done : n ≤ 0 → row ≡ merged_row c row₀ (styles_declared count at)
    styles-done h = merging-done c row₀ _ row _ m.merging (none-declared n place h)

-- ---- the styles that are kept for a rule
module _ (styles : List ℕ) (at n : ℕ) (e : n ≡ get_or styles (at + kept_count) 0) where
  -- where their count is 0, no styles are kept
  pub kept-none : n ≡ 0 → (read_kept (drop at styles)).value ≡ []
  unfolding read_kept read_many
  kept-none z = rw (get_or-drop at styles kept_count 0, ← e, z)

  -- their rows lie behind their count
  pub kept-rows : (first : ℕ) → drop first styles ≡ drop (at + kept_head) styles → (read_many read_styled n (drop first styles)).value ≡ (read_kept (drop at styles)).value
  unfolding read_kept
  kept-rows first p = rw (e, p, get_or-drop at styles kept_count 0, drop-drop kept_head at styles)

  -- the place behind their rows is where the styles of the next rule are kept
  pub behind-kept : (place : ℕ) → drop place styles ≡ drop (at + (kept_head + style_width * n)) styles → drop place styles ≡ (read_kept (drop at styles)).rest
  unfolding read_kept read_styled
  behind-kept place p =
      p ∙ sym (drop-drop (kept_head + style_width * n) at styles)
      ∙ sym (drop-drop (style_width * n) kept_head (drop at styles))
      ∙ ap (λ (k : ℕ). drop (style_width * k) (drop kept_head (drop at styles))) (e ∙ sym (get_or-drop at styles kept_count 0))
      ∙ sym (many-rest read_styled style_width (λ _. refl) (get_or (drop at styles) kept_count 0) (drop kept_head (drop at styles)))

-- ---- returns of `merge_selector`: the components of the selector at a place
module _ (c : Cascade) (origin : ℕ) (p : Path) (ds : List (Styled Value)) (texts rows : List ℕ) (at : ℕ) (components : List Component) (lent : components ≡ (read_selector texts (drop at rows)).value.components) where
  -- what the selector declares
  abbrev selector_declared : List (Declared Value)
  selector_declared = map (from_rule origin) (selector_says p ds (read_selector texts (drop at rows)).value)

  module _ (m : Bool) (em : m ≡ matches components p) where
    -- what is asked is whether it matches
    matched : m ≡ matches (read_selector texts (drop at rows)).value.components p
    matched = em ∙ ap (λ cs. matches cs p) lent

    -- it does not match
    pub selector-fails : m ≡ false → (row : List ℕ) → row ≡ merged_row c row selector_declared
    unfolding selector_says
    selector-fails h row =
        sym (ap (λ (xs : List (RuleStyle Value)). merged_row c row (map (from_rule origin) xs)) (sym (pick-false _ _ _ _ (sym matched ∙ h) refl)) ∙ merged-none c row)

    -- it matches: what is merged for its pseudo element and specificity is what it declares
    pub selector-holds : m ≡ true → (pseudo : ℕ) → pseudo ≡ pseudo_number (pseudo_from (get_or (drop at rows) selector_pseudo 0))
        → (spec : Specificity) → spec ≡ specificity components → (row z : List ℕ)
        → z ≡ merged_row c row (map (from_rule origin) (map (rule_style pseudo spec) ds)) → z ≡ merged_row c row selector_declared
    unfolding selector_says read_selector
    selector-holds h pseudo q spec es row z ez =
        let s = (read_selector texts (drop at rows)).value in
        let l : spec ≡ specificity s.components = es ∙ ap specificity lent in
        let g : map (rule_style pseudo spec) ds ≡ selector_says p ds s = pick_true _ _ _ _ (sym matched ∙ h) (rw (q, l)) in
        ez ∙ ap (λ (xs : List (RuleStyle Value)). merged_row c row (map (from_rule origin) xs)) g

-- ---- turns of `merge_selectors`
module _ (c : Cascade) (origin : ℕ) (p : Path) (ds : List (Styled Value)) (texts rows : List ℕ) (count at : ℕ) (row₀ : List ℕ) where
  -- what n selectors from a place on declare
  abbrev pub selectors_declared : ℕ → ℕ → List (Declared Value)
  selectors_declared n place = map (from_rule origin) (selectors_say p ds (read_many (read_selector texts) n (drop place rows)).value)

  -- what is left to merge of n selectors from a place on is what was to be merged
  pub record SelectorsMerging (n place : ℕ) (row : List ℕ) : Type 0 where
    pub merging : Merging c row₀ (selectors_declared count at) row (selectors_declared n place)
    pub passing : Passing read_selector rows count at n place

  -- nothing is merged yet
  pub selectors-begin : (n : ℕ) → n ≡ count → SelectorsMerging n at row₀
  selectors-begin n e = rw e (record { merging = merging-begin c row₀ _; passing = λ _. refl })

  -- the first of them, and the others
  one-selector : (n place next : ℕ) → 0 < n → drop next rows ≡ (read_selector texts (drop place rows)).rest
      → selectors_declared n place ≡ map (from_rule origin) (selector_says p ds (read_selector texts (drop place rows)).value) ++ selectors_declared (n - 1) next
  unfolding read_many selectors_say
  one-selector zero place next h e = absurd (omega arith)
  one-selector (suc k) place next h e =
      let q : suc k - 1 ≡ k = omega arith in
      let s = read_selector texts (drop place rows) in
      rw (q, e) (map-append (from_rule origin) (selector_says p ds s.value) (selectors_say p ds (read_many (read_selector texts) k s.rest).value))

  -- no selectors from a place on declare nothing
  none-selected : (n place : ℕ) → n ≤ 0 → selectors_declared n place ≡ []
  unfolding read_many selectors_say
  none-selected zero place h = refl
  none-selected (suc k) place h = absurd (omega arith)

  module _ (n place : ℕ) (row : List ℕ) (m : SelectorsMerging n place row) where
    -- a selector is merged
    pub selectors-more : 0 < n → (fewer : ℕ) → fewer ≡ n - 1 → (z : List ℕ) → z ≡ merged_row c row (map (from_rule origin) (selector_says p ds (read_selector texts (drop place rows)).value))
        → (next : ℕ) → ((texts : List ℕ) → drop next rows ≡ (read_selector texts (drop place rows)).rest) → SelectorsMerging fewer next z
    selectors-more h fewer q z ez next e =
        rw q (
        record {
          merging = merging-more c row₀ _ row _ m.merging _ (selectors_declared (n - 1) next) (one-selector n place next h (e texts)) z ez;
          passing = passing-more read_selector rows count at n place m.passing h next e;
        })

    -- when none is left, all selectors are merged, and the place is behind them
    pub selectors-done : n ≤ 0 → (row ≡ merged_row c row₀ (selectors_declared count at)) × (drop place rows ≡ (read_many (read_selector texts) count (drop at rows)).rest)
    selectors-done h = (merging-done c row₀ _ row _ m.merging (none-selected n place h), passing-done read_selector rows count at n place m.passing h texts)

-- ---- returns of `merge_rule`
-- a choice between nothing and nothing is nothing
nothing-picked : (b : Bool) → pick {A = List (RuleStyle Value)} b [] [] ≡ []
unfolding pick
nothing-picked true = refl
nothing-picked false = refl

-- selectors without styles say nothing
unsaid : (p : Path) (ss : List Selector) → selectors_say {A = Value} p [] ss ≡ []
unfolding selectors_say selector_says
unsaid p [] = refl
unsaid p (s ∷ ss) = ap (λ (xs : List (RuleStyle Value)). xs ++ selectors_say p [] ss) (nothing-picked (matches s.components p)) ∙ unsaid p ss

module _ (c : Cascade) (origin : ℕ) (p : Path) (texts rows : List ℕ) (at : ℕ) (styles : List ℕ) (first n : ℕ) (en : n ≡ get_or styles (first + kept_count) 0) where
  -- what the rule declares
  abbrev rule_declared : List (Declared Value)
  rule_declared = map (from_rule origin) (selectors_say p (read_kept (drop first styles)).value (read_rule texts (drop at rows)).value.selectors)

  -- no style is kept for it
  pub rule-unstyled : n ≡ 0 → (row : List ℕ) → row ≡ merged_row c row rule_declared
  rule-unstyled z row =
      sym (ap (λ (ds : List (Styled Value)). merged_row c row (map (from_rule origin) (selectors_say p ds (read_rule texts (drop at rows)).value.selectors))) (kept-none styles first n en z)
      ∙ ap (λ (xs : List (RuleStyle Value)). merged_row c row (map (from_rule origin) xs)) (unsaid p (read_rule texts (drop at rows)).value.selectors)
      ∙ merged-none c row)

  -- some are: its selectors with them, and the place behind its declarations
  pub rule-merged : (kept : ℕ) → drop kept styles ≡ drop (first + kept_head) styles → (selectors start : ℕ) → selectors ≡ get_or rows (at + rule_selectors) 0
      → drop start rows ≡ drop (at + rule_head) rows → (row z : List ℕ)
      → z ≡ merged_row c row (map (from_rule origin) (selectors_say p (read_many read_styled n (drop kept styles)).value (read_many (read_selector texts) selectors (drop start rows)).value))
      → z ≡ merged_row c row rule_declared
  rule-merged kept ek selectors start es ep row z ez = ez ∙ rw (kept-rows styles first n en kept ek, rule-selectors texts rows at selectors start es ep)

-- numbers that decide for the selectors of a rule decide for them as they are lent
pub lent-tops : (nodes attributes text : List ℕ) (row : ℕ) (texts rows : List ℕ) (at selectors start : ℕ) → selectors ≡ get_or rows (at + rule_selectors) 0 → drop start rows ≡ drop (at + rule_head) rows
    → (t : List ℕ) → RightTops nodes attributes text row (read_rule texts (drop at rows)).value.selectors t → RightTops nodes attributes text row (read_many (read_selector texts) selectors (drop start rows)).value t
lent-tops nodes attributes text row texts rows at selectors start es ep t r = rw (rule-selectors texts rows at selectors start es ep) r

-- the place behind the rule, from that behind its selectors
pub behind-merged : (texts rows : List ℕ) (at selectors start : ℕ) → selectors ≡ get_or rows (at + rule_selectors) 0 → drop start rows ≡ drop (at + rule_head) rows
    → (behind : ℕ) → drop behind rows ≡ (read_many (read_selector texts) selectors (drop start rows)).rest
    → (n place : ℕ) → n ≡ get_or rows (at + rule_declarations) 0 → drop place rows ≡ drop (behind + declaration_width * n) rows
    → drop place rows ≡ (read_rule texts (drop at rows)).rest
unfolding read_rule
behind-merged texts rows at selectors start es ep behind eb n place en e =
    e ∙ sym (drop-drop (declaration_width * n) behind rows)
    ∙ sym (declaration-rest texts n (drop behind rows))
    ∙ rw (eb, es, ep, en, get_or-drop at rows rule_selectors 0, get_or-drop at rows rule_declarations 0, drop-drop rule_head at rows)

-- ---- turns of `merge_rules`
module _ (c : Cascade) (origin : ℕ) (p : Path) (texts rows : List ℕ) (count at : ℕ) (styles : List ℕ) (first : ℕ) (row₀ : List ℕ) where
  -- what n rules from a place on declare, with the styles that are kept from another on
  abbrev pub rules_declared : ℕ → ℕ → ℕ → List (Declared Value)
  rules_declared n place kept = map (from_rule origin) (rules_say p (rules_kept texts n (drop place rows) (drop kept styles)))

  -- what is left to merge of n rules from a place on is what was to be merged
  pub record RulesMerging (n place kept : ℕ) (row : List ℕ) : Type 0 where
    pub merging : Merging c row₀ (rules_declared count at first) row (rules_declared n place kept)

  -- nothing is merged yet
  pub rules-begin : (n : ℕ) → n ≡ count → RulesMerging n at first row₀
  rules-begin n e = rw e (record { merging = merging-begin c row₀ _ })

  -- the first of them, and the others
  one-rule : (n place kept next later : ℕ) → 0 < n → drop next rows ≡ (read_rule texts (drop place rows)).rest → drop later styles ≡ (read_kept (drop kept styles)).rest
      → rules_declared n place kept
      ≡ map (from_rule origin) (selectors_say p (read_kept (drop kept styles)).value (read_rule texts (drop place rows)).value.selectors) ++ rules_declared (n - 1) next later
  unfolding rules_kept rules_say
  one-rule zero place kept next later h e f = absurd (omega arith)
  one-rule (suc k) place kept next later h e f =
      let q : suc k - 1 ≡ k = omega arith in
      let r = read_rule texts (drop place rows) in
      let s = read_kept (drop kept styles) in
      rw (q, e, f) (map-append (from_rule origin) (selectors_say p s.value r.value.selectors) (rules_say p (rules_kept texts k r.rest s.rest)))

  -- no rules from a place on declare nothing
  no-rule : (n place kept : ℕ) → n ≤ 0 → rules_declared n place kept ≡ []
  unfolding rules_kept rules_say
  no-rule zero place kept h = refl
  no-rule (suc k) place kept h = absurd (omega arith)

  module _ (n place kept : ℕ) (row : List ℕ) (m : RulesMerging n place kept row) where
    -- a rule is merged
    pub rules-more : 0 < n → (fewer : ℕ) → fewer ≡ n - 1 → (z : List ℕ)
        → z ≡ merged_row c row (map (from_rule origin) (selectors_say p (read_kept (drop kept styles)).value (read_rule texts (drop place rows)).value.selectors))
        → (next : ℕ) → drop next rows ≡ (read_rule texts (drop place rows)).rest → (later : ℕ) → drop later styles ≡ (read_kept (drop kept styles)).rest
        → RulesMerging fewer next later z
    rules-more h fewer q z ez next e later f =
        rw q (
        record { merging = merging-more c row₀ _ row _ m.merging _ (rules_declared (n - 1) next later) (one-rule n place kept next later h e f) z ez })

    -- when none is left, all rules are merged into the row
    pub rules-done : n ≤ 0 → row ≡ merged_row c row₀ (rules_declared count at first)
    rules-done h = merging-done c row₀ _ row _ m.merging (no-rule n place kept h)
