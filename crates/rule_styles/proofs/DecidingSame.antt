-- The styles of a rule that decide leave what all its styles leave: a computed style, and so what many rules leave.
use mathlib.Core.Path.{◌≡◌, refl, sym, ap, ◌∙◌}
use mathlib.Core.Bool.{Bool, true, false}
use mathlib.Core.List.{List, [], ◌∷◌, ◌++◌, map, foldl}
use mathlib.Core.Logic.{⊎_elim}
use Prim.Native.Nat.{ℕ, ◌≤◌, ◌<◌}
use lib.Dec.{ltb}
use lib.ListN.{length}
use borrow.Author.Tests.{lt-ltb, le-ltb}
use Rattle.combinators.specs.Choice.{pick}
use Rattle.combinators.proofs.Rules.{pick-false, and_left, and-gives, lt-or-ge}
use Rattle.syntax.specs.Selector.{Selector}
use Rattle.syntax.specs.RuleLayout.{pseudo_number}
use Rattle.cascade.specs.declared.specificity.Specificity.{Specificity}
use Rattle.cascade.specs.declared.slots.Cascade.{Cascade}
use Rattle.cascade.specs.Slot.{Slot, update_by}
use Rattle.cascade.specs.Record.{slot_count, record_count, Record, ComputedStyle, Formed, update_record, update_style, Declared, is_named, merge_by, Styled, RuleStyle, from_rule}
use Rattle.cascade.proofs.RowLaws.{Which, is_main, is_before, is_after, which, update-main, update-before, update-after}
use Rattle.cascade.proofs.Cascading.{merges-formed}
use Rattle.page.specs.Path.{Path}
use Rattle.matching.specs.Matches.{matches}
use Rattle.matching.specs.Specificity.{specificity}
use Rattle.styles.specs.Said.{StyledRule, rule_style, selector_says, selectors_say, rules_say}
use Rattle.rule_styles.specs.Deciding.{deciding, deciding_rule}
use Rattle.rule_styles.proofs.DecidingUpdate.{candidate_of, update_from, rule-settled}
use Rattle.rule_styles.proofs.DecidingRecord.{merged_into, record-decided}

-- what the styles of a rule declare
abbrev pub declared_in : {A : Type 0} → ℕ → ℕ → Specificity → List (Styled A) → List (Declared A)
declared_in o r p xs = map (from_rule o) (map (rule_style r p) xs)

-- a record that there is not is not named
no_record : (r k : ℕ) → record_count ≤ r → is_named r k ≡ false
unfolding is_named
no_record r k h = and_left _ _ (le-ltb r record_count h)

module _ {A : Type 0} (c : Cascade) (o r : ℕ) (p : Specificity) where
  -- one style merged into a computed style
  abbrev one : ComputedStyle A → Styled A → ComputedStyle A
  one s d = merge_by (update_by c) s (from_rule o (rule_style r p d))

  -- and into its record
  abbrev into : Record A → Styled A → Record A
  into = merged_into (update_from c o p)

  -- ---- no such record: nothing changes
  -- one style of a record that there is not leaves the computed style as it is
  one-nowhere : record_count ≤ r → (s : ComputedStyle A) (d : Styled A) → one s d ≡ s
  unfolding merge_by from_rule rule_style
  one-nowhere h s d = sym (pick-false _ _ _ _ (no_record r d.slot h) refl)

  -- many styles of a record that there is not leave the computed style as it is, too
  all-nowhere : record_count ≤ r → (xs : List (Styled A)) (s : ComputedStyle A) → foldl (merge_by (update_by c)) s (declared_in o r p xs) ≡ s
  all-nowhere h [] s = refl
  all-nowhere h (d ∷ xs) s = all-nowhere h xs (one s d) ∙ one-nowhere h s d

  -- ---- a record that there is: only its slots decide
  -- one style updates its slot where there is such a slot, and else leaves the computed style as it is
  one-there : r < record_count → (s : ComputedStyle A) (d : Styled A)
      → one s d ≡ pick (ltb d.slot slot_count) (update_style r d.slot (λ x. update_from c o p x d) s) s
  unfolding merge_by from_rule rule_style update_from candidate_of is_named
  one-there h s d =
      ap (λ (t : Bool). pick t (update_style r d.slot (λ x. update_from c o p x d) s) s) (sym (and-gives _ _ _ (lt-ltb r record_count h) refl))

  -- a style put where the record is
  module _ (put : Record A → ComputedStyle A → ComputedStyle A) (get : ComputedStyle A → Record A)
      (updated : (k : ℕ) (u : Slot A → Slot A) (s : ComputedStyle A) → update_style r k u s ≡ put (update_record k u (get s)) s)
      (put-get : (s : ComputedStyle A) → put (get s) s ≡ s)
      (get-put : (q : Record A) (s : ComputedStyle A) → get (put q s) ≡ q)
      (put-put : (q t : Record A) (s : ComputedStyle A) → put t (put q s) ≡ put t s)
      (h : r < record_count) where
    -- one style changes that record alone
    one-put : (s : ComputedStyle A) (d : Styled A) → one s d ≡ put (into (get s) d) s
    unfolding merged_into pick
    one-put s d = one-there h s d ∙ go (ltb d.slot slot_count)
      where
        go : (t : Bool) → pick t (update_style r d.slot (λ x. update_from c o p x d) s) s ≡ put (pick t (update_record d.slot (λ x. update_from c o p x d) (get s)) (get s)) s
        go true = updated d.slot (λ x. update_from c o p x d) s
        go false = sym (put-get s)

    -- many styles of a record are merged in that record alone, too
    all-put : (xs : List (Styled A)) (s : ComputedStyle A) → foldl (merge_by (update_by c)) s (declared_in o r p xs) ≡ put (foldl into (get s) xs) s
    all-put [] s = sym (put-get s)
    all-put (d ∷ xs) s =
        all-put xs (one s d)
        ∙ ap (λ (t : ComputedStyle A). put (foldl into (get t) xs) t) (one-put s d)
        ∙ ap (λ (q : Record A). put (foldl into q xs) (put (into (get s) d) s)) (get-put (into (get s) d) s)
        ∙ put-put (into (get s) d) (foldl into (into (get s) d) xs) s

    -- so what decides in that record decides in the style
    same-put : (s : ComputedStyle A) → length (get s).slots ≡ slot_count → (xs : List (Styled A))
        → foldl (merge_by (update_by c)) s (declared_in o r p (deciding xs)) ≡ foldl (merge_by (update_by c)) s (declared_in o r p xs)
    same-put s w xs =
        all-put (deciding xs) s ∙ ap (λ (q : Record A). put q s) (record-decided (update_from c o p) (rule-settled c o p) xs (get s) w) ∙ sym (all-put xs s)

  -- the styles that decide leave the computed style that all styles of the rule leave
  pub deciding-same : (s : ComputedStyle A) → Formed s → (xs : List (Styled A))
      → foldl (merge_by (update_by c)) s (declared_in o r p (deciding xs)) ≡ foldl (merge_by (update_by c)) s (declared_in o r p xs)
  deciding-same s f xs = ⊎_elim (λ (h : r < record_count). go h (which r h)) (λ (h : record_count ≤ r). all-nowhere h (deciding xs) s ∙ sym (all-nowhere h xs s)) (lt-or-ge r record_count)
    where
      go : r < record_count → Which r → foldl (merge_by (update_by c)) s (declared_in o r p (deciding xs)) ≡ foldl (merge_by (update_by c)) s (declared_in o r p xs)
      go h (is_main e) =
          same-put (λ q t. record { main = q; before = t.before; after = t.after }) (λ t. t.main) (λ k u t. update-main r k u t e) (λ t. refl) (λ q t. refl) (λ q v t. refl) h s f.main xs
      go h (is_before e) =
          same-put (λ q t. record { main = t.main; before = q; after = t.after }) (λ t. t.before) (λ k u t. update-before r k u t e) (λ t. refl) (λ q t. refl) (λ q v t. refl) h s f.before xs
      go h (is_after e) =
          same-put (λ q t. record { main = t.main; before = t.before; after = q }) (λ t. t.after) (λ k u t. update-after r k u t e) (λ t. refl) (λ q t. refl) (λ q v t. refl) h s f.after xs

-- ---- many selectors, and many rules
module _ {A : Type 0} (c : Cascade) (o : ℕ) (p : Path) where
  -- what is left where rules say this
  abbrev left : ComputedStyle A → List (RuleStyle A) → ComputedStyle A
  left s xs = foldl (merge_by (update_by c)) s (map (from_rule o) xs)

  -- what is said behind other things is merged behind them
  left-append : (s : ComputedStyle A) (xs ys : List (RuleStyle A)) → left s (xs ++ ys) ≡ left (left s xs) ys
  left-append s [] ys = refl
  left-append s (x ∷ xs) ys = left-append (merge_by (update_by c) s (from_rule o x)) xs ys

  -- with the styles of many rules merged, a style has all its slots still
  left-formed : (s : ComputedStyle A) (xs : List (RuleStyle A)) → Formed s → Formed (left s xs)
  left-formed s xs f = merges-formed (update_by c) (map (from_rule o) xs) s f

  -- what a selector says, where it matches and where it does not
  pub selector-same : (xs : List (Styled A)) (i : Selector) (s : ComputedStyle A) → Formed s → left s (selector_says p (deciding xs) i) ≡ left s (selector_says p xs i)
  unfolding selector_says pick
  selector-same xs i s f = go (matches i.components p)
    where
      go : (t : Bool)
          → left s (pick t (map (rule_style (pseudo_number i.pseudo) (specificity i.components)) (deciding xs)) [])
          ≡ left s (pick t (map (rule_style (pseudo_number i.pseudo) (specificity i.components)) xs) [])
      go true = deciding-same c o (pseudo_number i.pseudo) (specificity i.components) s f xs
      go false = refl

  -- the selectors of a rule
  pub selectors-same : (xs : List (Styled A)) (is : List Selector) (s : ComputedStyle A) → Formed s → left s (selectors_say p (deciding xs) is) ≡ left s (selectors_say p xs is)
  unfolding selectors_say
  selectors-same xs [] s f = refl
  selectors-same xs (i ∷ is) s f =
      left-append s (selector_says p (deciding xs) i) (selectors_say p (deciding xs) is)
      ∙ ap (λ (t : ComputedStyle A). left t (selectors_say p (deciding xs) is)) (selector-same xs i s f)
      ∙ selectors-same xs is (left s (selector_says p xs i)) (left-formed s (selector_says p xs i) f)
      ∙ sym (left-append s (selector_says p xs i) (selectors_say p xs is))

  -- rules with the styles that decide leave the computed style that the rules leave
  pub rules-same : (rs : List (StyledRule A)) (s : ComputedStyle A) → Formed s → left s (rules_say p (map deciding_rule rs)) ≡ left s (rules_say p rs)
  unfolding rules_say deciding_rule
  rules-same [] s f = refl
  rules-same (r ∷ rs) s f =
      left-append s (selectors_say p (deciding r.styles) r.selectors) (rules_say p (map deciding_rule rs))
      ∙ ap (λ (t : ComputedStyle A). left t (rules_say p (map deciding_rule rs))) (selectors-same r.styles r.selectors s f)
      ∙ rules-same rs (left s (selectors_say p r.styles r.selectors)) (left-formed s (selectors_say p r.styles r.selectors) f)
      ∙ sym (left-append s (selectors_say p r.styles r.selectors) (rules_say p rs))
