-- What the crate's cascade leaves in the slots before that of visibility does not rest on declarations of it; and where none is for that slot, a pseudo record is
-- present exactly if one of the slots before it is filled.
use Prim.Native.Nat.{ℕ, zero, suc, ◌≤◌, ◌<◌}
use native.Mathlib.Omega.{arith}
use mathlib.Core.Bool.{Bool, true, false}
use mathlib.Core.List.{List, [], ◌∷◌, ◌++◌, foldl}
use mathlib.Core.Logic.{⊎_elim}
use mathlib.Core.Path.{◌≡◌, refl, sym, ap, ap₂, ◌∙◌}
use lib.ListN.{length}
use Rattle.combinators.specs.All.{All}
use Rattle.combinators.specs.Choice.{pick, or, and, is}
use Rattle.combinators.proofs.Rules.{never, pick-false, pick-holds, or_left, or-second, or-none, or-false, and_both, and_right, and-true, is-yes, is-no, is_true, lt-or-ge}
use Rattle.syntax.specs.Layout.{visibility_slot}
use Rattle.syntax.specs.Selector.{RuleSet}
use Rattle.syntax.specs.Style.{StyleValue}
use Rattle.cascade.specs.declared.slots.Cascade.TheVariants.{Crate}
use Rattle.cascade.specs.Slot.{Candidate, Slot, empty, held, maybe_update, update_by}
use Rattle.cascade.specs.Record.{slot_count, record_count, main_record, ComputedStyle, Formed, record_in, slot_in, empty_record, empty_style, Declared, is_named, merge_by, inherit, inherit_by, finish_by, Sources, crate_declared, declared_by, cascade_by, candidates_for}
use Rattle.cascade.proofs.Cascading.{merge-present, stays-formed, leaves-alone, updates, formed-record, inherit-formed, inherit-slot, crate-folds}
use Rattle.cascade.proofs.Defaulting.{empty-slot}
use Rattle.cascade.proofs.Merging.{named, named-says}
use Rattle.cascade.proofs.RowLaws.{Which, is_main, is_before, is_after, which}
use Rattle.page.specs.Path.{Path}
use Rattle.styles.specs.declared.settings.Settings.{Settings}
use Rattle.styles.specs.Said.{Rules, sources_from, meant_rules, counted_attributes, attributes_say}
use Rattle.styles.specs.Computed.{cascaded, sources_along, computed_style}
use Rattle.styles.proofs.Called.{cascaded-formed}
use Rattle.agreement.specs.VisibilityAside.{rules_without, attributes_say_without, sources_without, style_without, is_held, one_held, VisibilityAside}
use Rattle.agreement.proofs.StylesWithout.{others, others-differ}
use Rattle.agreement.proofs.DeclaredWithout.{declared_slot, declared-without}

-- ---- the slots
-- what is for the slot of visibility is no candidate for a slot before it
candidates-without : (r k : ℕ) → k < visibility_slot → (ds : List (Declared StyleValue)) → candidates_for r k (others declared_slot ds) ≡ candidates_for r k ds
unfolding candidates_for others
candidates-without r k l [] = refl
candidates-without r k l (d ∷ ds) =
    pick-holds (λ (ms : List (Declared StyleValue)). candidates_for r k (ms ++ others declared_slot ds) ≡ own ++ candidates_for r k ds) (is d.slot visibility_slot) [] (d ∷ [])
    (λ e. candidates-without r k l ds ∙ ap (λ (cs : List (Candidate StyleValue)). cs ++ candidates_for r k ds) (none (is_true d.slot visibility_slot e)))
    (λ _. ap (λ (cs : List (Candidate StyleValue)). own ++ cs) (candidates-without r k l ds))
  where
    own : List (Candidate StyleValue)
    own = pick (and (is d.pseudo r) (is d.slot k)) (d.candidate ∷ []) []

    none : d.slot ≡ visibility_slot → [] ≡ own
    none e = pick-false [] _ _ _ (and_right _ _ (is-no d.slot k (λ z. omega arith))) refl

module _ (rules : Rules RuleSet) (settings : Settings) (r k : ℕ) (h : r < record_count) (l : k < visibility_slot) where
  -- a slot before that of visibility is the same without declarations of it
  slots-aside : (p : Path) → slot_in (cascaded Crate (sources_along rules settings p)) r k ≡ slot_in (cascaded Crate (sources_without rules settings p)) r k
  unfolding cascaded sources_along sources_without
  slots-aside [] = refl
  slots-aside (e ∷ up) =
      let x = sources_from (meant_rules rules) (attributes_say (counted_attributes settings e)) (e ∷ up) in
      let y = sources_from (meant_rules (rules_without rules)) (attributes_say_without (counted_attributes settings e)) (e ∷ up) in
      crate-folds (cascaded Crate (sources_along rules settings up)) x r k (cascaded-formed Crate (sources_along rules settings up)) h (omega arith)
      ∙ ap₂ (λ (s : Slot StyleValue) (cs : List (Candidate StyleValue)). foldl maybe_update s cs) (slots-aside up)
      (sym (ap (candidates_for r k) (declared-without rules (counted_attributes settings e) (e ∷ up)) ∙ candidates-without r k l (crate_declared x)))
      ∙ sym (crate-folds (cascaded Crate (sources_without rules settings up)) y r k (cascaded-formed Crate (sources_without rules settings up)) h (omega arith))

-- ---- whether one of the first slots is filled
module _ {A : Type 0} (r : ℕ) where
  -- of styles with the same first slots both have one filled, or neither
  held-alike : (s t : ComputedStyle A) (n : ℕ) → ((k : ℕ) → k < n → slot_in s r k ≡ slot_in t r k) → one_held s r n ≡ one_held t r n
  unfolding one_held
  held-alike s t zero e = refl
  held-alike s t (suc n) e = ap₂ or (ap is_held (e n (omega arith))) (held-alike s t n (λ k l. e k (omega arith)))

  -- where one of them is filled, one is
  one-there : (s : ComputedStyle A) (n k : ℕ) → k < n → is_held (slot_in s r k) ≡ true → one_held s r n ≡ true
  unfolding one_held
  one-there s zero k l e = absurd (omega arith)
  one-there s (suc n) k l e =
      ⊎_elim (λ (m : k < n). or-second _ _ (one-there s n k m e)) (λ (m : n ≤ k). or_left _ _ (ap (λ j. is_held (slot_in s r j)) (let q : n ≡ k = omega arith in q) ∙ e)) (lt-or-ge k n)

  -- where all are empty, none is
  none-there : (s : ComputedStyle A) (n : ℕ) → ((k : ℕ) → k < n → slot_in s r k ≡ empty) → one_held s r n ≡ false
  unfolding one_held
  none-there s zero e = refl
  none-there s (suc n) e = or-none _ _ (ap is_held (e n (omega arith)) ∙ (unfold is_held in refl)) (none-there s n (λ k l. e k (omega arith)))

-- the crate's update leaves a slot filled
update-holds : {A : Type 0} (s : Slot A) (x : Candidate A) → is_held (update_by Crate s x) ≡ true
unfolding update_by maybe_update is_held
update-holds empty x = refl
update-holds {A = A} (held c) x = pick-holds (λ (s : Slot A). is_held s ≡ true) _ (held c) (held x) (λ _. refl) (λ _. refl)

-- ---- a record is present exactly if one of its slots before that of visibility is filled
abbrev Filled : {A : Type 0} → ℕ → ComputedStyle A → Type 0
Filled r s = one_held s r visibility_slot ≡ (record_in s r).present

module _ {A : Type 0} (r : ℕ) (h : r < record_count) where
  -- this stays so behind a declaration for another slot
  merge-filled : (s : ComputedStyle A) (d : Declared A) → length (record_in s r).slots ≡ slot_count → ¬ (d.slot ≡ visibility_slot) → Filled r s → Filled r (merge_by (update_by Crate) s d)
  merge-filled s d w n f = go (and (is_named d.pseudo d.slot) (is d.pseudo r)) refl
    where
      t : ComputedStyle A
      t = merge_by (update_by Crate) s d

      go : (b : Bool) → and (is_named d.pseudo d.slot) (is d.pseudo r) ≡ b → Filled r t
      go true e =
          let a = and-true _ _ e in
          let l = (named-says d.pseudo d.slot a.0).1 in
          let u = updates (update_by Crate) s d r h d.slot l w (is_true d.pseudo r a.1) refl in
          one-there r t visibility_slot d.slot (omega (arith, n, l)) (ap is_held u ∙ update-holds (slot_in s r d.slot) d.candidate)
          ∙ sym (merge-present (update_by Crate) s d r h ∙ or-second (record_in s r).present _ e)
      go false e =
          held-alike r t s visibility_slot (λ k l. leaves-alone (update_by Crate) s d r h k (λ z. never (sym e ∙ names k l z.0 z.1)))
          ∙ f ∙ sym (merge-present (update_by Crate) s d r h ∙ or-false (record_in s r).present _ e)
        where
          names : (k : ℕ) → k < visibility_slot → d.pseudo ≡ r → d.slot ≡ k → and (is_named d.pseudo d.slot) (is d.pseudo r) ≡ true
          names k l p q = and_both _ _ (rw (p, q) (named r k h (omega arith))) (is-yes d.pseudo r p)

  -- and behind many such
  merges-filled : (ds : List (Declared A)) (s : ComputedStyle A) → length (record_in s r).slots ≡ slot_count → All (λ d. ¬ (d.slot ≡ visibility_slot)) ds → Filled r s
      → Filled r (foldl (merge_by (update_by Crate)) s ds)
  merges-filled [] s w n f = f
  merges-filled (d ∷ ds) s w n f = merges-filled ds (merge_by (update_by Crate) s d) (stays-formed (update_by Crate) s d r h w) n.1 (merge-filled s d w n.0 f)

  module _ (other : ¬ (r ≡ main_record)) where
    -- and in a pseudo record of a child before anything is declared, which is its parent's
    inherit-filled : (s : ComputedStyle A) → Filled r s → Filled r (inherit s)
    inherit-filled s f = held-alike r (inherit s) s visibility_slot (λ k l. inherit-slot s r k h) ∙ f ∙ sym (inherited (which r h))
      where
        inherited : Which r → (record_in (inherit s) r).present ≡ (record_in s r).present
        inherited (is_main e) = absurd (other e)
        inherited (is_before e) = rw e (unfold record_in inherit pick is in refl)
        inherited (is_after e) = rw e (unfold record_in inherit pick is in refl)

    -- so it is in the crate's cascade, where nothing is declared for the slot of visibility
    cascade-filled : (s : ComputedStyle A) (x : Sources A) → Formed s → All (λ d. ¬ (d.slot ≡ visibility_slot)) (crate_declared x) → Filled r s → Filled r (cascade_by Crate s x)
    unfolding cascade_by inherit_by declared_by finish_by
    cascade-filled s x w n f = merges-filled (crate_declared x) (inherit s) (formed-record (inherit s) r (inherit-formed s w) h) n (inherit-filled s f)

-- the style in which nothing is declared has no pseudo record, and no slot that is filled
empty-filled : (A : Type 0) (r : ℕ) → r < record_count → ¬ (r ≡ main_record) → Filled r (empty_style {A = A})
empty-filled A r h other = none-there r (empty_style {A = A}) visibility_slot (λ k l. empty-slot r k (omega arith)) ∙ sym (absent (which r h))
  where
    absent : Which r → (record_in (empty_style {A = A}) r).present ≡ false
    absent (is_main e) = absurd (other e)
    absent (is_before e) = rw e (unfold record_in empty_style empty_record pick is in refl)
    absent (is_after e) = rw e (unfold record_in empty_style empty_record pick is in refl)

-- ---- down a path
module _ (rules : Rules RuleSet) (settings : Settings) where
  -- without declarations of visibility a pseudo record is present exactly if one of the slots before that one is filled
  presence-without : (r : ℕ) → r < record_count → ¬ (r ≡ main_record) → (p : Path) → Filled r (cascaded Crate (sources_without rules settings p))
  unfolding cascaded sources_without
  presence-without r h n [] = empty-filled StyleValue r h n
  presence-without r h n (e ∷ up) =
      cascade-filled r h n (cascaded Crate (sources_without rules settings up)) _ (cascaded-formed Crate (sources_without rules settings up))
      (rw (declared-without rules (counted_attributes settings e) (e ∷ up)) (others-differ declared_slot (crate_declared (sources_from (meant_rules rules) (attributes_say (counted_attributes settings e)) (e ∷ up)))))
      (presence-without r h n up)

-- S-9: the slots that are compared with the crate, and the pseudo records that count as present there, are those of the style without declarations of visibility
pub visibility-aside : (rules : Rules RuleSet) (settings : Settings) (p : Path) → VisibilityAside rules settings p
unfolding computed_style style_without
visibility-aside rules settings p = record {
  slots = λ r k h l. slots-aside rules settings r k h l p;
  presence = λ r h n. held-alike r _ _ visibility_slot (λ k l. slots-aside rules settings r k h l p) ∙ presence-without rules settings r h n p;
}
