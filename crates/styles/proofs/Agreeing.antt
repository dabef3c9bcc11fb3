-- Where the crate's cascade is the book's, down a path: the conditions of crates/cascade/specs/Agreeing.antt, on what the sheets and the attributes say of an
-- element and of those above it, and the computed styles that follow.
use mathlib.Core.Path.{◌≡◌, refl, sym, ap, subst, ◌∙◌}
use mathlib.Core.Bool.{Bool, true, false}
use mathlib.Core.List.{List, [], ◌∷◌, foldl}
use mathlib.Core.Logic.{◌⊎◌, inl, inr}
use Prim.Native.Nat.{ℕ, ◌<◌}
use native.Mathlib.Omega.{arith}
use Rattle.combinators.specs.All.{All}
use Rattle.combinators.specs.Choice.{pick, is}
use Rattle.combinators.proofs.Rules.{or-none, is_true, is_false}
use Rattle.combinators.proofs.AllLaws.{all_weaker}
use Rattle.syntax.specs.Selector.{RuleSet}
use Rattle.cascade.specs.declared.slots.Cascade.TheVariants.{Crate, Book}
use Rattle.cascade.specs.Slot.{Candidate, Slot, empty, held, maybe_update}
use Rattle.cascade.specs.Record.{slot_count, record_count, main_record, record_in, slot_in, empty_record, empty_style, inherits, Sources, crate_declared, declares}
use Rattle.cascade.specs.Agreeing.{declared_for, NoneDeclared, Replaces, InheritedAlike, NotInherited, NotFilled, no_record, own_value, none-handed, AuthorDown, AgreesDown}
use Rattle.cascade.proofs.RowLaws.{Which, is_main, is_before, is_after, which}
use Rattle.cascade.proofs.Cascading.{crate-folds}
use Rattle.cascade.proofs.Defaulting.{empty-slot, same-by-slots}
use Rattle.cascade.proofs.Agreeing.{Holds, holds_after, all-replace}
use Rattle.cascade.proofs.AgreeingStyles.{inheriting-same, other-same, pseudo-same, crate-present, same-presence, main-presence, author-agrees}
use Rattle.page.specs.Path.{Element, Path}
use Rattle.styles.specs.declared.settings.Settings.{Settings}
use Rattle.styles.specs.Said.{Rules, sources_from, meant_rules, counted_attributes, attributes_say}
use Rattle.styles.specs.Computed.{cascaded, sources_along, computed_style}
use Rattle.styles.proofs.Called.{cascaded-formed}

module _ {A : Type 0} where
  -- ---- a slot in the crate's cascade, down a path
  module _ (r k : ℕ) (h : r < record_count) (l : k < slot_count) where
    -- what holds of all that is declared for it holds of what is left there
    holds-down : (P : Candidate A → Type 0) (xs : List (Sources A)) → All (λ z. All P (declared_for r k z)) xs → Holds P (slot_in (cascaded Crate xs) r k)
    unfolding cascaded
    holds-down P [] a = rw (empty-slot {A = A} r k l) tt
    holds-down P (x ∷ above) a =
        rw (crate-folds (cascaded Crate above) x r k (cascaded-formed Crate above) h l)
        (holds_after P (declared_for r k x) (slot_in (cascaded Crate above) r k) (holds-down P above a.1) a.0)

    -- where nothing is declared for it, it holds nothing
    empty-down : (xs : List (Sources A)) → NoneDeclared r k xs → slot_in (cascaded Crate xs) r k ≡ empty
    empty-down xs n =
        nothing-held (slot_in (cascaded Crate xs) r k) (holds-down (λ _. ⊥) xs (all_weaker (λ z. declared_for r k z ≡ []) (λ z. All (λ _. ⊥) (declared_for r k z)) (λ z e. subst (All (λ _. ⊥)) (sym e) tt) xs n))
      where
        nothing-held : (s : Slot A) → Holds (λ _. ⊥) s → s ≡ empty
        nothing-held empty e = refl
        nothing-held (held c) e = absurd e

    -- where nothing is declared above the element, or its own declarations replace that, what it inherits makes no difference
    unmoved : (x : Sources A) (above : List (Sources A)) → NotInherited r k x above
        → foldl maybe_update (slot_in (cascaded Crate above) r k) (declared_for r k x) ≡ foldl maybe_update empty (declared_for r k x)
    unmoved x above (inl n) = ap (λ (s : Slot A). foldl maybe_update s (declared_for r k x)) (empty-down above n)
    unmoved x above (inr w) = all-replace (slot_in (cascaded Crate above) r k) (declared_for r k x) w.0 (holds-down (Replaces r k x) above w.1)

  -- ---- an inheriting slot of the main record: both cascades leave the same in it, with all its numbers
  pub slot-same-down : (k : ℕ) → k < slot_count → inherits k ≡ true → (xs : List (Sources A)) → InheritedAlike main_record k xs → slot_in (cascaded Crate xs) main_record k ≡ slot_in (cascaded Book xs) main_record k
  unfolding cascaded
  slot-same-down k l i [] a = refl
  slot-same-down k l i (x ∷ above) a =
      inheriting-same (cascaded Crate above) (cascaded Book above) x (cascaded-formed Crate above) main_record k (omega arith) l a.0 refl i (slot-same-down k l i above a.1.1)
      (holds-down main_record k (omega arith) l (Replaces main_record k x) above a.1.0)

  -- ---- a pseudo record for which nothing is declared is absent
  absent-down : (r : ℕ) → r < record_count → ¬ (r ≡ main_record) → (xs : List (Sources A)) → All (λ z. declares r (crate_declared z) ≡ false) xs → (record_in (cascaded Crate xs) r).present ≡ false
  unfolding cascaded
  absent-down r h n [] a = go (which r h)
    where
      go : Which r → (record_in (empty_style {A = A}) r).present ≡ false
      go (is_main e) = absurd (n e)
      go (is_before e) = rw e (unfold record_in empty_style empty_record pick is in refl)
      go (is_after e) = rw e (unfold record_in empty_style empty_record pick is in refl)
  absent-down r h n (x ∷ above) a = crate-present r n h (cascaded Crate above) x ∙ or-none _ _ (absent-down r h n above a.1) a.0

  -- ---- the style of an element that meets the conditions
  module _ (x : Sources A) (above : List (Sources A)) (a : AgreesDown x above) where
    -- each slot of its main record is the same
    main-same : (k : ℕ) → k < slot_count → slot_in (cascaded Crate (x ∷ above)) main_record k ≡ slot_in (cascaded Book (x ∷ above)) main_record k
    main-same k l = go (inherits k) refl
      where
        go : (t : Bool) → inherits k ≡ t → slot_in (cascaded Crate (x ∷ above)) main_record k ≡ slot_in (cascaded Book (x ∷ above)) main_record k
        go true i = slot-same-down k l i (x ∷ above) (a.inheriting k l i)
        go false i =
            let w = a.others k l i in
            unfold cascaded in other-same (cascaded Crate above) (cascaded Book above) x (cascaded-formed Crate above) main_record k (omega arith) l w.0 refl i (unmoved main_record k (omega arith) l x above w.1)

    module _ (r : ℕ) (h : r < record_count) (n : ¬ (r ≡ main_record)) where
      -- each slot of a pseudo record is
      pseudo-slot-same : (k : ℕ) → k < slot_count → slot_in (cascaded Crate (x ∷ above)) r k ≡ slot_in (cascaded Book (x ∷ above)) r k
      pseudo-slot-same k l =
          let w = a.pseudo-slots r k h n l in
          unfold cascaded in
          pseudo-same (cascaded Crate above) (cascaded Book above) x (cascaded-formed Crate above) r k h l w.0 n (unmoved r k h l x above w.1) (λ e. reason (a.pseudo-inheriting r k h n l e))
        where
          reason : NotFilled r k x above → (declares r (crate_declared x) ≡ false) ⊎ (¬ (declared_for r k x ≡ []) ⊎ (slot_in (cascaded Book (x ∷ above)) main_record k ≡ empty))
          reason (no_record e) = inl e
          reason (own_value z) = inr (inl z)
          reason (none-handed m) = inr (inr (sym (main-same k l) ∙ empty-down main_record k (omega arith) l (x ∷ above) m))

      -- and it is present in both or in neither
      pseudo-presence : (record_in (cascaded Crate (x ∷ above)) r).present ≡ (record_in (cascaded Book (x ∷ above)) r).present
      unfolding cascaded
      pseudo-presence = same-presence r n h (cascaded Crate above) (cascaded Book above) x (reason (a.pseudo-records r h n))
        where
          reason : (declares r (crate_declared x) ≡ true) ⊎ All (λ z. declares r (crate_declared z) ≡ false) above → (declares r (crate_declared x) ≡ true) ⊎ ((record_in (cascaded Crate above) r).present ≡ false)
          reason (inl e) = inl e
          reason (inr m) = inr (absent-down r h n above m)

    -- so all records are present alike
    presence-same : (r : ℕ) → r < record_count → (record_in (cascaded Crate (x ∷ above)) r).present ≡ (record_in (cascaded Book (x ∷ above)) r).present
    presence-same r h = go (is r main_record) refl
      where
        go : (t : Bool) → is r main_record ≡ t → (record_in (cascaded Crate (x ∷ above)) r).present ≡ (record_in (cascaded Book (x ∷ above)) r).present
        go true e = rw (is_true r main_record e) (unfold cascaded in main-presence (cascaded Crate above) (cascaded Book above) x)
        go false e = pseudo-presence r h (is_false r main_record e)

    -- and all slots are the same
    slots_same : (r k : ℕ) → r < record_count → k < slot_count → slot_in (cascaded Crate (x ∷ above)) r k ≡ slot_in (cascaded Book (x ∷ above)) r k
    slots_same r k h l = go (is r main_record) refl
      where
        go : (t : Bool) → is r main_record ≡ t → slot_in (cascaded Crate (x ∷ above)) r k ≡ slot_in (cascaded Book (x ∷ above)) r k
        go true e = rw (is_true r main_record e) (main-same k l)
        go false e = pseudo-slot-same r h (is_false r main_record e) k l

    -- both cascades leave the same style
    pub agrees-down : cascaded Crate (x ∷ above) ≡ cascaded Book (x ∷ above)
    agrees-down = same-by-slots _ _ (cascaded-formed Crate (x ∷ above)) (cascaded-formed Book (x ∷ above)) presence-same slots_same

-- ---- the computed styles of both cascades
module _ (rules : Rules RuleSet) (settings : Settings) where
  -- where what is said of an element and of those above it meets the conditions, both cascades compute the same style: every record present alike, and every slot
  -- with the same value, origin, specificity and importance
  pub styles-same : (e : Element) (up : Path) → AgreesDown (sources_from (meant_rules rules) (attributes_say (counted_attributes settings e)) (e ∷ up)) (sources_along rules settings up)
      → computed_style Crate rules settings (e ∷ up) ≡ computed_style Book rules settings (e ∷ up)
  unfolding computed_style sources_along
  styles-same e up a = agrees-down (sources_from (meant_rules rules) (attributes_say (counted_attributes settings e)) (e ∷ up)) (sources_along rules settings up) a

  -- sheets of the author alone without `!important`, where no declaration for an inheriting slot is less specific than one of an element above: both cascades
  -- leave the same in that slot of the main record
  pub author-slots-same : (p : Path) (k : ℕ) → k < slot_count → inherits k ≡ true → AuthorDown main_record k (sources_along rules settings p)
      → slot_in (computed_style Crate rules settings p) main_record k ≡ slot_in (computed_style Book rules settings p) main_record k
  unfolding computed_style
  author-slots-same p k l i a = slot-same-down k l i (sources_along rules settings p) (author-agrees main_record k (sources_along rules settings p) a)
