-- The styles that decide leave a record as all styles of a rule leave it: slot by slot, and present or not.
use mathlib.Core.Path.{◌≡◌, refl, sym, ap, ◌∙◌}
use mathlib.Core.Bool.{Bool, true, false}
use mathlib.Core.List.{List, [], ◌∷◌, foldl}
use mathlib.Core.Logic.{⊎_elim}
use Prim.Native.Nat.{ℕ, ◌≤◌, ◌<◌}
use native.Mathlib.Omega.{arith}
use lib.Dec.{ltb}
use lib.ListN.{length, get_or, set, length-set}
use lib.Seq.{get_or-set_same, get_or-set_other, ext_get_or}
use borrow.Author.Tests.{lt-ltb, le-ltb, ltb-true, ltb-false}
use Rattle.combinators.specs.Choice.{pick, is}
use Rattle.combinators.proofs.Rules.{pick_true, pick-false, pick-holds, same_test, is_true, is_false, lt-or-ge, either_way}
use Rattle.cascade.specs.Slot.{Slot, empty}
use Rattle.cascade.specs.Record.{slot_count, Styled, Record, slot_of, update_record}
use Rattle.cascade.proofs.RowLaws.{record_same}
use Rattle.rule_styles.specs.Deciding.{deciding}
use Rattle.rule_styles.proofs.DecidingSlot.{Settled, offered, offered-own, offered-other, deciding-slot}

-- ---- whether a record is present: it is where a style has a slot that there is
unfoldable pub presents : {A : Type 0} → Bool → Styled A → Bool
presents b d = pick (ltb d.slot slot_count) true b

-- for one slot alone
abbrev marks : {A : Type 0} → Bool → Styled A → Bool
marks b d = true

module _ {A : Type 0} where
  -- nothing but the slot matters to it
  marks-settled : Settled {A = A} marks
  marks-settled =
      record {
        normal-again = λ x a b e f. refl;
        important-again = λ x a b e f. refl;
        normal-late = λ x a i b e g f. refl;
        important-late = λ x a n b e g f. refl;
      }

  -- a style with a slot that there is makes it present
  presents-slot : (b : Bool) (d : Styled A) → d.slot < slot_count → presents b d ≡ true
  unfolding presents
  presents-slot b d h = sym (pick_true _ _ _ _ (lt-ltb d.slot slot_count h) refl)

  -- what is present stays present, after one style
  presents-true : (d : Styled A) → presents true d ≡ true
  unfolding presents
  presents-true d = pick-holds (λ b. b ≡ true) (ltb d.slot slot_count) _ _ (λ e. refl) (λ e. refl)

  -- what is present stays present after any number of styles
  stays-present : (xs : List (Styled A)) → foldl presents true xs ≡ true
  stays-present [] = refl
  stays-present (d ∷ xs) = ap (λ (b : Bool). foldl presents b xs) (presents-true d) ∙ stays-present xs

  -- one style before others takes nothing away
  presents-more : (d : Styled A) (xs : List (Styled A)) (b : Bool) → foldl presents b xs ≡ true → foldl presents (presents b d) xs ≡ true
  unfolding presents
  presents-more d xs b e = pick-holds (λ (c : Bool). foldl presents c xs ≡ true) (ltb d.slot slot_count) true b (λ f. stays-present xs) (λ f. e)

  -- a slot once marked stays marked, after one style
  marks-true : (k : ℕ) (d : Styled A) → offered marks k true d ≡ true
  unfolding offered
  marks-true k d = pick-holds (λ b. b ≡ true) (is d.slot k) _ _ (λ e. refl) (λ e. refl)

  -- a slot once marked stays marked after any number of styles
  stays-marked : (k : ℕ) (xs : List (Styled A)) → foldl (offered marks k) true xs ≡ true
  stays-marked k [] = refl
  stays-marked k (d ∷ xs) = ap (λ (b : Bool). foldl (offered marks k) b xs) (marks-true k d) ∙ stays-marked k xs

  -- some slot is marked
  record Marked (b : Bool) (xs : List (Styled A)) : Type 0 where
    slot : ℕ
    there : slot < slot_count
    marked : foldl (offered marks slot) b xs ≡ true

  -- where it is present, some slot is marked
  marked-some : (xs : List (Styled A)) (b : Bool) → foldl presents b xs ≡ true → Marked b xs
  unfolding presents
  marked-some [] b e = record { slot = 0; there = omega arith; marked = e }
  marked-some (d ∷ xs) b e = go (λ f. marked-some xs b f) (ltb d.slot slot_count) refl
    where
      go : (foldl presents b xs ≡ true → Marked b xs) → (t : Bool) → ltb d.slot slot_count ≡ t → Marked b (d ∷ xs)
      go more true t =
          record {
            slot = d.slot;
            there = ltb-true d.slot slot_count t;
            marked = ap (λ (c : Bool). foldl (offered marks d.slot) c xs) (offered-own marks d.slot b d refl) ∙ stays-marked d.slot xs;
          }
      go more false t =
          let m = more (ap (λ (c : Bool). foldl presents c xs) (pick-false _ _ _ _ t refl) ∙ e) in
          let h = ltb-false d.slot slot_count t in
          record {
            slot = m.slot;
            there = m.there;
            marked = ap (λ (c : Bool). foldl (offered marks m.slot) c xs) (offered-other marks m.slot b d (λ f. omega (arith, m.there))) ∙ m.marked;
          }

  -- and the other way round
  marked-present : (xs : List (Styled A)) (b : Bool) (k : ℕ) → k < slot_count → foldl (offered marks k) b xs ≡ true → foldl presents b xs ≡ true
  marked-present [] b k h e = e
  marked-present (d ∷ xs) b k h e = go (λ c f. marked-present xs c k h f) (is d.slot k) refl
    where
      go : ((c : Bool) → foldl (offered marks k) c xs ≡ true → foldl presents c xs ≡ true) → (t : Bool) → is d.slot k ≡ t → foldl presents (presents b d) xs ≡ true
      go more true t = ap (λ (c : Bool). foldl presents c xs) (presents-slot b d (omega (arith, is_true d.slot k t))) ∙ stays-present xs
      go more false t =
          presents-more d xs b (more b (ap (λ (c : Bool). foldl (offered marks k) c xs) (sym (offered-other marks k b d (is_false d.slot k t))) ∙ e))

  -- the styles that decide make it present where all styles do
  pub presents-same : (b : Bool) (xs : List (Styled A)) → foldl presents b (deciding xs) ≡ foldl presents b xs
  presents-same b xs =
      same_test _ _
      (λ e. let m = marked-some (deciding xs) b e in marked-present xs b m.slot m.there (sym (deciding-slot marks marks-settled m.slot xs m.there b) ∙ m.marked))
      (λ e. let m = marked-some xs b e in marked-present (deciding xs) b m.slot m.there (deciding-slot marks marks-settled m.slot xs m.there b ∙ m.marked))

-- ---- one style merged into a record; where it has no slot that there is, nothing changes
unfoldable pub merged_into : {A : Type 0} → (Slot A → Styled A → Slot A) → Record A → Styled A → Record A
merged_into u p d = pick (ltb d.slot slot_count) (update_record d.slot (λ x. u x d) p) p

module _ {A : Type 0} (u : Slot A → Styled A → Slot A) where
  -- it has all its slots
  abbrev Whole : Record A → Type 0
  Whole p = length p.slots ≡ slot_count

  -- a record keeps all its slots
  merged-whole : (p : Record A) (d : Styled A) → Whole p → Whole (merged_into u p d)
  unfolding merged_into update_record
  merged-whole p d w = pick-holds Whole (ltb d.slot slot_count) _ _ (λ e. length-set p.slots d.slot (u (slot_of p d.slot) d) ∙ w) (λ e. w)

  -- it is present as the styles say
  merged-present : (p : Record A) (d : Styled A) → (merged_into u p d).present ≡ presents p.present d
  unfolding merged_into presents update_record pick
  merged-present p d = go (ltb d.slot slot_count)
    where
      go : (t : Bool) → (pick t (update_record d.slot (λ x. u x d) p) p).present ≡ pick t true p.present
      go true = refl
      go false = refl

  -- a style with a slot that there is updates it
  merged-in : (p : Record A) (d : Styled A) → d.slot < slot_count → merged_into u p d ≡ update_record d.slot (λ x. u x d) p
  unfolding merged_into
  merged-in p d h = sym (pick_true _ _ _ _ (lt-ltb d.slot slot_count h) refl)

  -- a style of a slot that there is not changes nothing in the record
  merged-out : (p : Record A) (d : Styled A) → slot_count ≤ d.slot → merged_into u p d ≡ p
  unfolding merged_into
  merged-out p d h = sym (pick-false _ _ _ _ (le-ltb d.slot slot_count h) refl)

  -- a slot is offered the style
  merged-slot : (k : ℕ) → k < slot_count → (p : Record A) (d : Styled A) → Whole p → slot_of (merged_into u p d) k ≡ offered u k (slot_of p k) d
  unfolding slot_of update_record
  merged-slot k h p d w = ⊎_elim when-in when-out (lt-or-ge d.slot slot_count)
    where
      when-own : d.slot ≡ k → get_or (set p.slots d.slot (u (get_or p.slots d.slot empty) d)) k empty ≡ offered u k (get_or p.slots k empty) d
      when-own e =
          ap (λ (i : ℕ). get_or (set p.slots i (u (get_or p.slots i empty) d)) k empty) e
          ∙ get_or-set_same p.slots k (u (get_or p.slots k empty) d) empty (omega (arith, w)) ∙ sym (offered-own u k (get_or p.slots k empty) d e)

      when-other : ¬ (d.slot ≡ k) → get_or (set p.slots d.slot (u (get_or p.slots d.slot empty) d)) k empty ≡ offered u k (get_or p.slots k empty) d
      when-other n =
          get_or-set_other p.slots d.slot k (u (get_or p.slots d.slot empty) d) empty (λ e. n (sym e)) ∙ sym (offered-other u k (get_or p.slots k empty) d n)

      when-in : d.slot < slot_count → slot_of (merged_into u p d) k ≡ offered u k (slot_of p k) d
      when-in g =
          ap (λ (q : Record A). slot_of q k) (merged-in p d g)
          ∙ ⊎_elim (λ (e : is d.slot k ≡ true). when-own (is_true d.slot k e)) (λ (e : is d.slot k ≡ false). when-other (is_false d.slot k e)) (either_way (is d.slot k))

      when-out : slot_count ≤ d.slot → slot_of (merged_into u p d) k ≡ offered u k (slot_of p k) d
      when-out g = ap (λ (q : Record A). slot_of q k) (merged-out p d g) ∙ sym (offered-other u k (slot_of p k) d (λ e. omega arith))

  -- ---- many styles: the record keeps all its slots
  -- with many styles merged into it, a record has all its slots still
  all_whole : (xs : List (Styled A)) (p : Record A) → Whole p → Whole (foldl (merged_into u) p xs)
  all_whole [] p w = w
  all_whole (d ∷ xs) p w = all_whole xs (merged_into u p d) (merged-whole p d w)

  -- after all it is present as they all say
  all-present : (xs : List (Styled A)) (p : Record A) → (foldl (merged_into u) p xs).present ≡ foldl presents p.present xs
  all-present [] p = refl
  all-present (d ∷ xs) p = all-present xs (merged_into u p d) ∙ ap (λ (b : Bool). foldl presents b xs) (merged-present p d)

  -- and each slot is offered them all
  all-slot : (k : ℕ) → k < slot_count → (xs : List (Styled A)) (p : Record A) → Whole p → slot_of (foldl (merged_into u) p xs) k ≡ foldl (offered u k) (slot_of p k) xs
  all-slot k h [] p w = refl
  all-slot k h (d ∷ xs) p w = all-slot k h xs (merged_into u p d) (merged-whole p d w) ∙ ap (λ (x : Slot A). foldl (offered u k) x xs) (merged-slot k h p d w)

  -- the styles that decide leave the record that all styles leave
  pub record-decided : Settled u → (xs : List (Styled A)) (p : Record A) → length p.slots ≡ slot_count → foldl (merged_into u) p (deciding xs) ≡ foldl (merged_into u) p xs
  unfolding slot_of
  record-decided l xs p w =
      let a = foldl (merged_into u) p (deciding xs) in
      let b = foldl (merged_into u) p xs in
      record_same a.present b.present a.slots b.slots
      (all-present (deciding xs) p ∙ presents-same p.present xs ∙ sym (all-present xs p))
      (ext_get_or empty a.slots b.slots (all_whole (deciding xs) p w ∙ sym (all_whole xs p w))
      (λ k h. let i : k < slot_count = omega (arith, all_whole (deciding xs) p w) in
      all-slot k i (deciding xs) p w ∙ deciding-slot u l k xs i (slot_of p k) ∙ sym (all-slot k i xs p w)))
