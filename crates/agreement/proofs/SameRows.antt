-- Written rows that say one computed style, each by its own text, are the same row: number by number, and each content by its text.
use Prim.Native.Nat.{ℕ, zero, suc, ◌+◌, ◌/◌, ◌%◌, ◌≤◌, ◌<◌}
use mathlib.Core.Path.{◌≡◌, refl, ap, ap₂, sym, ◌∙◌}
use mathlib.Core.Bool.{true, false}
use mathlib.Core.Logic.{◌⊎◌, inl, inr}
use mathlib.Core.List.{List, [], ◌∷◌}
use native.Mathlib.Omega.{arith}
use lib.ListN.{length, get_or, get_or-replicate, get_or-append}
use Rattle.combinators.specs.Choice.{pick, or, is}
use Rattle.combinators.specs.Part.{part}
use Rattle.combinators.proofs.Rules.{never, lt-or-ge}
use Rattle.syntax.specs.Layout.{flag, content_slot, style_slot_of, value_numbers}
use Rattle.syntax.specs.Style as style
use Rattle.syntax.specs.Style.{Style, StyleValue}
use Rattle.syntax.specs.declared.styles.Value.{Value}
use Rattle.cascade.specs.declared.slots.Weight.{Weight}
use Rattle.cascade.specs.Slot.{Candidate, Slot, empty, held}
use Rattle.cascade.specs.Record.{slot_count, record_count, main_record, before_record, after_record, ComputedStyle, Formed, record_in, slot_of, slot_in}
use Rattle.cascade.specs.Related.{SameSlot, both-empty, both-held, SameRecord, SameStyle}
use Rattle.cascade.specs.Row.{filled_flag, slot_number, slot_second, slot_start, slot_width, record_width, style_row_width, record_place, slot_place, slot_numbers, row_of}
use Rattle.cascade.proofs.Relating.{pick_same, each-get}
use Rattle.cascade.proofs.RowBack.{row-long}
use Rattle.styles.specs.Says.{Numbered, SaysStyle, Says}
use Rattle.agreement.specs.SameRow.{start_place, length_place, is_span, names_content, SameContent, SameRow}
use Rattle.agreement.proofs.OwnSlots.{Own, OwnSlots}
use Rattle.agreement.proofs.RowNumbers.{presence-number, slot-number, slot-flag}

-- ---- two values that say one style: the same numbers, or two spans of the same text, and the same start
pub record SameText (t u : List ℕ) (v w : Value) : Type 0 where
  pub within-t : v.number + v.second ≤ length t
  pub within-u : w.number + w.second ≤ length u
  pub same : part t v.number v.second ≡ part u w.number w.second

pub record Agree (t u : List ℕ) (k : ℕ) (v w : Value) : Type 0 where
  pub starts : v.start ≡ w.start
  pub numbers : ¬ (k ≡ content_slot) → v ≡ w
  pub texts : k ≡ content_slot → SameText t u v w

-- values of the same numbers and the same start
same-value : (v w : Value) → v.number ≡ w.number → v.second ≡ w.second → v.start ≡ w.start → v ≡ w
same-value v w a b c =
    let e : ◌≡◌ {A = Value} (record { number = v.number; second = v.second; start = v.start }) (record { number = w.number; second = w.second; start = w.start }) = rw (a, b, c) in
    e

numbered-same : (s : Style) (v w : Value) → Numbered v s → Numbered w s → v.start ≡ w.start → v ≡ w
numbered-same s v w p q e = same-value v w (p.number ∙ sym q.number) (p.second ∙ sym q.second) e

-- two values that say one style are the same, or for a content name the same text
styles-agree : (t u : List ℕ) (k : ℕ) (s : Style) (v w : Value) → style_slot_of s ≡ k → SaysStyle t v s → SaysStyle u w s → v.start ≡ w.start → Agree t u k v w
unfolding SaysStyle style_slot_of
styles-agree t u k (style.colour c) v w o p q e = record { starts = e; numbers = λ _. numbered-same _ v w p q e; texts = λ z. absurd (omega (arith, o, z)) }
styles-agree t u k (style.background c) v w o p q e = record { starts = e; numbers = λ _. numbered-same _ v w p q e; texts = λ z. absurd (omega (arith, o, z)) }
styles-agree t u k style.display_none v w o p q e = record { starts = e; numbers = λ _. numbered-same _ v w p q e; texts = λ z. absurd (omega (arith, o, z)) }
styles-agree t u k (style.white_space x) v w o p q e = record { starts = e; numbers = λ _. numbered-same _ v w p q e; texts = λ z. absurd (omega (arith, o, z)) }
styles-agree t u k (style.content x) v w o p q e =
    record { starts = e; numbers = λ n. absurd (n (sym o)); texts = λ _. record { within-t = p.within; within-u = q.within; same = p.named ∙ sym q.named } }
styles-agree t u k (style.visibility x) v w o p q e = record { starts = e; numbers = λ _. numbered-same _ v w p q e; texts = λ z. absurd (omega (arith, o, z)) }

values_agree : (t u : List ℕ) (k : ℕ) (x : StyleValue) (v w : Value) → style_slot_of x.style ≡ k → Says t v x → Says u w x → Agree t u k v w
values_agree t u k x v w o p q = styles-agree t u k x.style v w o p.style q.style (p.start ∙ sym q.start)

-- ---- two slots for one style: both empty, or both held, of one weight and with values that agree
pub data Alike (t u : List ℕ) (k : ℕ) : Slot Value → Slot Value → Type 0 where
  neither : Alike t u k empty empty
  both : {a b : Candidate Value} → a.weight ≡ b.weight → Agree t u k a.value b.value → Alike t u k (held a) (held b)

-- two that say one slot
slots-alike : (t u : List ℕ) (k : ℕ) (a : Slot Value) (c : Slot StyleValue) → SameSlot (Says t) a c → (b : Slot Value) → SameSlot (Says u) b c → Own k c → Alike t u k a b
slots-alike t u k empty empty both-empty (held b) x15 o = elim x15 [ ]
slots-alike t u k empty (held c) x7 b _ o = elim x7 [ ]
slots-alike t u k (held a) empty x6 b _ o = elim x6 [ ]
slots-alike t u k (held a) (held c) (both-held p) empty x14 o = elim x14 [ ]
slots-alike t u k empty empty both-empty empty both-empty o = neither
slots-alike t u k (held a) (held c) (both-held p) (held b) (both-held q) o =
    both (p.weights ∙ sym q.weights) (values_agree t u k c.value a.value b.value o p.values q.values)

-- the numbers before a value
unfoldable weight_numbers : Weight → List ℕ
weight_numbers w =
    filled_flag ∷ w.origin ∷ flag w.spec.inline ∷ w.spec.id ∷ w.spec.class ∷ w.spec.typ ∷ flag w.important ∷ []

-- a number of a filled slot before its value
held-front : (c : Candidate Value) (n : ℕ) → n < slot_number → get_or (slot_numbers (held c)) n 0 ≡ get_or (weight_numbers c.weight) n 0
unfolding slot_numbers weight_numbers
held-front c n h = get_or-append (weight_numbers c.weight) (value_numbers c.value) 0 n h

-- the start of a filled slot
held_start : (c : Candidate Value) → get_or (slot_numbers (held c)) slot_start 0 ≡ c.value.start
unfolding slot_numbers value_numbers
held_start c = refl

-- a number that is not where a content's text lies is the same in both
slot-numbers-same : (t u : List ℕ) (k n : ℕ) (a b : Slot Value) → Alike t u k a b → (n < slot_number) ⊎ ((n ≡ slot_start) ⊎ ¬ (k ≡ content_slot)) → get_or (slot_numbers a) n 0 ≡ get_or (slot_numbers b) n 0
slot-numbers-same t u k n empty (held b) x4 h = elim x4 [ ]
slot-numbers-same t u k n (held a) empty x4 h = elim x4 [ ]
slot-numbers-same t u k n empty empty neither h = refl
slot-numbers-same t u k n (held a) (held b) (both w v) (inl h) = held-front a n h ∙ ap (λ (x : Weight). get_or (weight_numbers x) n 0) w ∙ sym (held-front b n h)
slot-numbers-same t u k n (held a) (held b) (both w v) (inr (inl h)) = rw h (held_start a ∙ v.starts ∙ sym (held_start b))
slot-numbers-same t u k n (held a) (held b) (both w v) (inr (inr h)) =
    ap₂ (λ (x : Weight) (y : Value). get_or (slot_numbers (held (record { weight = x; value = y }))) n 0) w (v.numbers h)

-- the flag of a slot is 0 or 1
flag_small : (a : Slot Value) → get_or (slot_numbers a) 0 0 ≤ filled_flag
unfolding slot_numbers
flag_small empty = omega arith
flag_small (held c) = omega arith

-- of two such slots, where the flag of one is 0, all numbers of both are 0
zeros-same : (t u : List ℕ) (k n : ℕ) (a b : Slot Value) → Alike t u k a b → get_or (slot_numbers a) 0 0 ≡ 0 → n < slot_width → (get_or (slot_numbers a) n 0 ≡ 0) × (get_or (slot_numbers b) n 0 ≡ 0)
unfolding slot_numbers
zeros-same t u k n empty (held b) x6 e h = elim x6 [ ]
zeros-same t u k n (held a) empty x5 e h = elim x5 [ ]
zeros-same t u k n empty empty neither e h = (get_or-replicate slot_width n 0 0 h, get_or-replicate slot_width n 0 0 h)
zeros-same t u k n (held a) (held b) (both w v) e h = absurd (let z : ◌≡◌ {A = ℕ} 1 0 = e in omega (arith, z))

-- the contents of two slots of contents
record SpanSame (t u : List ℕ) (a b : Slot Value) : Type 0 where
  within-x : get_or (slot_numbers a) slot_number 0 + get_or (slot_numbers a) slot_second 0 ≤ length t
  within-y : get_or (slot_numbers b) slot_number 0 + get_or (slot_numbers b) slot_second 0 ≤ length u
  same : part t (get_or (slot_numbers a) slot_number 0) (get_or (slot_numbers a) slot_second 0) ≡ part u (get_or (slot_numbers b) slot_number 0) (get_or (slot_numbers b) slot_second 0)

-- where they are filled
spans-same : (t u : List ℕ) (a b : Slot Value) → Alike t u content_slot a b → get_or (slot_numbers a) 0 0 ≡ filled_flag → SpanSame t u a b
unfolding slot_numbers value_numbers
spans-same t u empty (held b) x4 e = elim x4 [ ]
spans-same t u (held a) empty x4 e = elim x4 [ ]
spans-same t u empty empty neither e = absurd (let z : ◌≡◌ {A = ℕ} 0 1 = e in omega (arith, z))
spans-same t u (held a) (held b) (both w v) e = let s = v.texts refl in record { within-x = s.within-t; within-y = s.within-u; same = s.same }

-- ---- places
-- start and length of a content are told
content-told : (r n : ℕ) → r < record_count → slot_number ≤ n → n < slot_start → names_content (slot_place r content_slot + n) ≡ true
unfolding names_content is_span or is pick
content-told r n h l m = go r h (lt-or-ge n slot_second)
  where
    go : (r : ℕ) → r < record_count → (n < slot_second) ⊎ (slot_second ≤ n) → names_content (slot_place r content_slot + n) ≡ true
    go zero h (inl e) = let z : slot_place main_record content_slot + n ≡ start_place main_record = omega arith in ap names_content z
    go zero h (inr e) = let z : slot_place main_record content_slot + n ≡ length_place main_record = omega arith in ap names_content z
    go (suc zero) h (inl e) = let z : slot_place before_record content_slot + n ≡ start_place before_record = omega arith in ap names_content z
    go (suc zero) h (inr e) = let z : slot_place before_record content_slot + n ≡ length_place before_record = omega arith in ap names_content z
    go (suc (suc zero)) h (inl e) = let z : slot_place after_record content_slot + n ≡ start_place after_record = omega arith in ap names_content z
    go (suc (suc zero)) h (inr e) = let z : slot_place after_record content_slot + n ≡ length_place after_record = omega arith in ap names_content z
    go (suc (suc (suc r))) h e = absurd (omega arith)

-- so a number of a slot that is not told is before the value, or its start, or of another slot
not-told : (r k n : ℕ) → r < record_count → n < slot_width → names_content (slot_place r k + n) ≡ false → (n < slot_number) ⊎ ((n ≡ slot_start) ⊎ ¬ (k ≡ content_slot))
not-told r k n h l e = go (lt-or-ge n slot_number) (lt-or-ge n slot_start)
  where
    go : (n < slot_number) ⊎ (slot_number ≤ n) → (n < slot_start) ⊎ (slot_start ≤ n) → (n < slot_number) ⊎ ((n ≡ slot_start) ⊎ ¬ (k ≡ content_slot))
    go (inl m) i = inl m
    go (inr m) (inl i) = inr (inr (λ (z : k ≡ content_slot). never (sym e ∙ (ap (λ (j : ℕ). names_content (slot_place r j + n)) z ∙ content-told r n h m i))))
    go (inr m) (inr i) = let z : n ≡ slot_start = omega arith in inr (inl z)

-- ---- styles that say the same
module _ {A B : Type 0} (R : A → B → Type 0) (x : ComputedStyle A) (y : ComputedStyle B) (q : SameStyle R x y) where
  -- have the same records
  records-same : (r : ℕ) → SameRecord R (record_in x r) (record_in y r)
  unfolding record_in
  records-same r =
      pick_same (SameRecord R) (is r main_record) (is r main_record) _ _ _ _ refl q.main
      (pick_same (SameRecord R) (is r before_record) (is r before_record) _ _ _ _ refl q.before q.after)

  -- at each record and place they have the same slots
  slots_same : (r k : ℕ) → SameSlot R (slot_in x r k) (slot_in y r k)
  unfolding slot_in slot_of
  slots_same r k = each-get (SameSlot R) k empty empty both-empty (records-same r).all

module _ (t u : List ℕ) (x y : ComputedStyle Value) (m : ComputedStyle StyleValue) (f : Formed x) (g : Formed y) (own : OwnSlots m)
    (p : SameStyle (Says t) x m) (q : SameStyle (Says u) y m) where
  -- slots that say one slot of the style
  alike : (r k : ℕ) → r < record_count → k < slot_count → Alike t u k (slot_in x r k) (slot_in y r k)
  alike r k h l = slots-alike t u k (slot_in x r k) (slot_in m r k) (slots_same (Says t) x m p r k) (slot_in y r k) (slots_same (Says u) y m q r k) (own r k h l)

  -- whether a record is present
  presence-same : (r : ℕ) → r < record_count → get_or (row_of x) (record_place r) 0 ≡ get_or (row_of y) (record_place r) 0
  presence-same r h =
      presence-number x f r h ∙ ap flag ((records-same (Says t) x m p r).presence ∙ sym (records-same (Says u) y m q r).presence) ∙ sym (presence-number y g r h)

  -- a number of a slot is the same in both rows, unless it names a content
  number_same : (r k n : ℕ) → r < record_count → k < slot_count → n < slot_width → names_content (slot_place r k + n) ≡ false
      → get_or (row_of x) (slot_place r k + n) 0 ≡ get_or (row_of y) (slot_place r k + n) 0
  number_same r k n h l i e =
      slot-number x f r k n h l i ∙ slot-numbers-same t u k n (slot_in x r k) (slot_in y r k) (alike r k h l) (not-told r k n h i e) ∙ sym (slot-number y g r k n h l i)

  -- any number: it is the first of a record, or one of a slot
  numbers-same : (j : ℕ) → j < style_row_width → names_content j ≡ false → get_or (row_of x) j 0 ≡ get_or (row_of y) j 0
  numbers-same j h e = go (j / record_width) (j % record_width) refl refl
    where
      go : (r o : ℕ) → j / record_width ≡ r → j % record_width ≡ o → get_or (row_of x) j 0 ≡ get_or (row_of y) j 0
      go r zero a z =
          let at : record_place r ≡ j = omega arith in
          rw at at (presence-same r (omega arith))
      go r (suc o) a z =
          let at : slot_place r (o / slot_width) + o % slot_width ≡ j = omega arith in
          rw at at (number_same r (o / slot_width) (o % slot_width) (omega arith) (omega arith) (omega arith) (ap names_content at ∙ e))

  -- contents by their texts
  contents-same : (r : ℕ) → r < record_count → get_or (row_of x) (slot_place r content_slot) 0 ≡ filled_flag → SameContent t u (row_of x) (row_of y) r
  contents-same r h e =
      let s = spans-same t u (slot_in x r content_slot) (slot_in y r content_slot) (alike r content_slot h (omega arith)) (sym (slot-flag x f r content_slot h (omega arith)) ∙ e) in
      let xs = slot-number x f r content_slot slot_number h (omega arith) (omega arith) in
      let xl = slot-number x f r content_slot slot_second h (omega arith) (omega arith) in
      let ys = slot-number y g r content_slot slot_number h (omega arith) (omega arith) in
      let yl = slot-number y g r content_slot slot_second h (omega arith) (omega arith) in
      record {
        within-x = rw (xs, xl) s.within-x;
        within-y = rw (ys, yl) s.within-y;
        same = ap₂ (part t) xs xl ∙ s.same ∙ sym (ap₂ (part u) ys yl);
      }

  -- two rows that say one style are the same row: numbers, flags, contents by their texts, zeros where a slot is not filled
  pub rows_same : SameRow t u (row_of x) (row_of y)
  rows_same =
      record {
        long-x = row-long x f;
        long-y = row-long y g;
        numbers = numbers-same;
        flags = λ r k h l. rw (slot-flag x f r k h l) (flag_small (slot_in x r k));
        contents = contents-same;
        unfilled = λ r k h l e n i.
            let z = zeros-same t u k n (slot_in x r k) (slot_in y r k) (alike r k h l) (sym (slot-flag x f r k h l) ∙ e) i in
            (slot-number x f r k n h l i ∙ z.0, slot-number y g r k n h l i ∙ z.1);
      }
