-- What the update of a slot does to a row, and to the style in it. Assumes nothing.
use mathlib.Core.Path.{◌≡◌, refl, sym, ap, ◌∙◌}
use mathlib.Core.Bool.{Bool, true, false}
use mathlib.Core.List.{List, [], ◌∷◌, map}
use Prim.Native.Nat.{ℕ, zero, suc, ◌+◌, ◌*◌, ◌≤◌, ◌<◌}
use native.Mathlib.Omega.{arith}
use lib.ListN.{length, get_or, set, length-set, get_or-map}
use lib.Seq.{sets, length-sets, get_or-set_same, get_or-set_other}
use Rattle.combinators.specs.Choice.{pick, is}
use Rattle.combinators.proofs.Rules.{pick_true, pick-false, is-yes, is-no}
use Rattle.combinators.proofs.Wiped.{sets-low}
use Rattle.syntax.specs.Layout.{flag, flag_of}
use Rattle.syntax.specs.Layout.{value_numbers}
use Rattle.syntax.specs.declared.styles.Value.{Value}
use Rattle.syntax.proofs.Back.{flag-back}
use Rattle.cascade.specs.Slot.{Candidate, Slot, empty, held}
use Rattle.cascade.specs.Record.{slot_count, record_count, main_record, before_record, after_record, Record, ComputedStyle, slot_of, update_record, update_style}
use Rattle.cascade.specs.Row.{slot_width, record_width, style_row_width, record_place, slot_place, slot_numbers, reads, read_candidate, read_slot, slot_at, windows, record_at, style_at, SlotFine, AllFine, update_row}
use Rattle.cascade.proofs.Windows.{reads_same, reads-sets, sets-high}

-- ---- pairs of equal things
-- lists with equal first members and equal rests are equal
pub cons_same : {A : Type 0} (a b : A) (l m : List A) → a ≡ b → l ≡ m → a ∷ l ≡ b ∷ m
cons_same a b l m e f = rw (e, f)

-- records with equal parts are equal
pub record_same : {A : Type 0} (b c : Bool) (l m : List (Slot A)) → b ≡ c → l ≡ m → ◌≡◌ {A = Record A} (record { present = b; slots = l }) (record { present = c; slots = m })
record_same b c l m e f = rw (e, f)

-- styles with equal records are equal
pub style-same : {A : Type 0} (a b c d e f : Record A) → a ≡ d → b ≡ e → c ≡ f
    → ◌≡◌ {A = ComputedStyle A} (record { main = a; before = b; after = c }) (record { main = d; before = e; after = f })
style-same a b c d e f p q r = rw (p, q, r)

-- a list after a change, each member by a function
pub map-set : {A B : Type 0} (f : A → B) (l : List A) (k : ℕ) (v : A) → map f (set l k v) ≡ set (map f l) k (f v)
map-set f [] k v = refl
map-set f (a ∷ l) zero v = refl
map-set f (a ∷ l) (suc k) v = rw (map-set f l k v)

-- ---- flags: written and read, read and written
-- of a number that is 0 or 1
pub flag-forth : (n : ℕ) → n ≤ 1 → flag (flag_of n) ≡ n
unfolding flag_of flag is
flag-forth zero h = refl
flag-forth (suc zero) h = refl
flag-forth (suc (suc n)) h = absurd (omega arith)

-- a flag is 0 or 1
pub flag_small : (b : Bool) → flag b ≤ 1
unfolding flag
flag_small true = omega arith
flag_small false = omega arith

-- the number 1 is read as a flag that is set
pub flag_one : flag_of 1 ≡ true
unfolding flag_of is
flag_one = refl

-- ---- one slot: its numbers, and back. These name the numbers of a slot
-- the numbers of a slot are a slot's width
pub slot-width : (s : Slot Value) → length (slot_numbers s) ≡ slot_width
unfolding slot_numbers value_numbers
slot-width empty = refl
slot-width (held c) = refl

-- a candidate is read back from the numbers of its slot
candidate-back : (c : Candidate Value) → read_candidate (slot_numbers (held c)) ≡ c
unfolding read_candidate slot_numbers value_numbers
candidate-back c = rw (flag-back c.weight.spec.inline, flag-back c.weight.important)

-- a slot is read back from its numbers
pub slot-back : (s : Slot Value) → read_slot (slot_numbers s) ≡ s
slot-back empty = unfold read_slot in unfold slot_numbers in unfold flag_of in unfold is in unfold pick in refl
slot-back (held c) = unfold read_slot in (filled ∙ ap held (candidate-back c))
  where
    filled : pick (flag_of (get_or (slot_numbers (held c)) 0 0)) (held (read_candidate (slot_numbers (held c)))) empty ≡ held (read_candidate (slot_numbers (held c)))
    filled = unfold slot_numbers in unfold flag_of in unfold is in unfold pick in refl

-- so written again it is itself
pub slot-fine : (s : Slot Value) → SlotFine (slot_numbers s)
slot-fine s = ap slot_numbers (slot-back s)

-- the same for all slots of a record
pub slots-back : (ss : List (Slot Value)) → map read_slot (map slot_numbers ss) ≡ ss
slots-back [] = refl
slots-back (s ∷ ss) = cons_same (read_slot (slot_numbers s)) s (map read_slot (map slot_numbers ss)) ss (slot-back s) (slots-back ss)

-- written again they are themselves
pub slots-fine : (ss : List (Slot Value)) → AllFine (map slot_numbers ss)
slots-fine [] = tt
slots-fine (s ∷ ss) = (slot-fine s, slots-fine ss)

-- no numbers are the empty slot
pub slot-empty : read_slot [] ≡ empty
unfolding read_slot flag_of is pick
slot-empty = refl

-- ---- the slots of a record, number by number
-- where the numbers are the same, so are the windows over them
pub same-windows : (n : ℕ) (xs ys : List ℕ) (i : ℕ) → ((p : ℕ) → i ≤ p → p < i + n * slot_width → get_or xs p 0 ≡ get_or ys p 0) → windows xs i n ≡ windows ys i n
unfolding windows
same-windows zero xs ys i f = refl
same-windows (suc n) xs ys i f =
    cons_same (reads xs i 0 slot_width) (reads ys i 0 slot_width) (windows xs (i + slot_width) n) (windows ys (i + slot_width) n)
    (reads_same slot_width xs ys i 0 (λ p h k. f p (omega arith) (omega arith)))
    (same-windows n xs ys (i + slot_width) (λ p h k. f p (omega arith) (omega arith)))

-- after one slot is stored it is that one, and the others stay
pub put-windows : (n k : ℕ) (vs xs : List ℕ) (i : ℕ) → k < n → i + n * slot_width ≤ length xs → length vs ≡ slot_width → windows (sets xs (i + k * slot_width) vs) i n ≡ set (windows xs i n) k vs
unfolding windows
put-windows zero k vs xs i h l e = absurd (omega arith)
put-windows (suc n) zero vs xs i h l e =
    let z : i + 0 * slot_width ≡ i = omega arith in
    cons_same (reads (sets xs (i + 0 * slot_width) vs) i 0 slot_width) vs (windows (sets xs (i + 0 * slot_width) vs) (i + slot_width) n) (windows xs (i + slot_width) n)
    (ap (λ (j : ℕ). reads (sets xs j vs) i 0 slot_width) z ∙ rw e at (reads-sets vs xs i (omega arith)))
    (same-windows n (sets xs (i + 0 * slot_width) vs) xs (i + slot_width) (λ p a b. sets-high vs xs (i + 0 * slot_width) p (omega arith)))
put-windows (suc n) (suc k) vs xs i h l e =
    let z : i + suc k * slot_width ≡ i + slot_width + k * slot_width = omega arith in
    cons_same (reads (sets xs (i + suc k * slot_width) vs) i 0 slot_width) (reads xs i 0 slot_width) (windows (sets xs (i + suc k * slot_width) vs) (i + slot_width) n) (set (windows xs (i + slot_width) n) k vs)
    (reads_same slot_width (sets xs (i + suc k * slot_width) vs) xs i 0 (λ p a b. sets-low vs xs (i + suc k * slot_width) p 0 (omega arith)))
    (rw z (put-windows n k vs xs (i + slot_width) (omega arith) (omega arith) e))

-- slot k begins k widths on
pub get-windows : (n k : ℕ) (xs : List ℕ) (i : ℕ) → k < n → get_or (windows xs i n) k [] ≡ reads xs (i + k * slot_width) 0 slot_width
unfolding windows
get-windows zero k xs i h = absurd (omega arith)
get-windows (suc n) zero xs i h = let z : i ≡ i + 0 * slot_width = omega arith in ap (λ (j : ℕ). reads xs j 0 slot_width) z
get-windows (suc n) (suc k) xs i h =
    let z : i + suc k * slot_width ≡ i + slot_width + k * slot_width = omega arith in
    rw z (get-windows n k xs (i + slot_width) (omega arith))

-- ---- the view after an update of slot k of record r
-- an update leaves a row as long as it was
pub update-long : (r k : ℕ) (u : Slot Value → Slot Value) (xs : List ℕ) → length (update_row r k u xs) ≡ length xs
unfolding update_row
update-long r k u xs = simp (length-set, length-sets)

module _ (r k : ℕ) (u : Slot Value → Slot Value) (xs : List ℕ) (h : record_place r + record_width ≤ length xs) (l : k < slot_count) where
  -- numbers before the record stay
  pub update-low : (p : ℕ) → p < record_place r → get_or (update_row r k u xs) p 0 ≡ get_or xs p 0
  unfolding update_row
  update-low p a =
      let i = slot_place r k in
      let vs = slot_numbers (u (slot_at xs i)) in
      get_or-set_other (sets xs i vs) (record_place r) p 1 0 (λ e. omega arith) ∙ sets-low vs xs i p 0 (omega arith)

  -- numbers behind the record stay
  pub update-high : (p : ℕ) → record_place r + record_width ≤ p → get_or (update_row r k u xs) p 0 ≡ get_or xs p 0
  unfolding update_row
  update-high p a =
      let i = slot_place r k in
      let vs = slot_numbers (u (slot_at xs i)) in
      get_or-set_other (sets xs i vs) (record_place r) p 1 0 (λ e. omega arith) ∙ sets-high vs xs i p (omega (arith, slot-width (u (slot_at xs i))))

  -- the updated record is marked as present
  pub update-presence : get_or (update_row r k u xs) (record_place r) 0 ≡ 1
  unfolding update_row
  update-presence =
      let i = slot_place r k in
      let vs = slot_numbers (u (slot_at xs i)) in
      get_or-set_same (sets xs i vs) (record_place r) 1 0 (omega (arith, length-sets xs i vs))

  -- of its slots only the one is another
  pub update-windows : windows (update_row r k u xs) (record_place r + 1) slot_count ≡ set (windows xs (record_place r + 1) slot_count) k (slot_numbers (u (slot_at xs (slot_place r k))))
  unfolding update_row
  update-windows =
      let i = slot_place r k in
      let b = record_place r in
      let vs = slot_numbers (u (slot_at xs i)) in
      same-windows slot_count (set (sets xs i vs) b 1) (sets xs i vs) (b + 1) (λ p m n. get_or-set_other (sets xs i vs) b p 1 0 (λ e. omega arith))
      ∙ put-windows slot_count k vs xs (b + 1) l (omega arith) (slot-width (u (slot_at xs i)))

  -- the slot that the view has there is the one that begins there
  pub slot-there : slot_of (record_at xs (record_place r)) k ≡ slot_at xs (slot_place r k)
  unfolding slot_of record_at slot_at
  slot-there =
      ap (λ (d : Slot Value). get_or (map read_slot (windows xs (record_place r + 1) slot_count)) k d) (sym slot-empty)
      ∙ get_or-map read_slot (windows xs (record_place r + 1) slot_count) k []
      ∙ ap read_slot (get-windows slot_count k xs (record_place r + 1) l)

  -- so the record in the row is the updated one
  pub record-updated : record_at (update_row r k u xs) (record_place r) ≡ update_record k u (record_at xs (record_place r))
  unfolding update_record record_at
  record-updated =
      let b = record_place r in
      let ws = windows xs (b + 1) slot_count in
      let s = u (slot_at xs (slot_place r k)) in
      let t : s ≡ u (slot_of (record_at xs b) k) = ap u (sym slot-there) in
      record_same (flag_of (get_or (update_row r k u xs) b 0)) true (map read_slot (windows (update_row r k u xs) (b + 1) slot_count)) (set (map read_slot ws) k (u (slot_of (record_at xs b) k)))
      (ap flag_of update-presence ∙ flag_one)
      (ap (map read_slot) update-windows
      ∙ map-set read_slot ws k (slot_numbers s)
      ∙ ap (λ (v : Slot Value). set (map read_slot ws) k v) (slot-back s ∙ t))

-- the same numbers are the same record
pub same-record : (xs ys : List ℕ) (b : ℕ) → ((p : ℕ) → b ≤ p → p < b + record_width → get_or xs p 0 ≡ get_or ys p 0) → record_at xs b ≡ record_at ys b
unfolding record_at
same-record xs ys b f =
    record_same (flag_of (get_or xs b 0)) (flag_of (get_or ys b 0)) (map read_slot (windows xs (b + 1) slot_count)) (map read_slot (windows ys (b + 1) slot_count))
    (ap flag_of (f b (omega arith) (omega arith)))
    (ap (map read_slot) (same-windows slot_count xs ys (b + 1) (λ p h k. f p (omega arith) (omega arith))))

-- ---- the three records, one of which is updated
pub data Which (r : ℕ) : Type 0 where
  is_main : r ≡ main_record → Which r
  is_before : r ≡ before_record → Which r
  is_after : r ≡ after_record → Which r

-- a record number is one of the three
pub which : (r : ℕ) → r < record_count → Which r
which zero h = is_main refl
which (suc zero) h = is_before refl
which (suc (suc zero)) h = is_after refl
which (suc (suc (suc r))) h = absurd (omega arith)

module _ {A : Type 0} (r k : ℕ) (u : Slot A → Slot A) (s : ComputedStyle A) where
  -- the main record is updated
  pub update-main : r ≡ main_record → update_style r k u s ≡ record { main = update_record k u s.main; before = s.before; after = s.after }
  unfolding update_style
  update-main e = sym (pick_true _ _ _ _ (is-yes r main_record e) refl)

  -- a slot of `::before` is updated in that record alone
  pub update-before : r ≡ before_record → update_style r k u s ≡ record { main = s.main; before = update_record k u s.before; after = s.after }
  unfolding update_style
  update-before e = sym (pick-false _ _ _ _ (is-no r main_record (λ z. omega arith)) (pick_true _ _ _ _ (is-yes r before_record e) refl))

  -- a slot of `::after` is updated in that record alone
  pub update-after : r ≡ after_record → update_style r k u s ≡ record { main = s.main; before = s.before; after = update_record k u s.after }
  unfolding update_style
  update-after e = sym (pick-false _ _ _ _ (is-no r main_record (λ z. omega arith)) (pick-false _ _ _ _ (is-no r before_record (λ z. omega arith)) refl))

module _ (r k : ℕ) (u : Slot Value → Slot Value) (xs : List ℕ) (long : style_row_width ≤ length xs) (h : r < record_count) (l : k < slot_count) where
  -- the record at b, where its slot is updated, is the updated record
  record-here : (b : ℕ) → record_place r ≡ b → record_at (update_row r k u xs) b ≡ update_record k u (record_at xs b)
  record-here b e = rw e at (record-updated r k u xs (omega arith) l)

  -- a record before the updated one stays
  record-before : (b : ℕ) → b + record_width ≤ record_place r → record_at (update_row r k u xs) b ≡ record_at xs b
  record-before b e = same-record (update_row r k u xs) xs b (λ p m n. update-low r k u xs (omega arith) l p (omega arith))

  -- a record behind the updated one stays
  record-behind : (b : ℕ) → record_place r + record_width ≤ b → record_at (update_row r k u xs) b ≡ record_at xs b
  record-behind b e = same-record (update_row r k u xs) xs b (λ p m n. update-high r k u xs (omega arith) l p (omega arith))

  -- the style in a row after the update of a slot is the style before it, with the slot updated
  pub update-view : style_at (update_row r k u xs) ≡ update_style r k u (style_at xs)
  update-view = go (which r h)
    where
      go : Which r → style_at (update_row r k u xs) ≡ update_style r k u (style_at xs)
      go (is_main e) = unfold style_at in (style-same _ _ _ _ _ _ (record-here 0 (omega arith)) (record-behind record_width (omega arith)) (record-behind (2 * record_width) (omega arith)) ∙ sym (update-main r k u (style_at xs) e))
      go (is_before e) = unfold style_at in (style-same _ _ _ _ _ _ (record-before 0 (omega arith)) (record-here record_width (omega arith)) (record-behind (2 * record_width) (omega arith)) ∙ sym (update-before r k u (style_at xs) e))
      go (is_after e) = unfold style_at in (style-same _ _ _ _ _ _ (record-before 0 (omega arith)) (record-before record_width (omega arith)) (record-here (2 * record_width) (omega arith)) ∙ sym (update-after r k u (style_at xs) e))
