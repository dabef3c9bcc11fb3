-- A style written to a row and read back is the style; a well-formed row read and written is the row. So on such rows the view says every number. Assumes nothing.
use mathlib.Core.Path.{◌≡◌, refl, sym, ap, ◌∙◌, subst}
use mathlib.Core.List.{List, [], ◌∷◌, ◌++◌, map, append_assoc, append-nil, foldl}
use Prim.Native.Nat.{ℕ, zero, suc, ◌+◌, ◌*◌, ◌≤◌, ◌<◌}
use native.Mathlib.Nat.{add-zero}
use native.Mathlib.Omega.{arith}
use lib.ListN.{length, get_or, set, take, drop, length-append, length-drop, take-append-drop, length-map}
use lib.Seq.{drop-cons, take-add, drop-drop, take_all, get_or_at}
use Rattle.combinators.proofs.Rules.{pick-holds}
use Rattle.syntax.specs.Layout.{flag, flag_of}
use Rattle.syntax.specs.declared.styles.Value.{Value}
use Rattle.syntax.proofs.Back.{flag-back}
use Rattle.cascade.specs.Slot.{Candidate, Slot}
use Rattle.cascade.specs.Record.{slot_count, record_count, main_record, before_record, after_record, empty_record, empty_style, Record, ComputedStyle, Formed, Declared, is_named, merge_by}
use Rattle.cascade.specs.Row.{presence_width, slot_width, record_width, style_row_width, record_place, slot_place, slot_numbers, slots_numbers, record_numbers, row_of, reads, read_slot, slot_at, windows, record_at, style_at, SlotFine, AllFine, RecordFine, RowFine, update_row, merge_row_by}
use Rattle.cascade.proofs.Windows.{reads-is, reads_at}
use Rattle.cascade.proofs.RowLaws.{cons_same, record_same, style-same, flag-forth, flag_small, slot-width, slot-fine, slots-back, slots-fine, same-windows, update-long, update-low, update-high, update-presence, update-windows, Which, is_main, is_before, is_after, which}
use Rattle.cascade.proofs.Merging.{named-says, merge-long, merge-view}

-- ---- written, then read
-- written slots one behind the other are a slot's width each
slots-width : (ss : List (Slot Value)) → length (slots_numbers ss) ≡ length ss * slot_width
unfolding slots_numbers
slots-width [] = refl
slots-width (s ∷ ss) = omega (arith, length-append (slot_numbers s) (slots_numbers ss), slot-width s, slots-width ss)

-- the windows over written slots, one width each, are the numbers of these slots
windows-of : (ss : List (Slot Value)) (p q : List ℕ) (i : ℕ) → length p ≡ i → windows (p ++ (slots_numbers ss ++ q)) i (length ss) ≡ map slot_numbers ss
unfolding windows slots_numbers
windows-of [] p q i e = refl
windows-of (s ∷ ss) p q i e =
    let z : p ++ ((slot_numbers s ++ slots_numbers ss) ++ q) ≡ (p ++ slot_numbers s) ++ (slots_numbers ss ++ q) = simp append_assoc in
    let y : p ++ ((slot_numbers s ++ slots_numbers ss) ++ q) ≡ p ++ (slot_numbers s ++ (slots_numbers ss ++ q)) = simp append_assoc in
    let r = p ++ ((slot_numbers s ++ slots_numbers ss) ++ q) in
    cons_same (reads r i 0 slot_width) (slot_numbers s) (windows r (i + slot_width) (length ss)) (map slot_numbers ss)
    (ap (λ (l : List ℕ). reads l i 0 slot_width) y ∙ subst (λ (n : ℕ). reads (p ++ (slot_numbers s ++ (slots_numbers ss ++ q))) i 0 n ≡ slot_numbers s) (slot-width s) (reads_at p (slot_numbers s) (slots_numbers ss ++ q) i e))
    (ap (λ (l : List ℕ). windows l (i + slot_width) (length ss)) z ∙ windows-of ss (p ++ slot_numbers s) q (i + slot_width) (omega (arith, length-append p (slot_numbers s), slot-width s)))

-- a written record with all its slots is as wide as a record
pub record-width : (a : Record Value) → length a.slots ≡ slot_count → length (record_numbers a) ≡ record_width
unfolding record_numbers
record-width a h = omega (arith, slots-width a.slots)

module _ (p q : List ℕ) (a : Record Value) (b : ℕ) (e : length p ≡ b) (h : length a.slots ≡ slot_count) where
  -- in a row, the windows behind a record's first number are its written slots
  slots-there : windows (p ++ (record_numbers a ++ q)) (b + 1) slot_count ≡ map slot_numbers a.slots
  unfolding record_numbers
  slots-there =
      let y : p ++ (flag a.present ∷ (slots_numbers a.slots ++ q)) ≡ (p ++ (flag a.present ∷ [])) ++ (slots_numbers a.slots ++ q) = sym (append_assoc p (flag a.present ∷ []) (slots_numbers a.slots ++ q)) in
      ap (λ (l : List ℕ). windows l (b + 1) slot_count) y
      ∙ subst (λ (n : ℕ). windows ((p ++ (flag a.present ∷ [])) ++ (slots_numbers a.slots ++ q)) (b + 1) n ≡ map slot_numbers a.slots) h
      (windows-of a.slots (p ++ (flag a.present ∷ [])) q (b + 1) (omega (arith, length-append p (flag a.present ∷ []))))

  -- its first number says whether it is present
  presence-there : get_or (p ++ (record_numbers a ++ q)) b 0 ≡ flag a.present
  unfolding record_numbers
  presence-there = get_or_at p (flag a.present) (slots_numbers a.slots ++ q) 0 b e

  -- a record that stands in a row is read back as it was written
  record-back : record_at (p ++ (record_numbers a ++ q)) b ≡ a
  unfolding record_at
  record-back =
      record_same (flag_of (get_or (p ++ (record_numbers a ++ q)) b 0)) a.present (map read_slot (windows (p ++ (record_numbers a ++ q)) (b + 1) slot_count)) a.slots
      (ap flag_of presence-there ∙ flag-back a.present)
      (ap (map read_slot) slots-there ∙ slots-back a.slots)

  -- and it is well formed there
  record-fine : RecordFine (p ++ (record_numbers a ++ q)) b
  record-fine = record { presence = rw presence-there (flag_small a.present); all = subst AllFine (sym slots-there) (slots-fine a.slots) }

-- the row as each of its records sees it
module _ (s : ComputedStyle Value) (f : Formed s) where
  abbrev A : List ℕ
  A = record_numbers s.main

  abbrev B : List ℕ
  B = record_numbers s.before

  abbrev C : List ℕ
  C = record_numbers s.after

  -- the first two records together are two records wide
  two_records : length (A ++ B) ≡ 2 * record_width
  two_records = omega (arith, length-append A B, record-width s.main f.main, record-width s.before f.before)

  -- what stands before the third record is the first two
  from-the-third : A ++ (B ++ C) ≡ (A ++ B) ++ (C ++ [])
  from-the-third = sym (append_assoc A B (C ++ []) ∙ ap (λ (l : List ℕ). A ++ (B ++ l)) (append-nil C))

  -- a written row is whole
  pub row-long : length (row_of s) ≡ style_row_width
  unfolding row_of
  row-long = omega (arith, length-append A (B ++ C), length-append B C, record-width s.main f.main, record-width s.before f.before, record-width s.after f.after)

  -- what is read from a written row is what was written
  pub style-back : style_at (row_of s) ≡ s
  unfolding style_at row_of
  style-back =
      style-same (record_at (A ++ (B ++ C)) 0) (record_at (A ++ (B ++ C)) record_width) (record_at (A ++ (B ++ C)) (2 * record_width)) s.main s.before s.after
      (record-back [] (B ++ C) s.main 0 refl f.main)
      (record-back A C s.before record_width (record-width s.main f.main) f.before)
      (ap (λ (l : List ℕ). record_at l (2 * record_width)) from-the-third ∙ record-back (A ++ B) [] s.after (2 * record_width) two_records f.after)

  -- and it is well formed
  pub row_fine : RowFine (row_of s)
  unfolding row_of
  row_fine = record {
    long = row-long;
    main = record-fine [] (B ++ C) s.main 0 refl f.main;
    before = record-fine A C s.before record_width (record-width s.main f.main) f.before;
    after = subst (λ (l : List ℕ). RecordFine l (2 * record_width)) (sym from-the-third) (record-fine (A ++ B) [] s.after (2 * record_width) two_records f.after);
  }

-- ---- read, then written
-- well-formed slots that are read and written again are the same numbers
slots-forth : (n : ℕ) (xs : List ℕ) (i : ℕ) → i + n * slot_width ≤ length xs → AllFine (windows xs i n) → slots_numbers (map read_slot (windows xs i n)) ≡ take (n * slot_width) (drop i xs)
unfolding windows slots_numbers
slots-forth zero xs i h f = refl
slots-forth (suc n) xs i h f =
    let z : suc n * slot_width ≡ slot_width + n * slot_width = omega arith in
    let l : reads xs i 0 slot_width ≡ take slot_width (drop i xs) = reads-is slot_width xs i 0 (omega arith) ∙ ap (λ (j : ℕ). take slot_width (drop j xs)) (add-zero i) in
    let r : take (n * slot_width) (drop (i + slot_width) xs) ≡ take (n * slot_width) (drop slot_width (drop i xs)) = ap (take (n * slot_width)) (sym (drop-drop slot_width i xs)) in
    ap (λ (y : List ℕ). y ++ slots_numbers (map read_slot (windows xs (i + slot_width) n))) (f.0 ∙ l)
    ∙ ap (λ (y : List ℕ). take slot_width (drop i xs) ++ y) (slots-forth n xs (i + slot_width) (omega arith) f.1 ∙ r)
    ∙ sym (ap (λ (m : ℕ). take m (drop i xs)) z ∙ take-add slot_width (n * slot_width) (drop i xs))

-- a well-formed record that is read and written again is the same numbers
record-forth : (xs : List ℕ) (b : ℕ) → b + record_width ≤ length xs → RecordFine xs b → record_numbers (record_at xs b) ≡ take record_width (drop b xs)
unfolding record_at record_numbers
record-forth xs b h f =
    let z : b + 1 ≡ suc b = omega arith in
    cons_same (flag (flag_of (get_or xs b 0))) (get_or xs b 0) (slots_numbers (map read_slot (windows xs (b + 1) slot_count))) (take (slot_count * slot_width) (drop (suc b) xs))
    (flag-forth (get_or xs b 0) f.presence)
    (slots-forth slot_count xs (b + 1) (omega arith) f.all ∙ ap (λ (j : ℕ). take (slot_count * slot_width) (drop j xs)) z)
    ∙ sym (ap (take record_width) (drop-cons xs b 0 (omega arith)))

-- the writer of the view of a well-formed row gives the row
pub row_back : (xs : List ℕ) → RowFine xs → row_of (style_at xs) ≡ xs
unfolding style_at row_of
row_back xs f =
    let h = f.long in
    let d : drop record_width (drop record_width xs) ≡ drop (2 * record_width) xs = drop-drop record_width record_width xs in
    let c : take record_width (drop (2 * record_width) xs) ≡ drop record_width (drop record_width xs) = take_all record_width (drop (2 * record_width) xs) (omega (arith, length-drop (2 * record_width) xs)) ∙ sym d in
    ap (λ (l : List ℕ). l ++ (record_numbers (record_at xs record_width) ++ record_numbers (record_at xs (2 * record_width)))) (record-forth xs 0 (omega arith) f.main)
    ∙ ap (λ (l : List ℕ). take record_width xs ++ (l ++ record_numbers (record_at xs (2 * record_width)))) (record-forth xs record_width (omega arith) f.before)
    ∙ ap (λ (l : List ℕ). take record_width xs ++ (take record_width (drop record_width xs) ++ l)) (record-forth xs (2 * record_width) (omega arith) f.after ∙ c)
    ∙ ap (λ (l : List ℕ). take record_width xs ++ l) (take-append-drop record_width (drop record_width xs))
    ∙ take-append-drop record_width xs

-- ---- the style in any row has all its slots
-- as many windows are cut as were asked for
windows-count : (n : ℕ) (xs : List ℕ) (i : ℕ) → length (windows xs i n) ≡ n
unfolding windows
windows-count zero xs i = refl
windows-count (suc n) xs i = ap suc (windows-count n xs (i + slot_width))

-- so many windows as a record has slots read as that many slots
slots-count : (xs : List ℕ) (i : ℕ) → length (map read_slot (windows xs i slot_count)) ≡ slot_count
slots-count xs i = length-map (windows xs i slot_count) read_slot ∙ windows-count slot_count xs i

-- so nothing is asked of a row for that
pub view-formed : (xs : List ℕ) → Formed (style_at xs)
unfolding style_at record_at
view-formed xs = record { main = slots-count xs (record_place main_record + presence_width); before = slots-count xs (record_place before_record + presence_width); after = slots-count xs (record_place after_record + presence_width) }

-- the style in which nothing is declared has them too
pub empty-formed : {A : Type 0} → Formed (empty_style {A = A})
unfolding empty_style empty_record
empty-formed = record { main = refl; before = refl; after = refl }

-- ---- an update keeps a row well formed
-- well-formed slots stay so with one of them replaced by a well-formed one
all_set : (ws : List (List ℕ)) (k : ℕ) (v : List ℕ) → AllFine ws → SlotFine v → AllFine (set ws k v)
all_set [] k v f g = f
all_set (w ∷ ws) zero v f g = (g, f.1)
all_set (w ∷ ws) (suc k) v f g = (f.0, all_set ws k v f.1 g)

-- the same numbers are as well formed
pub same-fine : (xs ys : List ℕ) (b : ℕ) → ((p : ℕ) → b ≤ p → p < b + record_width → get_or ys p 0 ≡ get_or xs p 0) → RecordFine xs b → RecordFine ys b
same-fine xs ys b f g = record {
  presence = rw (f b (omega arith) (omega arith)) g.presence;
  all = subst AllFine (sym (same-windows slot_count ys xs (b + 1) (λ p h k. f p (omega arith) (omega arith)))) g.all;
}

module _ (r k : ℕ) (u : Slot Value → Slot Value) (xs : List ℕ) (long : style_row_width ≤ length xs) (h : r < record_count) (l : k < slot_count) where
  -- the record of the updated slot stays well formed
  fine-there : RecordFine xs (record_place r) → RecordFine (update_row r k u xs) (record_place r)
  fine-there g =
      let s = u (slot_at xs (slot_place r k)) in
      record {
        presence = rw (update-presence r k u xs (omega arith) l) (omega arith);
        all = subst AllFine (sym (update-windows r k u xs (omega arith) l)) (all_set (windows xs (record_place r + 1) slot_count) k (slot_numbers s) g.all (slot-fine s));
      }

  -- so does the record at b, where that is the updated one
  fine-here : (b : ℕ) → record_place r ≡ b → RecordFine xs b → RecordFine (update_row r k u xs) b
  fine-here b e g = subst (RecordFine (update_row r k u xs)) e (fine-there (subst (RecordFine xs) (sym e) g))

  -- a record before the updated one stays well formed
  fine_before : (b : ℕ) → b + record_width ≤ record_place r → RecordFine xs b → RecordFine (update_row r k u xs) b
  fine_before b e = same-fine xs (update_row r k u xs) b (λ p m n. update-low r k u xs (omega arith) l p (omega arith))

  -- a record behind the updated one stays well formed
  fine-behind : (b : ℕ) → record_place r + record_width ≤ b → RecordFine xs b → RecordFine (update_row r k u xs) b
  fine-behind b e = same-fine xs (update_row r k u xs) b (λ p m n. update-high r k u xs (omega arith) l p (omega arith))

  -- of whatever record and slot
  pub update-fine : RowFine xs → RowFine (update_row r k u xs)
  update-fine f = go (which r h)
    where
      go : Which r → RowFine (update_row r k u xs)
      go (is_main e) = record { long = update-long r k u xs ∙ f.long; main = fine-here 0 (omega arith) f.main; before = fine-behind record_width (omega arith) f.before; after = fine-behind (2 * record_width) (omega arith) f.after }
      go (is_before e) = record { long = update-long r k u xs ∙ f.long; main = fine_before 0 (omega arith) f.main; before = fine-here record_width (omega arith) f.before; after = fine-behind (2 * record_width) (omega arith) f.after }
      go (is_after e) = record { long = update-long r k u xs ∙ f.long; main = fine_before 0 (omega arith) f.main; before = fine_before record_width (omega arith) f.before; after = fine-here (2 * record_width) (omega arith) f.after }

-- ---- declarations merged into a row, one and many, by any update of slots
module _ (u : Slot Value → Candidate Value → Slot Value) where
  -- a declaration leaves a row well formed
  pub merge-fine : (xs : List ℕ) (d : Declared Value) → RowFine xs → RowFine (merge_row_by u xs d)
  unfolding merge_row_by
  merge-fine xs d f =
      pick-holds RowFine (is_named d.pseudo d.slot) _ xs
      (λ e. let p = named-says d.pseudo d.slot e in update-fine d.pseudo d.slot (λ s. u s d.candidate) xs (omega (arith, f.long)) p.0 p.1 f)
      (λ e. f)

  -- the style in the row is the fold of the declarations
  pub merges-view : (ds : List (Declared Value)) (xs : List ℕ) → style_row_width ≤ length xs → style_at (foldl (merge_row_by u) xs ds) ≡ foldl (merge_by u) (style_at xs) ds
  merges-view [] xs h = refl
  merges-view (d ∷ ds) xs h = merges-view ds (merge_row_by u xs d) (omega (arith, merge-long u xs d)) ∙ ap (λ (s : ComputedStyle Value). foldl (merge_by u) s ds) (merge-view u xs d h)

  -- the row stays well formed
  pub merges-fine : (ds : List (Declared Value)) (xs : List ℕ) → RowFine xs → RowFine (foldl (merge_row_by u) xs ds)
  merges-fine [] xs f = f
  merges-fine (d ∷ ds) xs f = merges-fine ds (merge_row_by u xs d) (merge-fine xs d f)

  -- and a written row, merged into, is the written row of the merged style
  pub merges-layout : (ds : List (Declared Value)) (s : ComputedStyle Value) → Formed s → foldl (merge_row_by u) (row_of s) ds ≡ row_of (foldl (merge_by u) s ds)
  merges-layout ds s f =
      sym (row_back (foldl (merge_row_by u) (row_of s) ds) (merges-fine ds (row_of s) (row_fine s f)))
      ∙ ap row_of (merges-view ds (row_of s) (omega (arith, row-long s f)) ∙ ap (λ (t : ComputedStyle Value). foldl (merge_by u) t ds) (style-back s f))
