-- The row that an element begins with, and what it inherits behind its declarations, are the written rows of these styles. Assumes nothing.
use mathlib.Core.Path.{◌≡◌, refl, sym, ap, ◌∙◌, subst}
use Rattle.std.specs.Prelude.{Some, None}
use mathlib.Core.Bool.{Bool, true, false}
use mathlib.Core.List.{List, [], ◌∷◌, ◌++◌, foldl, foldl-append}
use Prim.Native.Nat.{ℕ, ◌*◌, ◌≤◌, ◌<◌}
use native.Mathlib.Omega.{arith}
use lib.ListN.{length, get_or, set, replicate, length-set}
use lib.Seq.{sets, get_or-set_same}
use Rattle.combinators.specs.Choice.{pick, is}
use Rattle.combinators.specs.Store.{wiped}
use Rattle.combinators.proofs.Rules.{pick_true, pick-false, pick-holds, is-no}
use Rattle.syntax.specs.Layout.{flag, flag_of, colour_slot, white_space_slot, visibility_slot}
use Rattle.syntax.specs.declared.styles.Value.{Value}
use Rattle.cascade.specs.declared.rows.Handed as rows
use Rattle.cascade.specs.declared.slots.Candidate as code
use Rattle.cascade.specs.declared.slots.Cascade.{Cascade}
use Rattle.cascade.specs.declared.slots.Cascade.TheVariants.{Crate, Book}
use Rattle.cascade.specs.declared.slots.Slot as slots
use Rattle.cascade.specs.Slot.{Candidate, Slot, fill_update, candidate_by, slot_by, held_by}
use Rattle.cascade.specs.Record.{slot_count, record_count, main_record, before_record, after_record, ComputedStyle, Formed, record_in, slot_of, slot_in, empty_record, empty_style, Declared, inherit_by, Handed, handed_by, handed_slot, handed_on, fill_record, fill_pseudo, finish_by}
use Rattle.cascade.specs.Row.{record_width, style_row_width, record_place, slot_place, slot_numbers, slots_numbers, record_numbers, row_of, slot_at, record_at, style_at, AllFine, RowFine, RowRoom, present_flag, present_row, merge_row_by, inherited_row, handed_says, handed_at, filled_row, filled_pseudo, finished_row, Finished}
use Rattle.cascade.proofs.Windows.{all-wiped}
use Rattle.cascade.proofs.RowLaws.{flag_one, slot-there, same-windows, Which, is_main, is_before, is_after, which}
use Rattle.cascade.proofs.RowBack.{same-fine, row-long, row_fine, row_back, style-back, empty-formed, merges-view, merges-fine}
use Rattle.cascade.proofs.Merging.{merge-long, merge-steps}
use Rattle.cascade.proofs.Rewriting.{present-view, present-number, begin-view}

-- marking the main record as present leaves a row well formed
present-fine : (xs : List ℕ) → RowFine xs → RowFine (set xs 0 1)
present-fine xs f = record {
  long = length-set xs 0 1 ∙ f.long;
  main = record {
    presence = rw (get_or-set_same xs 0 1 0 (omega (arith, f.long))) (omega arith);
    all = subst AllFine (sym (same-windows slot_count (set xs 0 1) xs 1 (λ p a b. present-number xs (omega (arith, f.long)) p (omega arith)))) f.main.all;
  };
  before = same-fine xs (set xs 0 1) record_width (λ p a b. present-number xs (omega (arith, f.long)) p (omega arith)) f.before;
  after = same-fine xs (set xs 0 1) (2 * record_width) (λ p a b. present-number xs (omega (arith, f.long)) p (omega arith)) f.after;
}

-- a row of nothing but zeros is the written row of nothing declared
zeros-row : row_of empty_style ≡ replicate style_row_width 0
unfolding row_of empty_style empty_record record_numbers slots_numbers slot_numbers flag
zeros-row = refl

-- a wiped row is that row
wiped-row : (xs : List ℕ) → length xs ≡ style_row_width → wiped 0 style_row_width xs ≡ row_of empty_style
wiped-row xs e = sym (all-wiped xs style_row_width e) ∙ ap (λ (n : ℕ). replicate n 0) e ∙ sym zeros-row

-- the row that a child begins with is well formed
pub inherit-fine : (c : Cascade) (xs : List ℕ) → RowFine xs → RowFine (inherited_row c xs)
unfolding inherited_row present_row
inherit-fine Crate xs f = present-fine xs f
inherit-fine Book xs f = present-fine _ (subst RowFine (sym (wiped-row xs f.long)) (row_fine empty_style empty-formed))

-- its style is the inherited one
pub inherited-view : (c : Cascade) (xs : List ℕ) → style_row_width ≤ length xs → style_at (inherited_row c xs) ≡ inherit_by c (style_at xs)
unfolding inherit_by
inherited-view Crate xs h = unfold inherited_row in present-view xs h
inherited-view Book xs h = unfold inherited_row in begin-view xs h

-- what a child of a written style begins with is the written inherited style
pub inherit-layout : (c : Cascade) (s : ComputedStyle Value) → Formed s → inherited_row c (row_of s) ≡ row_of (inherit_by c s)
inherit-layout c s f =
    sym (row_back (inherited_row c (row_of s)) (inherit-fine c (row_of s) (row_fine s f)))
    ∙ ap row_of (inherited-view c (row_of s) (omega (arith, row-long s f)) ∙ ap (inherit_by c) (style-back s f))

-- ---- what is handed on
-- the slots that a row hands on are those that its style does
pub handed-view : (xs : List ℕ) → style_row_width ≤ length xs → handed_at xs ≡ handed_by (style_at xs)
unfolding handed_at handed_by slot_in record_in style_at pick is
handed-view xs h = handed-same _ _ _ _ _ _ (own colour_slot (omega arith)) (own white_space_slot (omega arith)) (own visibility_slot (omega arith))
  where
    own : (k : ℕ) → k < slot_count → slot_at xs (slot_place main_record k) ≡ slot_of (record_at xs (record_place main_record)) k
    own k l = sym (slot-there main_record k (λ x. x) xs (omega arith) l)

    handed-same : {A : Type 0} (a b c d e f : Slot A) → a ≡ d → b ≡ e → c ≡ f
        → ◌≡◌ {A = Handed A} (record { colour = a; white_space = b; visibility = c }) (record { colour = d; white_space = e; visibility = f })
    handed-same a b c d e f p q r = rw (p, q, r)

-- the mark of a record in a row says whether it is present in the row's style
present-mark : (r : ℕ) (xs : List ℕ) → r < record_count → flag_of (get_or xs (record_place r) 0) ≡ (record_in (style_at xs) r).present
present-mark r xs h = go (which r h)
  where
    go : Which r → flag_of (get_or xs (record_place r) 0) ≡ (record_in (style_at xs) r).present
    go (is_main e) = rw e (unfold record_in style_at record_at pick is in refl)
    go (is_before e) = rw e (unfold record_in style_at record_at pick is in refl)
    go (is_after e) = rw e (unfold record_in style_at record_at pick is in refl)

-- declarations leave a row as long as it was
merges-long : (u : Slot Value → Candidate Value → Slot Value) (ds : List (Declared Value)) (xs : List ℕ) → length (foldl (merge_row_by u) xs ds) ≡ length xs
merges-long u [] xs = refl
merges-long u (d ∷ ds) xs = merges-long u ds (merge_row_by u xs d) ∙ merge-long u xs d

module _ (r : ℕ) (xs : List ℕ) where
  -- filling a record leaves the row as long as it was
  pub filled-long : (h : Handed Value) → length (filled_row r h xs) ≡ length xs
  unfolding filled_row
  filled-long h = merges-long fill_update (handed_on r h) xs

  -- and so does filling a pseudo record
  pub pseudo-long : length (filled_pseudo r xs) ≡ length xs
  unfolding filled_pseudo
  pseudo-long = pick-holds (λ (l : List ℕ). length l ≡ length xs) _ _ _ (λ _. filled-long (handed_at xs)) (λ _. refl)

  -- the style in a filled row is the filled style
  pub filled-view : (h : Handed Value) → style_row_width ≤ length xs → style_at (filled_row r h xs) ≡ fill_record r h (style_at xs)
  unfolding filled_row fill_record
  filled-view h l = merges-view fill_update (handed_on r h) xs l

  -- of a pseudo record too
  pub pseudo-view : r < record_count → style_row_width ≤ length xs → style_at (filled_pseudo r xs) ≡ fill_pseudo r (style_at xs)
  unfolding filled_pseudo fill_pseudo
  pseudo-view h l = go (flag_of (get_or xs (record_place r) 0)) refl
    where
      go : (t : Bool) → flag_of (get_or xs (record_place r) 0) ≡ t
          → style_at (pick (flag_of (get_or xs (record_place r) 0)) (filled_row r (handed_at xs) xs) xs) ≡ pick (record_in (style_at xs) r).present (fill_record r (handed_by (style_at xs)) (style_at xs)) (style_at xs)
      go true e =
          ap style_at (sym (pick_true _ _ _ _ e refl)) ∙ filled-view (handed_at xs) l ∙ ap (λ (g : Handed Value). fill_record r g (style_at xs)) (handed-view xs l)
          ∙ pick_true _ _ _ _ (sym (present-mark r xs h) ∙ e) refl
      go false e = ap style_at (sym (pick-false _ _ _ _ e refl)) ∙ pick-false _ _ _ _ (sym (present-mark r xs h) ∙ e) refl

  -- filling keeps a row well formed
  filled-fine : (h : Handed Value) → RowFine xs → RowFine (filled_row r h xs)
  unfolding filled_row
  filled-fine h f = merges-fine fill_update (handed_on r h) xs f

  pseudo-fine : RowFine xs → RowFine (filled_pseudo r xs)
  unfolding filled_pseudo
  pseudo-fine f = pick-holds RowFine _ _ _ (λ _. filled-fine (handed_at xs) f) (λ _. f)

-- ---- the row that an element ends with
-- its style is the finished one
pub finished-view : (c : Cascade) (h : Handed Value) (xs : List ℕ) → style_row_width ≤ length xs → style_at (finished_row c h xs) ≡ finish_by c h (style_at xs)
unfolding finished_row finish_by
finished-view Crate h xs l = refl
finished-view Book h xs l =
    let a = filled_row main_record h xs in
    let b = filled_pseudo before_record a in
    pseudo-view after_record b (omega arith) (omega (arith, l, filled-long main_record xs h, pseudo-long before_record a))
    ∙ ap (fill_pseudo after_record) (pseudo-view before_record a (omega arith) (omega (arith, l, filled-long main_record xs h)) ∙ ap (fill_pseudo before_record) (filled-view main_record xs h l))

-- it is well formed
finished-fine : (c : Cascade) (h : Handed Value) (xs : List ℕ) → RowFine xs → RowFine (finished_row c h xs)
unfolding finished_row
finished-fine Crate h xs f = f
finished-fine Book h xs f = pseudo-fine after_record _ (pseudo-fine before_record _ (filled-fine main_record xs h f))

-- what an element whose row is written ends with is the written finished style
pub finish-layout : (c : Cascade) (h : Handed Value) (s : ComputedStyle Value) → Formed s → finished_row c h (row_of s) ≡ row_of (finish_by c h s)
finish-layout c h s f =
    sym (row_back (finished_row c h (row_of s)) (finished-fine c h (row_of s) (row_fine s f)))
    ∙ ap row_of (finished-view c h (row_of s) (omega (arith, row-long s f)) ∙ ap (finish_by c h) (style-back s f))

-- what a written row hands on is what its style does
pub handed-layout : (s : ComputedStyle Value) → Formed s → handed_at (row_of s) ≡ handed_by s
handed-layout s f = handed-view (row_of s) (omega (arith, row-long s f)) ∙ ap handed_by (style-back s f)

-- ---- what the functions leave
-- the slots that are handed on, read one by one
pub handed-slots : (h : rows.Handed) (xs : List ℕ) → slot_by h.color ≡ slot_at xs (slot_place main_record colour_slot) → slot_by h.white_space ≡ slot_at xs (slot_place main_record white_space_slot)
    → slot_by h.visibility ≡ slot_at xs (slot_place main_record visibility_slot) → handed_says h ≡ handed_at xs
unfolding handed_says handed_at
handed-slots h xs e f g = rw (e, f, g)

-- one slot, from one that holds a value: taken out, filled and put back
pub slot-filled : (r k : ℕ) (x : code.Candidate) (from old new : slots.Slot) (xs ys : List ℕ) → r < record_count → k < slot_count → from.held ≡ Some x → slot_by old ≡ slot_at xs (slot_place r k)
    → slot_by new ≡ fill_update (slot_by old) (candidate_by x)
    → ys ≡ set (sets xs (slot_place r k) (slot_numbers (slot_by new))) (record_place r) present_flag → ys ≡ foldl (merge_row_by fill_update) xs (handed_slot r k (slot_by from))
slot-filled r k x from old new xs ys h l f e g y =
    rw f
    (unfold held_by in (unfold handed_slot in merge-steps fill_update xs (record { pseudo = r; slot = k; candidate = candidate_by x }) (slot_by old) (slot_by new) ys h l e g y))

-- one that holds nothing hands on nothing
pub slot-unfilled : (r k : ℕ) (from : slots.Slot) (xs : List ℕ) → from.held ≡ None → xs ≡ foldl (merge_row_by fill_update) xs (handed_slot r k (slot_by from))
slot-unfilled r k from xs f = rw f (unfold held_by in (unfold handed_slot in refl))

-- what is handed on to a record, one slot behind the other
pub record-filled : (r : ℕ) (h : rows.Handed) (xs ys zs ws : List ℕ) → ys ≡ foldl (merge_row_by fill_update) xs (handed_slot r colour_slot (slot_by h.color))
    → zs ≡ foldl (merge_row_by fill_update) ys (handed_slot r white_space_slot (slot_by h.white_space))
    → ws ≡ foldl (merge_row_by fill_update) zs (handed_slot r visibility_slot (slot_by h.visibility)) → ws ≡ filled_row r (handed_says h) xs
unfolding filled_row handed_says handed_on
record-filled r h xs ys zs ws e f g =
    let c = handed_slot r colour_slot (slot_by h.color) in
    let s = handed_slot r white_space_slot (slot_by h.white_space) in
    let v = handed_slot r visibility_slot (slot_by h.visibility) in
    rw (g, f, e, foldl-append (merge_row_by fill_update) xs c (s ++ v), foldl-append (merge_row_by fill_update) (foldl (merge_row_by fill_update) xs c) s v)

-- a pseudo record that is present, from what the row hands on
pub pseudo-filled : (r : ℕ) (own : rows.Handed) (xs ys : List ℕ) → get_or xs (record_place r) 0 ≡ present_flag → handed_says own ≡ handed_at xs → ys ≡ filled_row r (handed_says own) xs → ys ≡ filled_pseudo r xs
unfolding filled_pseudo
pseudo-filled r own xs ys p e f = pick_true _ _ _ _ (ap flag_of p ∙ flag_one) (f ∙ ap (λ (g : Handed Value). filled_row r g xs) e)

-- one that is not stays
pub pseudo-unfilled : (r : ℕ) (xs : List ℕ) → ¬ (get_or xs (record_place r) 0 ≡ present_flag) → xs ≡ filled_pseudo r xs
unfolding filled_pseudo flag_of
pseudo-unfilled r xs n = pick-false _ _ _ _ (is-no (get_or xs (record_place r) 0) present_flag n) refl

-- in the crate's cascade nothing changes
pub finished-by-crate : (k : Cascade) (h : Handed Value) (xs : List ℕ) → k ≡ Crate → Finished k h xs xs
finished-by-crate k h xs i = rw i (unfold finished_row finish_by in record { numbers = refl; meaning = refl })

-- in the book order the main record is filled, then the others
pub finished-in-book-order : (k : Cascade) (h : Handed Value) (xs a b ys : List ℕ) → k ≡ Book → RowRoom xs → a ≡ filled_row main_record h xs → b ≡ filled_pseudo before_record a → ys ≡ filled_pseudo after_record b
    → Finished k h xs ys
finished-in-book-order k h xs a b ys i room e f g =
    let n : ys ≡ finished_row Book h xs = unfold finished_row in (g ∙ ap (filled_pseudo after_record) (f ∙ ap (filled_pseudo before_record) e)) in
    rw i (record { numbers = n; meaning = ap style_at n ∙ finished-view Book h xs room.room })
