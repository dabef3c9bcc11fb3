-- One declaration merged into a row: every number, and the style that the row then holds. Assumes nothing.
use mathlib.Core.Path.{◌≡◌, refl, sym, ap, ◌∙◌}
use mathlib.Core.Bool.{Bool, true, false}
use mathlib.Core.List.{List}
use Prim.Native.Nat.{ℕ, ◌≤◌, ◌<◌}
use lib.ListN.{length, set}
use lib.Seq.{sets}
use borrow.Author.Tests.{lt-ltb, ltb-true}
use Rattle.combinators.specs.Choice.{pick}
use Rattle.combinators.proofs.Rules.{pick_true, pick-false, pick-holds, and_both, and-true}
use Rattle.syntax.specs.declared.styles.Value.{Value}
use Rattle.cascade.specs.declared.slots.Cascade.{Cascade}
use Rattle.cascade.specs.declared.slots.Slot as slots
use Rattle.cascade.specs.Slot.{Candidate, Slot, update_by, slot_by}
use Rattle.cascade.specs.Record.{slot_count, record_count, update_style, Declared, is_named, merge_by}
use Rattle.cascade.specs.Row.{style_row_width, record_place, slot_place, slot_numbers, slot_at, style_at, update_row, merge_row_by, RowRoom, Merged}
use Rattle.cascade.proofs.RowLaws.{update-long, update-view}

-- ---- which declarations name a slot
module _ (r k : ℕ) where
  -- a record and a slot that there are
  pub named : r < record_count → k < slot_count → is_named r k ≡ true
  unfolding is_named
  named h l = and_both _ _ (lt-ltb r record_count h) (lt-ltb k slot_count l)

  -- what it means to be named
  pub named-says : is_named r k ≡ true → (r < record_count) × (k < slot_count)
  unfolding is_named
  named-says e = let p = and-true _ _ e in (ltb-true r record_count p.0, ltb-true k slot_count p.1)

-- ---- by any update of slots
module _ (u : Slot Value → Candidate Value → Slot Value) (xs : List ℕ) (d : Declared Value) where
  -- the row stays as long as it is
  pub merge-long : length (merge_row_by u xs d) ≡ length xs
  unfolding merge_row_by
  merge-long = pick-holds (λ (l : List ℕ). length l ≡ length xs) _ _ _ (λ e. update-long d.pseudo d.slot (λ s. u s d.candidate) xs) (λ e. refl)

  -- and its style is the merged one
  pub merge-view : style_row_width ≤ length xs → style_at (merge_row_by u xs d) ≡ merge_by u (style_at xs) d
  unfolding merge_row_by merge_by
  merge-view h = go (is_named d.pseudo d.slot) refl
    where
      go : (t : Bool) → is_named d.pseudo d.slot ≡ t
          → style_at (pick (is_named d.pseudo d.slot) (update_row d.pseudo d.slot (λ s. u s d.candidate) xs) xs)
          ≡ pick (is_named d.pseudo d.slot) (update_style d.pseudo d.slot (λ s. u s d.candidate) (style_at xs)) (style_at xs)
      go true e =
          let p = named-says d.pseudo d.slot e in
          ap style_at (sym (pick_true _ _ _ _ e refl)) ∙ update-view d.pseudo d.slot (λ s. u s d.candidate) xs h p.0 p.1 ∙ pick_true _ _ _ _ e refl
      go false e = ap style_at (sym (pick-false _ _ _ _ e refl)) ∙ pick-false _ _ _ _ e refl

  -- the slot read, updated and written, and its record marked, are the merge
  pub merge-steps : (old new : Slot Value) (ys : List ℕ) → d.pseudo < record_count → d.slot < slot_count → old ≡ slot_at xs (slot_place d.pseudo d.slot) → new ≡ u old d.candidate
      → ys ≡ set (sets xs (slot_place d.pseudo d.slot) (slot_numbers new)) (record_place d.pseudo) 1 → ys ≡ merge_row_by u xs d
  unfolding merge_row_by update_row
  merge-steps old new ys h l e f g = pick_true _ _ _ _ (named d.pseudo d.slot h l) (rw (f, e) at g)

  -- and where there is no such record, or no such slot
  pub merge-nothing : is_named d.pseudo d.slot ≡ false → xs ≡ merge_row_by u xs d
  unfolding merge_row_by
  merge-nothing e = pick-false _ _ _ _ e refl

-- ---- by the update of a cascade
module _ (c : Cascade) (xs ys : List ℕ) (d : Declared Value) (h : RowRoom xs) where
  -- numbers that are those of the merged row are the merge, as its style is the merged one
  by-numbers : ys ≡ merge_row_by (update_by c) xs d → Merged c xs ys d
  by-numbers e = record { numbers = e; meaning = ap style_at e ∙ merge-view (update_by c) xs d h.room }

  -- a slot taken out, updated and put back
  pub merged : (old new : slots.Slot) → d.pseudo < record_count → d.slot < slot_count → slot_by old ≡ slot_at xs (slot_place d.pseudo d.slot) → slot_by new ≡ update_by c (slot_by old) d.candidate
      → ys ≡ set (sets xs (slot_place d.pseudo d.slot) (slot_numbers (slot_by new))) (record_place d.pseudo) 1 → Merged c xs ys d
  merged old new a b e f g = by-numbers (merge-steps (update_by c) xs d (slot_by old) (slot_by new) ys a b e f g)

  -- nothing changes where there is no such slot
  pub merged-nothing : is_named d.pseudo d.slot ≡ false → ys ≡ xs → Merged c xs ys d
  merged-nothing e f = by-numbers (f ∙ merge-nothing (update_by c) xs d e)
