-- The numbers of a written style row, by record and slot.
use Prim.Native.Nat.{ℕ, zero, suc, ◌+◌, ◌*◌, ◌<◌}
use mathlib.Core.Path.{◌≡◌, refl, ap, ◌∙◌}
use mathlib.Core.List.{List, [], ◌∷◌, ◌++◌}
use native.Mathlib.Nat.{not-suc-le-zero}
use native.Mathlib.Omega.{arith}
use lib.ListN.{length, get_or, get_or-append}
use lib.Seq.{get_or-append-add}
use Rattle.combinators.specs.Choice.{pick, is}
use Rattle.syntax.specs.Layout.{flag}
use Rattle.syntax.specs.declared.styles.Value.{Value}
use Rattle.cascade.specs.Slot.{Slot, empty}
use Rattle.cascade.specs.Record.{slot_count, record_count, Record, ComputedStyle, Formed, record_in, slot_of, slot_in}
use Rattle.cascade.specs.Row.{slot_width, record_width, record_place, slot_place, slot_numbers, slots_numbers, record_numbers, row_of}
use Rattle.cascade.proofs.RowLaws.{slot-width}
use Rattle.cascade.proofs.RowBack.{record-width}

-- ---- of slots one behind the other
-- a number of slot k is one of its own numbers
slots-number : (ss : List (Slot Value)) (k n : ℕ) → n < slot_width → k < length ss → get_or (slots_numbers ss) (k * slot_width + n) 0 ≡ get_or (slot_numbers (get_or ss k empty)) n 0
unfolding slots_numbers
slots-number [] k n h l = absurd (not-suc-le-zero l)
slots-number (s ∷ ss) zero n h l =
    let z : 0 * slot_width + n ≡ n = omega arith in
    ap (λ (j : ℕ). get_or (slot_numbers s ++ slots_numbers ss) j 0) z ∙ get_or-append (slot_numbers s) (slots_numbers ss) 0 n (omega (arith, slot-width s))
slots-number (s ∷ ss) (suc k) n h l =
    let z : suc k * slot_width + n ≡ length (slot_numbers s) + (k * slot_width + n) = omega (arith, slot-width s) in
    ap (λ (j : ℕ). get_or (slot_numbers s ++ slots_numbers ss) j 0) z
    ∙ get_or-append-add (slot_numbers s) (slots_numbers ss) (k * slot_width + n) 0
    ∙ slots-number ss k n h (omega arith)

-- ---- of a record
-- a number of one of its slots
record-number : (p : Record Value) (k n : ℕ) → length p.slots ≡ slot_count → k < slot_count → n < slot_width
    → get_or (record_numbers p) (suc (k * slot_width + n)) 0 ≡ get_or (slot_numbers (slot_of p k)) n 0
unfolding record_numbers slot_of
record-number p k n f h l = slots-number p.slots k n l (omega (arith, f))

-- the first number of a record says whether it is present
record-presence : (p : Record Value) → get_or (record_numbers p) 0 0 ≡ flag p.present
unfolding record_numbers
record-presence p = refl

-- ---- of a style
module _ (s : ComputedStyle Value) (f : Formed s) where
  abbrev A : List ℕ
  A = record_numbers s.main

  abbrev B : List ℕ
  B = record_numbers s.before

  abbrev C : List ℕ
  C = record_numbers s.after

  -- each record has all its slots
  whole : (r : ℕ) → r < record_count → length (record_in s r).slots ≡ slot_count
  unfolding record_in pick is
  whole zero h = f.main
  whole (suc zero) h = f.before
  whole (suc (suc zero)) h = f.after
  whole (suc (suc (suc r))) h = absurd (omega arith)

  -- a number of the row, at the place of a record, is a number of that record
  in-record : (r o : ℕ) → r < record_count → o < record_width → get_or (row_of s) (record_place r + o) 0 ≡ get_or (record_numbers (record_in s r)) o 0
  unfolding row_of record_in pick is
  in-record zero o h l =
      let z : record_place 0 + o ≡ o = omega arith in
      ap (λ (j : ℕ). get_or (A ++ (B ++ C)) j 0) z ∙ get_or-append A (B ++ C) 0 o (omega (arith, record-width s.main f.main))
  in-record (suc zero) o h l =
      let z : record_place 1 + o ≡ length A + o = omega (arith, record-width s.main f.main) in
      ap (λ (j : ℕ). get_or (A ++ (B ++ C)) j 0) z ∙ get_or-append-add A (B ++ C) o 0 ∙ get_or-append B C 0 o (omega (arith, record-width s.before f.before))
  in-record (suc (suc zero)) o h l =
      let z : record_place 2 + o ≡ length A + (length B + o) = omega (arith, record-width s.main f.main, record-width s.before f.before) in
      ap (λ (j : ℕ). get_or (A ++ (B ++ C)) j 0) z ∙ get_or-append-add A (B ++ C) (length B + o) 0 ∙ get_or-append-add B C o 0
  in-record (suc (suc (suc r))) o h l = absurd (omega arith)

  -- whether it is present
  pub presence-number : (r : ℕ) → r < record_count → get_or (row_of s) (record_place r) 0 ≡ flag (record_in s r).present
  presence-number r h =
      let z : record_place r ≡ record_place r + 0 = omega arith in
      ap (λ (j : ℕ). get_or (row_of s) j 0) z ∙ in-record r 0 h (omega arith) ∙ record-presence (record_in s r)

  -- a number of the row, at the place of a slot, is a number of that slot
  pub slot-number : (r k n : ℕ) → r < record_count → k < slot_count → n < slot_width → get_or (row_of s) (slot_place r k + n) 0 ≡ get_or (slot_numbers (slot_in s r k)) n 0
  unfolding slot_in
  slot-number r k n h l m =
      let z : slot_place r k + n ≡ record_place r + suc (k * slot_width + n) = omega arith in
      ap (λ (j : ℕ). get_or (row_of s) j 0) z ∙ in-record r (suc (k * slot_width + n)) h (omega arith) ∙ record-number (record_in s r) k n (whole r h) l m

  -- the number at the place of a slot is the slot's first, its flag
  pub slot-flag : (r k : ℕ) → r < record_count → k < slot_count → get_or (row_of s) (slot_place r k) 0 ≡ get_or (slot_numbers (slot_in s r k)) 0 0
  slot-flag r k h l =
      let z : slot_place r k ≡ slot_place r k + 0 = omega arith in
      ap (λ (j : ℕ). get_or (row_of s) j 0) z ∙ slot-number r k 0 h l (omega arith)
