-- How a style lies in a row of numbers, and what the functions leave there. Assumes nothing: these are definitions.
use Rattle.std.specs.Prelude.{◌≡◌, ℕ, zero, suc, ◌+◌, ◌*◌, ◌≤◌, length, get_or, set, replicate}
use mathlib.Core.List.{List, [], ◌∷◌, ◌++◌, map, foldl}
use Rattle.std.proofs.lemmas.List.Edits.{sets}
use Rattle.combinators.specs.Choice.{pick}
use Rattle.combinators.specs.Store.{wiped}
use Rattle.syntax.specs.Layout.{flag, flag_of, value_numbers, colour_slot, white_space_slot, visibility_slot}
use Rattle.syntax.specs.declared.styles.Value.{Value}
use Rattle.cascade.specs.declared.rows.Handed as code
use Rattle.cascade.specs.declared.slots.Cascade.{Cascade}
use Rattle.cascade.specs.declared.slots.Cascade.TheVariants.{Crate, Book}
use Rattle.cascade.specs.Slot.{Candidate, Slot, empty, held, update_by, fill_update, slot_by}
use Rattle.cascade.specs.Record.{slot_count, record_count, main_record, before_record, after_record, Record, ComputedStyle, empty_style, Declared, is_named, merge_by, inherit_by, Handed, handed_on, finish_by}

-- ---- the numbers of a slot: "filled, origin, inline, id, class, type, important, value, second", and the start (S-3: "A slot gains a tenth number")
abbrev pub slot_filled : ℕ
slot_filled = 0

abbrev pub slot_origin : ℕ
slot_origin = 1

abbrev pub slot_inline : ℕ
slot_inline = 2

abbrev pub slot_id : ℕ
slot_id = 3

abbrev pub slot_class : ℕ
slot_class = 4

abbrev pub slot_type : ℕ
slot_type = 5

abbrev pub slot_important : ℕ
slot_important = 6

abbrev pub filled_flag : ℕ
filled_flag = 1

-- the numbers of its value begin here
abbrev pub slot_number : ℕ
slot_number = 7

abbrev pub slot_second : ℕ
slot_second = 8

abbrev pub slot_start : ℕ
slot_start = 9

abbrev pub slot_width : ℕ
slot_width = 10

-- ---- A style row has for main, before, after "a presence flag (main always 1)" and its slots, six since S-9, of ten numbers since S-3, so that "a style row now has 183
-- numbers" (S-9); "the boxed pseudo records become two flat ones"
abbrev pub present_flag : ℕ
present_flag = 1

abbrev pub presence_width : ℕ
presence_width = 1

abbrev pub record_width : ℕ
record_width = presence_width + slot_count * slot_width

abbrev pub style_row_width : ℕ
style_row_width = record_count * record_width

-- where a record begins, and where a slot does
abbrev pub record_place : ℕ → ℕ
record_place r = r * record_width

abbrev pub slot_place : ℕ → ℕ → ℕ
slot_place r k = record_place r + presence_width + k * slot_width

-- ---- the writer: "Slots unfilled .. are zeros"
unfoldable pub slot_numbers : Slot Value → List ℕ
slot_numbers empty = replicate slot_width 0
slot_numbers (held c) =
    filled_flag
    ∷ c.weight.origin
    ∷ flag c.weight.spec.inline
    ∷ c.weight.spec.id
    ∷ c.weight.spec.class
    ∷ c.weight.spec.typ
    ∷ flag c.weight.important
    ∷ value_numbers c.value

unfoldable pub slots_numbers : List (Slot Value) → List ℕ
slots_numbers [] = []
slots_numbers (s ∷ ss) = slot_numbers s ++ slots_numbers ss

unfoldable pub record_numbers : Record Value → List ℕ
record_numbers p = flag p.present ∷ slots_numbers p.slots

unfoldable pub row_of : ComputedStyle Value → List ℕ
row_of s = record_numbers s.main ++ (record_numbers s.before ++ record_numbers s.after)

-- ---- the view
-- n numbers from i + j on, with zeros past the end
abbrev pub reads : List ℕ → ℕ → ℕ → ℕ → List ℕ
reads xs i j zero = []
reads xs i j (suc n) = get_or xs (i + j) 0 ∷ reads xs i (suc j) n

-- the value of a filled slot
unfoldable pub read_candidate : List ℕ → Candidate Value
read_candidate l =
    record {
      weight =
          record {
            important = flag_of (get_or l slot_important 0);
            origin = get_or l slot_origin 0;
            spec = record { inline = flag_of (get_or l slot_inline 0); id = get_or l slot_id 0; class = get_or l slot_class 0; typ = get_or l slot_type 0 };
          };
      value = record { number = get_or l slot_number 0; second = get_or l slot_second 0; start = get_or l slot_start 0 };
    }

unfoldable pub read_slot : List ℕ → Slot Value
read_slot l = pick (flag_of (get_or l slot_filled 0)) (held (read_candidate l)) empty

unfoldable pub slot_at : List ℕ → ℕ → Slot Value
slot_at xs i = read_slot (reads xs i 0 slot_width)

-- the numbers of n slots from i on, slot by slot
unfoldable pub windows : List ℕ → ℕ → ℕ → List (List ℕ)
windows xs i zero = []
windows xs i (suc n) = reads xs i 0 slot_width ∷ windows xs (i + slot_width) n

unfoldable pub record_at : List ℕ → ℕ → Record Value
record_at xs b = record { present = flag_of (get_or xs b 0); slots = map read_slot (windows xs (b + presence_width) slot_count) }

unfoldable pub style_at : List ℕ → ComputedStyle Value
style_at xs = record { main = record_at xs (record_place main_record); before = record_at xs (record_place before_record); after = record_at xs (record_place after_record) }

-- ---- a row as the writer makes them: it is whole, and each slot read and written again is itself
abbrev pub SlotFine : List ℕ → Type 0
SlotFine l = slot_numbers (read_slot l) ≡ l

abbrev pub AllFine : List (List ℕ) → Type 0
AllFine [] = Unit
AllFine (w ∷ ws) = SlotFine w × AllFine ws

pub record RecordFine (xs : List ℕ) (b : ℕ) : Type 0 where
  pub presence : get_or xs b 0 ≤ 1
  pub all : AllFine (windows xs (b + presence_width) slot_count)

pub record RowFine (xs : List ℕ) : Type 0 where
  pub long : length xs ≡ style_row_width
  pub main : RecordFine xs (record_place main_record)
  pub before : RecordFine xs (record_place before_record)
  pub after : RecordFine xs (record_place after_record)

-- ---- what is asked of a lent row: that a style has room
pub record RowRoom (xs : List ℕ) : Type 0 where
  pub room : style_row_width ≤ length xs

-- and of two rows in one store: that the one stands before the other, and both have room
pub record TwoRooms (xs : List ℕ) (from to : ℕ) : Type 0 where
  pub apart : from + style_row_width ≤ to
  pub room : to + style_row_width ≤ length xs

-- ---- one slot taken out, updated and put back; its record is then present
unfoldable pub update_row : ℕ → ℕ → (Slot Value → Slot Value) → List ℕ → List ℕ
update_row r k u xs = set (sets xs (slot_place r k) (slot_numbers (u (slot_at xs (slot_place r k))))) (record_place r) present_flag

-- one declaration by an update of slots
unfoldable pub merge_row_by : (Slot Value → Candidate Value → Slot Value) → List ℕ → Declared Value → List ℕ
merge_row_by u xs d = pick (is_named d.pseudo d.slot) (update_row d.pseudo d.slot (λ x. u x d.candidate) xs) xs

-- ---- rows that a child begins with, in place of its parent's
-- the main record present
unfoldable pub present_row : List ℕ → List ℕ
present_row xs = set xs (record_place main_record) present_flag

unfoldable pub inherited_row : Cascade → List ℕ → List ℕ
inherited_row Crate xs = present_row xs
inherited_row Book xs = present_row (wiped 0 style_row_width xs)

-- ---- rows that it ends with, from what its parent hands on
-- that, as the code's value of it says
unfoldable pub handed_says : code.Handed → Handed Value
handed_says h = record { colour = slot_by h.color; white_space = slot_by h.white_space; visibility = slot_by h.visibility }

-- the slots of a row's main record that are handed on
unfoldable pub handed_at : List ℕ → Handed Value
handed_at xs =
    record {
      colour = slot_at xs (slot_place main_record colour_slot);
      white_space = slot_at xs (slot_place main_record white_space_slot);
      visibility = slot_at xs (slot_place main_record visibility_slot);
    }

unfoldable pub filled_row : ℕ → Handed Value → List ℕ → List ℕ
filled_row r h xs = foldl (merge_row_by fill_update) xs (handed_on r h)

-- a pseudo record that is present, from the main one
unfoldable pub filled_pseudo : ℕ → List ℕ → List ℕ
filled_pseudo r xs = pick (flag_of (get_or xs (record_place r) 0)) (filled_row r (handed_at xs) xs) xs

unfoldable pub finished_row : Cascade → Handed Value → List ℕ → List ℕ
finished_row Crate h xs = xs
finished_row Book h xs = filled_pseudo after_record (filled_pseudo before_record (filled_row main_record h xs))

-- ---- what the functions leave: every number, and the style that the row then holds
pub record Merged (c : Cascade) (xs ys : List ℕ) (d : Declared Value) : Type 0 where
  pub numbers : ys ≡ merge_row_by (update_by c) xs d
  pub meaning : style_at ys ≡ merge_by (update_by c) (style_at xs) d

pub record Inherited (c : Cascade) (xs ys : List ℕ) : Type 0 where
  pub numbers : ys ≡ inherited_row c xs
  pub meaning : style_at ys ≡ inherit_by c (style_at xs)

pub record Finished (c : Cascade) (h : Handed Value) (xs ys : List ℕ) : Type 0 where
  pub numbers : ys ≡ finished_row c h xs
  pub meaning : style_at ys ≡ finish_by c h (style_at xs)

pub record Emptied (xs ys : List ℕ) : Type 0 where
  pub numbers : ys ≡ wiped 0 style_row_width xs
  pub meaning : style_at ys ≡ empty_style
