-- Two style rows, each with the text that its contents lie in, compared directly: "Style rows are compared number by number, but a content's start and length by
-- the text that they name". Assumes nothing: these are definitions.
use Rattle.std.specs.Prelude.{ℕ, ◌+◌, ◌≤◌, ◌<◌, ◌≡◌, Bool, false, List, length, get_or}
use Rattle.combinators.specs.Choice.{or, is}
use Rattle.combinators.specs.Part.{part}
use Rattle.syntax.specs.Layout.{content_slot}
use Rattle.cascade.specs.Record.{slot_count, record_count, main_record, before_record, after_record}
use Rattle.cascade.specs.Row.{filled_flag, slot_number, slot_second, slot_width, slot_place, style_row_width}

-- ---- where a record has the start of its content, and the length
abbrev pub start_place : ℕ → ℕ
start_place r = slot_place r content_slot + slot_number

abbrev pub length_place : ℕ → ℕ
length_place r = slot_place r content_slot + slot_second

-- a place of a row is one of these
unfoldable pub is_span : ℕ → ℕ → Bool
is_span r j = or (is j (start_place r)) (is j (length_place r))

-- in one of the three records
unfoldable pub names_content : ℕ → Bool
names_content j = or (is_span main_record j) (or (is_span before_record j) (is_span after_record j))

-- ---- the contents of a record in two rows: each lies within its text, and they are the same
pub record SameContent (t u x y : List ℕ) (r : ℕ) : Type 0 where
  pub within-x : get_or x (start_place r) 0 + get_or x (length_place r) 0 ≤ length t
  pub within-y : get_or y (start_place r) 0 + get_or y (length_place r) 0 ≤ length u
  pub same : part t (get_or x (start_place r) 0) (get_or x (length_place r) 0) ≡ part u (get_or y (start_place r) 0) (get_or y (length_place r) 0)

-- ---- x is a style row with its text t, y one with its text u
pub record SameRow (t u x y : List ℕ) : Type 0 where
  pub long-x : length x ≡ style_row_width
  pub long-y : length y ≡ style_row_width
  -- number by number, but for starts and lengths of contents
  pub numbers : (j : ℕ) → j < style_row_width → names_content j ≡ false → get_or x j 0 ≡ get_or y j 0
  -- a slot is filled or not
  pub flags : (r k : ℕ) → r < record_count → k < slot_count → get_or x (slot_place r k) 0 ≤ filled_flag
  -- contents that there are, by their texts
  pub contents : (r : ℕ) → r < record_count → get_or x (slot_place r content_slot) 0 ≡ filled_flag → SameContent t u x y r
  -- "Slots unfilled .. are zeros"
  pub unfilled : (r k : ℕ) → r < record_count → k < slot_count → get_or x (slot_place r k) 0 ≡ 0 → (n : ℕ) → n < slot_width
      → (get_or x (slot_place r k + n) 0 ≡ 0) × (get_or y (slot_place r k + n) 0 ≡ 0)
