-- What is read off a row: a number in a column, and a text by its start and length.
use mathlib.Core.Path.{◌≡◌, sym}
use mathlib.Core.List.{List}
use Prim.Native.Nat.{ℕ, ◌≤◌}
use native.Mathlib.Omega.{arith}
use lib.ListN.{length, get_or-eq_default}
use Rattle.combinators.specs.Part.{part}
use Rattle.page.specs.Rows.{node_number, node_at, name_of, attribute_at, attribute_name, attribute_value}

module _ (rows : List ℕ) (row column r : ℕ) where
  -- a row past the end has zeros
  pub node-past : length rows ≤ row → 0 ≡ node_number rows row column
  unfolding node_number
  node-past h = sym (get_or-eq_default rows 0 (omega arith))

module _ (rows text : List ℕ) (row start n : ℕ) (r : List ℕ) (cut : r ≡ part text start n) where
  -- a node's name is the part that its row gives
  pub name-cut : start ≡ (node_at rows row).name_start → n ≡ (node_at rows row).name_length → r ≡ name_of rows text row
  unfolding name_of
  name-cut e f = rw (← e, ← f) cut

  -- an attribute's name is the part that its row gives
  pub attribute-name-cut : start ≡ (attribute_at rows row).name_start → n ≡ (attribute_at rows row).name_length → r ≡ attribute_name rows text row
  unfolding attribute_name
  attribute-name-cut e f = rw (← e, ← f) cut

  -- an attribute's value is the part that its row gives
  pub value-cut : start ≡ (attribute_at rows row).value_start → n ≡ (attribute_at rows row).value_length → r ≡ attribute_value rows text row
  unfolding attribute_value
  value-cut e f = rw (← e, ← f) cut
