-- How a page lies in lent numbers (document 01, "The page"): six for a node, four for an attribute, and one byte text. The views are total: a
-- number that is not there reads as 0.
use Rattle.std.specs.Prelude.{ℕ, ◌+◌, ◌*◌, ◌/◌, List, [], ◌∷◌, ◌≡◌, refl, length, get_or}
use Rattle.combinators.specs.Part.{part}

-- "Rows are numbers of 32 bits. A node has 6: kind (0 document, 1 element, 2 other), parent's row, name start, name length, first attribute, attribute count."
abbrev pub node_width : ℕ
node_width = 6

abbrev pub kind_column : ℕ
kind_column = 0

abbrev pub parent_column : ℕ
parent_column = 1

abbrev pub name_start_column : ℕ
name_start_column = 2

abbrev pub name_length_column : ℕ
name_length_column = 3

abbrev pub first_attribute_column : ℕ
first_attribute_column = 4

abbrev pub attribute_count_column : ℕ
attribute_count_column = 5

-- kinds
abbrev pub document_kind : ℕ
document_kind = 0

abbrev pub element_kind : ℕ
element_kind = 1

abbrev pub other_kind : ℕ
other_kind = 2

pub record NodeRow : Type 0 where
  pub kind : ℕ
  pub parent : ℕ
  pub name_start : ℕ
  pub name_length : ℕ
  pub first_attribute : ℕ
  pub attribute_count : ℕ

-- the number in a column of a node's row
unfoldable pub node_number : List ℕ → ℕ → ℕ → ℕ
node_number nodes row column = get_or nodes (row * node_width + column) 0

-- all of them
abbrev pub node_at : List ℕ → ℕ → NodeRow
node_at nodes row =
    record {
      kind = node_number nodes row kind_column;
      parent = node_number nodes row parent_column;
      name_start = node_number nodes row name_start_column;
      name_length = node_number nodes row name_length_column;
      first_attribute = node_number nodes row first_attribute_column;
      attribute_count = node_number nodes row attribute_count_column;
    }

-- how many rows of nodes are lent
abbrev pub node_count : List ℕ → ℕ
node_count nodes = length nodes / node_width

-- ---- "An attribute has 4: name start, length, value start, length."
abbrev pub attribute_width : ℕ
attribute_width = 4

abbrev pub attribute_name_start_column : ℕ
attribute_name_start_column = 0

abbrev pub attribute_name_length_column : ℕ
attribute_name_length_column = 1

abbrev pub value_start_column : ℕ
value_start_column = 2

abbrev pub value_length_column : ℕ
value_length_column = 3

pub record AttributeRow : Type 0 where
  pub name_start : ℕ
  pub name_length : ℕ
  pub value_start : ℕ
  pub value_length : ℕ

-- the number in a column of an attribute's row
unfoldable pub attribute_number : List ℕ → ℕ → ℕ → ℕ
attribute_number attributes row column = get_or attributes (row * attribute_width + column) 0

-- all of them
abbrev pub attribute_at : List ℕ → ℕ → AttributeRow
attribute_at attributes row =
    record {
      name_start = attribute_number attributes row attribute_name_start_column;
      name_length = attribute_number attributes row attribute_name_length_column;
      value_start = attribute_number attributes row value_start_column;
      value_length = attribute_number attributes row value_length_column;
    }

-- how many rows of attributes are lent
abbrev pub attribute_rows : List ℕ → ℕ
attribute_rows attributes = length attributes / attribute_width

-- ---- texts: what lies between a start and a length, cut where the byte text ends
unfoldable pub name_of : List ℕ → List ℕ → ℕ → List ℕ
name_of nodes text row = part text (node_at nodes row).name_start (node_at nodes row).name_length

unfoldable pub attribute_name : List ℕ → List ℕ → ℕ → List ℕ
attribute_name attributes text row = part text (attribute_at attributes row).name_start (attribute_at attributes row).name_length

unfoldable pub attribute_value : List ℕ → List ℕ → ℕ → List ℕ
attribute_value attributes text row = part text (attribute_at attributes row).value_start (attribute_at attributes row).value_length

-- numbers are of 32 bits
abbrev pub number_bound : ℕ
number_bound = 4294967296

-- the second row, and the value of the second attribute
second-row : (node_at (0 ∷ 0 ∷ 0 ∷ 0 ∷ 0 ∷ 0 ∷ 1 ∷ 0 ∷ 7 ∷ 3 ∷ 5 ∷ 2 ∷ []) 1 ≡ record { kind = element_kind; parent = 0; name_start = 7; name_length = 3; first_attribute = 5; attribute_count = 2 })
    × (attribute_value (0 ∷ 1 ∷ 1 ∷ 1 ∷ 2 ∷ 1 ∷ 3 ∷ 2 ∷ []) (0x61 ∷ 0x62 ∷ 0x63 ∷ 0x64 ∷ 0x65 ∷ 0x66 ∷ []) 1 ≡ 0x64 ∷ 0x65 ∷ [])
unfolding node_number attribute_value attribute_number part
second-row = (refl, refl)
