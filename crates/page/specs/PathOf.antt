-- The path of a row: the elements from it up to the top, each with its name, its attributes and its place.
use Rattle.std.specs.Prelude.{ℕ, zero, suc, ◌+◌, List, [], ◌∷◌}
use Rattle.combinators.specs.Choice.{pick, is}
use Rattle.page.specs.Path.{Attribute, Element, Path}
use Rattle.page.specs.Rows.{node_at, element_kind, name_of, attribute_name, attribute_value}
use Rattle.page.specs.Ancestors.{line_of, place_of}

-- k attributes, the first of them row `at`
unfoldable pub attributes_from : List ℕ → List ℕ → ℕ → ℕ → List Attribute
attributes_from attributes text zero at = []
attributes_from attributes text (suc k) at =
    record { name = attribute_name attributes text at; value = attribute_value attributes text at } ∷ attributes_from attributes text k (at + 1)

-- a row as a member of a path
unfoldable pub element_at : List ℕ → List ℕ → List ℕ → ℕ → Element
element_at nodes attributes text row =
    record {
      name = name_of nodes text row;
      attributes = attributes_from attributes text (node_at nodes row).attribute_count (node_at nodes row).first_attribute;
      place = place_of nodes row;
    }

-- the elements among some rows
unfoldable pub elements_of : List ℕ → List ℕ → List ℕ → List ℕ → List Element
elements_of nodes attributes text [] = []
elements_of nodes attributes text (row ∷ rows) =
    let rest = elements_of nodes attributes text rows in
    pick (is (node_at nodes row).kind element_kind) (element_at nodes attributes text row ∷ rest) rest

-- the document's path is empty; that of other content is its parent's
unfoldable pub path_of : List ℕ → List ℕ → List ℕ → ℕ → Path
path_of nodes attributes text row = elements_of nodes attributes text (line_of nodes row)
