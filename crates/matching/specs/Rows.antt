-- What matching reads off rows: the components of a selector, and the attributes of an element. The views are total: a number that is not there reads
-- as 0.
use Rattle.std.specs.Prelude.{ℕ, suc, ◌+◌, ◌*◌, ◌<◌, Bool, List, [], ◌∷◌, reverse, ◌≡◌, refl, get_or}
use Rattle.std.specs.Coded.{Coded-set, coded_ℕ, le_prop}
use mathlib.Core.HLevel.{¬_prop}
use Rattle.combinators.specs.Choice.{pick, is}
use Rattle.combinators.specs.Part.{part}
use Rattle.syntax.specs.RuleLayout.{component_width, component_kind_at, component_text_at, component_first_at, component_second_at, component_from, read_component, class_kind, element_kind, hash_kind, child_kind, descendant_kind, nth_kind, attribute_kind}
use Rattle.syntax.specs.Selector.{Component, class, child, element}
use Rattle.syntax.specs.Signed.{signed_of}
use Rattle.syntax.specs.Stream.{read_many}
use Rattle.page.specs.Ancestors.{element_children}
use Rattle.page.specs.Path.{Attribute, Element}
use Rattle.page.specs.Rows as page
use Rattle.page.specs.Rows.{node_at, attribute_name, attribute_value}
use Rattle.matching.specs.Matches.{any_attribute, is_class, is_id, is_named, first_is, name_is}
use Rattle.matching.specs.Nth.{nth_matches}

-- ---- components, whose rows are in reading order

-- the number in a column of a component's row
unfoldable pub component_number : List ℕ → ℕ → ℕ → ℕ
component_number components i column = get_or components (i * component_width + column) 0

unfoldable pub component_at : List ℕ → List ℕ → ℕ → Component
component_at store components i =
    component_from store (component_number components i component_kind_at) (component_number components i component_text_at) (component_number components i component_first_at) (component_number components i component_second_at)

-- the first n components, rightmost first, as a selector lists them
unfoldable pub components_at : List ℕ → List ℕ → ℕ → List Component
components_at store components n = reverse (read_many (read_component store) n components).value

-- the texts of a component
unfoldable pub first_text : List ℕ → List ℕ → ℕ → List ℕ
first_text store components i = part store (component_number components i component_text_at) (component_number components i component_first_at)

unfoldable pub second_text : List ℕ → List ℕ → ℕ → List ℕ
second_text store components i =
    part store (component_number components i component_text_at + component_number components i component_first_at) (component_number components i component_second_at)

-- `a > .b`, whose texts lie at 3
test-components : components_at (0 ∷ 0 ∷ 0 ∷ 0x61 ∷ 0x62 ∷ []) (element_kind ∷ 3 ∷ 1 ∷ 0 ∷ child_kind ∷ 4 ∷ 0 ∷ 0 ∷ class_kind ∷ 4 ∷ 1 ∷ 0 ∷ []) 3
    ≡ class (0x62 ∷ []) ∷ child ∷ element (0x61 ∷ []) ∷ []
unfolding components_at read_many read_component component_from part pick is
test-components = refl

-- a component that is no combinator
pub record SimpleAt (components : List ℕ) (i : ℕ) : Type 0 where
  pub no-child : ¬ (component_number components i component_kind_at ≡ child_kind)
  pub no-descendant : ¬ (component_number components i component_kind_at ≡ descendant_kind)

-- ---- attributes
unfoldable pub attribute_of : List ℕ → List ℕ → ℕ → Attribute
attribute_of attributes text row = record { name = attribute_name attributes text row; value = attribute_value attributes text row }

-- what a component of a kind that is neither star, element nor nth asks of an element's attributes, with its two texts
unfoldable pub attributes_pass : ℕ → List ℕ → List ℕ → List Attribute → Bool
attributes_pass kind name value l =
    pick (is kind class_kind) (any_attribute (is_class name) l)
    (pick (is kind hash_kind) (any_attribute (is_id name) l)
    (pick (is kind attribute_kind) (any_attribute (is_named name) l)
    (first_is name value l)))

-- what a component that is neither star nor combinator asks of an element
unfoldable pub element_passes : List ℕ → List ℕ → ℕ → Element → Bool
element_passes store components i e =
    let kind = component_number components i component_kind_at in
    pick (is kind nth_kind) (nth_matches (signed_of (component_number components i component_first_at)) (signed_of (component_number components i component_second_at)) e.place)
    (pick (is kind element_kind) (name_is (first_text store components i) e)
    (attributes_pass kind (first_text store components i) (second_text store components i) e.attributes))

-- ---- nodes

-- a row from which parents lead to the document: row 0, which is no element, or an element behind such a row, to which no row up to it belongs as an
-- element child. On an accepted page every element is.
pub data Rooted (nodes : List ℕ) : ℕ → Type 0 where
  document : ¬ ((node_at nodes 0).kind ≡ page.element_kind) → Rooted nodes 0
  below : {row : ℕ} → (node_at nodes row).kind ≡ page.element_kind → (node_at nodes row).parent < row
      → element_children nodes (node_at nodes row).parent (suc (node_at nodes row).parent) ≡ 0 → Rooted nodes (node_at nodes row).parent → Rooted nodes row

-- a row is rooted in one way at most
pub Rooted-prop : (nodes : List ℕ) (row : ℕ) → IsProp (Rooted nodes row)
Rooted-prop nodes row (document d) (document e) = λ i. document (¬_prop d e i)
Rooted-prop nodes row (document d) (below k l n r) = absurd (d k)
Rooted-prop nodes row (below k l n r) (document d) = absurd (d k)
Rooted-prop nodes row (below k l n r) (below k' l' n' r') =
    λ i. below (Coded-set coded_ℕ _ _ k k' i) (le_prop l l' i) (Coded-set coded_ℕ _ _ n n' i) (Rooted-prop nodes (node_at nodes row).parent r r' i)
