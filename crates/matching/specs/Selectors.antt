-- The words of Selectors Level 3 that the laws of proofs/Selectors.antt use: parent and ancestor (section 8), counts of selectors (section 9).
-- The numbers of the sections are from memory.
use Rattle.std.specs.Prelude.{ℕ, ◌+◌, Bool, List, [], ◌∷◌}
use Rattle.combinators.specs.Choice.{pick, or, is}
use Rattle.syntax.specs.RuleLayout.{component_kind, class_kind, element_kind, hash_kind, nth_kind, attribute_kind, attribute_equal_kind}
use Rattle.syntax.specs.Selector.{Component}
use Rattle.page.specs.Path.{Element, Path}

-- the parent of an element, which is the document for one at the top
pub data Parent : Path → Path → Type 0 where
  above : {e : Element} {up : Path} → Parent (e ∷ up) up

-- a proper ancestor: the parent, or one of the parent's own
pub data Ancestor : Path → Path → Type 0 where
  parent : {p q : Path} → Parent p q → Ancestor p q
  higher : {p q r : Path} → Parent p q → Ancestor q r → Ancestor p r

-- ---- kinds of selectors
unfoldable pub is_id_selector : Component → Bool
is_id_selector c = is (component_kind c) hash_kind

-- class selectors, attribute selectors and pseudo-classes
unfoldable pub is_class_selector : Component → Bool
is_class_selector c =
    or (is (component_kind c) class_kind)
    (or (or (is (component_kind c) attribute_kind) (is (component_kind c) attribute_equal_kind)) (is (component_kind c) nth_kind))

unfoldable pub is_type_selector : Component → Bool
is_type_selector c = is (component_kind c) element_kind

-- how many there are of a kind
unfoldable pub count_of : (Component → Bool) → List Component → ℕ
count_of f [] = 0
count_of f (c ∷ cs) = pick (f c) 1 0 + count_of f cs
