-- Components of a compiled sheet: a kind, which is that of a component row, then what the component has.
use Rattle.std.specs.Prelude.{ℕ, ◌≡◌, refl, Bool, List, [], ◌∷◌, ◌++◌, map, pos, negsuc}
use Rattle.combinators.specs.Choice.{pick, or, and, is, within}
use Rattle.syntax.specs.Selector.{Component, star, class, element, hash, child, descendant, nth, attribute, attribute_equal}
use Rattle.syntax.specs.Signed.{signed_number, signed_of}
use Rattle.syntax.specs.RuleLayout.{star_kind, class_kind, element_kind, hash_kind, child_kind, descendant_kind, nth_kind, attribute_kind, attribute_equal_kind, component_kind}
use Rattle.compiled.specs.Decoded.{Decoded, read, fault, and_then, mapped}
use Rattle.compiled.specs.Number.{group_bytes, number_bytes, limited, groups_at, number_at, ranged_at}
use Rattle.compiled.specs.Text.{text_bytes, span_at, text_in}
use Rattle.compiled.specs.declared.components.Written.{Written}
use Rattle.compiled.specs.declared.components.Written.TheVariants.{Mark, Name, Numbers, Names}

-- ---- written

-- what stands behind the kind
unfoldable pub component_body : Component → List ℕ
component_body (class x) = text_bytes x
component_body (element x) = text_bytes x
component_body (hash x) = text_bytes x
component_body (nth a b) = number_bytes (signed_number a) ++ number_bytes (signed_number b)
component_body (attribute x) = text_bytes x
component_body (attribute_equal x y) = text_bytes x ++ text_bytes y
component_body _ = []

-- "Component: 0 star, 1 class, 2 element, 3 hash (one text each), 4 child, 5 descendant, 6 nth with a and b (v as 2v, negative as -2v-1), 7 attribute
-- (text), 8 attribute equal (two texts)."
unfoldable pub component_bytes : Component → List ℕ
component_bytes c = number_bytes (component_kind c) ++ component_body c

-- ---- read

unfoldable pub is_mark : ℕ → Bool
is_mark kind = or (is kind star_kind) (or (is kind child_kind) (is kind descendant_kind))

unfoldable pub is_name : ℕ → Bool
is_name kind = or (is kind class_kind) (or (is kind element_kind) (or (is kind hash_kind) (is kind attribute_kind)))

-- at n, behind the kind: one text, two numbers, two texts
unfoldable pub name_at : List ℕ → ℕ → ℕ → Decoded Written
name_at t kind n = mapped (λ x. Name kind x) (span_at t n)

unfoldable pub numbers_at : List ℕ → ℕ → Decoded Written
numbers_at t n = and_then (number_at t n) (λ m a. mapped (λ b. Numbers a b) (number_at t m))

unfoldable pub names_at : List ℕ → ℕ → Decoded Written
names_at t n = and_then (span_at t n) (λ m x. mapped (λ y. Names x y) (span_at t m))

unfoldable pub body_at : List ℕ → ℕ → ℕ → Decoded Written
body_at t kind n =
    pick (is_mark kind) (read n (Mark kind))
    (pick (is kind nth_kind) (numbers_at t n)
    (pick (is kind attribute_equal_kind) (names_at t n)
    (name_at t kind n)))

unfoldable pub written_at : List ℕ → ℕ → Decoded Written
written_at t i = and_then (ranged_at t i star_kind attribute_equal_kind) (λ n kind. body_at t kind n)

-- the component that they say
unfoldable pub mark_of : ℕ → Component
mark_of kind = pick (is kind star_kind) star (pick (is kind child_kind) child descendant)

unfoldable pub named_of : ℕ → List ℕ → Component
named_of kind x = pick (is kind class_kind) (class x) (pick (is kind element_kind) (element x) (pick (is kind hash_kind) (hash x) (attribute x)))

unfoldable pub component_in : List ℕ → Written → Component
component_in t (Mark kind) = mark_of kind
component_in t (Name kind x) = named_of kind (text_in t x)
component_in t (Numbers a b) = nth (signed_of a) (signed_of b)
component_in t (Names x y) = attribute_equal (text_in t x) (text_in t y)

unfoldable pub component_at : List ℕ → ℕ → Decoded Component
component_at t i = mapped (component_in t) (written_at t i)

-- ---- cases: the element p, and -n+3
pub case-element : component_bytes (element (0x70 ∷ [])) ≡ 0x02 ∷ 0x01 ∷ 0x70 ∷ []
unfolding component_bytes component_kind component_body text_bytes number_bytes group_bytes pick
case-element = refl

pub case-nth : component_bytes (nth (negsuc 0) (pos 3)) ≡ 0x06 ∷ 0x01 ∷ 0x06 ∷ []
unfolding component_bytes component_kind component_body signed_number number_bytes group_bytes pick
case-nth = refl

pub case-read : component_at (0x06 ∷ 0x01 ∷ 0x06 ∷ []) 0 ≡ read 3 (nth (negsuc 0) (pos 3))
unfolding component_at component_in written_at body_at numbers_at is_mark signed_of ranged_at number_at groups_at limited and_then mapped pick or and is within
case-read = refl

-- a kind past the last
pub case-kind : component_at (0xff ∷ 0x09 ∷ []) 1 ≡ fault 1
unfolding component_at component_in written_at body_at ranged_at number_at groups_at limited and_then mapped pick and within
case-kind = refl

-- 3, -3 and the least number of 32 bits
pub case-signed : map signed_number (pos 3 ∷ negsuc 2 ∷ negsuc 2147483647 ∷ []) ≡ 6 ∷ 5 ∷ 4294967295 ∷ []
unfolding signed_number
case-signed = refl
