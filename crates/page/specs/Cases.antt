-- Computed cases: pages accepted and refused, and a path.
use Rattle.std.specs.Prelude.{ℕ, zero, suc, ◌+◌, List, [], ◌∷◌, ◌++◌, ◌≡◌, refl}
use Rattle.combinators.specs.Choice.{pick, or, and, is, within}
use Rattle.combinators.specs.Refusal.{no_refusal, refused, refused_at, too_large, bad_row, bad_text}
use Rattle.combinators.specs.Repeat.{many, took}
use Rattle.combinators.specs.Part.{part}
use Rattle.combinators.specs.All.{member}
use Rattle.characters.specs.Utf8.{valid, scalar_taken, taken_of, scalar_of, scalar_by, scalar_tail, lead_of, is_continuation, two}
use Rattle.page.specs.Rows.{element_kind, other_kind, node_number, attribute_number, name_of, attribute_name, attribute_value}
use Rattle.page.specs.Ancestors.{ancestors_from, ancestors_of, depth_of, is_element_child, element_children, place_of}
use Rattle.page.specs.Accepted.{within_limits, attributes_before, attributes_end, texts_end, bytes_before, ends_in_zeros, is_document, is_parent, parent_right, attributes_follow, element_follows, kind_right, row_right, text_right, attribute_text_right, attribute_texts_right, texts_right, first_fault, first_bad_row, first_bad_text, refused_row, page_refusal}
use Rattle.page.specs.PathOf.{attributes_from, element_at, elements_of, path_of}

document : List ℕ
document = 0 ∷ 0 ∷ 0 ∷ 0 ∷ 0 ∷ 0 ∷ []

-- an element without name and attributes, behind b bytes and a attributes
empty : ℕ → ℕ → ℕ → List ℕ
empty parent b a = element_kind ∷ parent ∷ b ∷ 0 ∷ a ∷ 0 ∷ []

-- content of another kind
abbrev pub other_row : ℕ → List ℕ
other_row parent = other_kind ∷ parent ∷ 0 ∷ 0 ∷ 0 ∷ 0 ∷ []

-- `aé="x"`
text : List ℕ
text = 0x61 ∷ 0xc3 ∷ 0xa9 ∷ 0x78 ∷ []

-- the element `a` in the document
named : List ℕ
named = document ++ element_kind ∷ 0 ∷ 0 ∷ 1 ∷ 0 ∷ 1 ∷ []

-- its attribute `é`
attribute : List ℕ
attribute = 1 ∷ 2 ∷ 3 ∷ 1 ∷ []

-- k elements, each in the one before, the first of them below row `above`
chain : ℕ → ℕ → List ℕ
chain zero above = []
chain (suc k) above = empty above 0 0 ++ chain k (above + 1)

-- accepted: other content and an element without name in `a`, a byte and an attribute row left over.
-- Refused: two and a half rows; no row; a document with a name; a second document; a parent that is other content; a kind-2 row with a number at its
-- end; a parent that is no ancestor of the row before; a first attribute, an attribute's name and a value that do not follow on; attributes
-- that are not lent.
-- Refused for its texts: a name cut inside a character, a value beyond the text; a wrong start in a later row is told before either.
-- Depth 64 is accepted, also of other content; depth 65 is not.
answers : (page_refusal (named ++ other_row 1 ++ empty 1 4 1) (attribute ++ attribute) (text ++ 0x79 ∷ []) ≡ no_refusal)
    × (page_refusal (named ++ 0 ∷ 0 ∷ 0 ∷ []) attribute text ≡ refused too_large) × (page_refusal [] [] [] ≡ refused_at bad_row 0)
    × (page_refusal (0 ∷ 0 ∷ 0 ∷ 1 ∷ 0 ∷ 0 ∷ []) [] text ≡ refused_at bad_row 0) × (page_refusal (document ++ document) [] [] ≡ refused_at bad_row 1)
    × (page_refusal (document ++ other_row 0 ++ empty 1 0 0) [] [] ≡ refused_at bad_row 2)
    × (page_refusal (document ++ other_kind ∷ 0 ∷ 0 ∷ 0 ∷ 1 ∷ 0 ∷ []) attribute [] ≡ refused_at bad_row 1)
    × (page_refusal (document ++ empty 0 0 0 ++ empty 1 0 0 ++ empty 0 0 0 ++ empty 2 0 0) [] [] ≡ refused_at bad_row 4)
    × (page_refusal (document ++ empty 0 0 1) attribute [] ≡ refused_at bad_row 1) × (page_refusal named (2 ∷ 2 ∷ 3 ∷ 1 ∷ []) text ≡ refused_at bad_row 1)
    × (page_refusal named (1 ∷ 2 ∷ 2 ∷ 1 ∷ []) text ≡ refused_at bad_row 1) × (page_refusal named [] text ≡ refused_at bad_row 1)
    × (page_refusal named (1 ∷ 1 ∷ 2 ∷ 2 ∷ []) text ≡ refused_at bad_text 1) × (page_refusal named (1 ∷ 2 ∷ 3 ∷ 2 ∷ []) text ≡ refused_at bad_text 1)
    × (page_refusal (named ++ empty 1 4 1) (1 ∷ 2 ∷ 3 ∷ 2 ∷ []) text ≡ refused_at bad_row 2)
    × (page_refusal (document ++ chain 64 0) [] [] ≡ no_refusal) × (page_refusal (document ++ chain 65 0) [] [] ≡ refused_at bad_row 65)
    × (page_refusal (document ++ chain 63 0 ++ other_row 63) [] [] ≡ no_refusal) × (page_refusal (document ++ chain 64 0 ++ other_row 64) [] [] ≡ refused_at bad_row 65)
unfolding page_refusal refused_row within_limits first_bad_row first_bad_text first_fault row_right is_document ends_in_zeros parent_right is_parent kind_right element_follows attributes_follow attributes_before bytes_before attributes_end texts_end texts_right text_right attribute_text_right attribute_texts_right ancestors_of ancestors_from depth_of member node_number attribute_number part valid many took scalar_taken taken_of scalar_of scalar_by scalar_tail lead_of is_continuation within two pick or and is document empty text named attribute chain
answers = (refl, refl, refl, refl, refl, refl, refl, refl, refl, refl, refl, refl, refl, refl, refl, refl, refl, refl, refl)

-- the path of the last row: the second element child of `a`
path : path_of (named ++ empty 1 4 1 ++ other_row 2 ++ empty 1 4 1) attribute text 4
    ≡ record { name = []; attributes = []; place = 2 }
    ∷ record { name = 0x61 ∷ []; attributes = record { name = 0xc3 ∷ 0xa9 ∷ []; value = 0x78 ∷ [] } ∷ []; place = 1 } ∷ []
unfolding path_of elements_of element_at attributes_from name_of attribute_name attribute_value place_of element_children is_element_child ancestors_of ancestors_from node_number attribute_number part pick and is document empty text named attribute
path = refl
