-- Which pages are accepted: the rules of document 01, "The page", a Bool for each sentence, and the refusal that they give.
use Rattle.std.specs.Prelude.{ℕ, zero, suc, ◌+◌, ◌%◌, Bool, true, List, leb, length, Option, Some, None, Result, Ok, Err}
use Rattle.combinators.specs.Choice.{pick, or, and, is}
use Rattle.combinators.specs.Refusal.{no_refusal, refused, refused_at, too_large, bad_row, bad_text}
use Rattle.combinators.specs.declared.refusals.Refusal.{Refusal}
use Rattle.combinators.specs.Part.{part}
use Rattle.combinators.specs.All.{member}
use Rattle.characters.specs.Utf8.{valid}
use Rattle.page.specs.Rows.{node_width, node_count, NodeRow, node_at, document_kind, element_kind, other_kind, attribute_width, attribute_rows, attribute_at}
use Rattle.page.specs.Ancestors.{line_of, depth_of}
use Rattle.page.specs.declared.check.PageError.{PageError}
use Rattle.page.specs.declared.check.PageError.TheVariants.{TooLarge, BadRow, BadText}

-- ---- refusal 5: "over 4,096 nodes, 16,384 attributes or 65,536 name bytes lent, or a number list that is no whole count of rows"
abbrev pub node_limit : ℕ
node_limit = 4096

abbrev pub attribute_limit : ℕ
attribute_limit = 16384

abbrev pub text_limit : ℕ
text_limit = 65536

unfoldable pub within_limits : List ℕ → List ℕ → List ℕ → Bool
within_limits nodes attributes text =
    and (and (leb (node_count nodes) node_limit) (and (leb (attribute_rows attributes) attribute_limit) (leb (length text) text_limit)))
    (and (is (length nodes % node_width) 0) (is (length attributes % attribute_width) 0))

-- ---- totals over the rows before a row, and nothing else: "Bytes and attribute rows left over at the end are not read."
-- the attribute rows that they name
unfoldable pub attributes_before : List ℕ → ℕ → ℕ
attributes_before nodes zero = 0
attributes_before nodes (suc row) = attributes_before nodes row + (node_at nodes row).attribute_count

-- where the texts of k attribute rows end, the first of them row `at`, if they begin at byte `start`: each name before its value
unfoldable pub attributes_end : List ℕ → ℕ → ℕ → ℕ → ℕ
attributes_end attributes zero at start = start
attributes_end attributes (suc k) at start =
    attributes_end attributes k (at + 1) (start + (attribute_at attributes at).name_length + (attribute_at attributes at).value_length)

-- where the texts of a node end, if they begin at byte `start`: its name before its attributes
unfoldable pub texts_end : List ℕ → NodeRow → ℕ → ℕ
texts_end attributes n start = attributes_end attributes n.attribute_count n.first_attribute (start + n.name_length)

-- where the texts of the rows before a row end
unfoldable pub bytes_before : List ℕ → List ℕ → ℕ → ℕ
bytes_before nodes attributes zero = 0
bytes_before nodes attributes (suc row) = texts_end attributes (node_at nodes row) (bytes_before nodes attributes row)

-- ---- refusal 6: the rules of a row
-- the four numbers at the end of a row are zeros
unfoldable pub ends_in_zeros : NodeRow → Bool
ends_in_zeros n = and (and (is n.name_start 0) (is n.name_length 0)) (and (is n.first_attribute 0) (is n.attribute_count 0))

-- "Row 0 is all zeros and alone has kind 0"
unfoldable pub is_document : NodeRow → Bool
is_document n = and (and (is n.kind document_kind) (is n.parent 0)) (ends_in_zeros n)

-- "A parent is row 0 or an element, and is the row before or an ancestor of it"
unfoldable pub is_parent : List ℕ → ℕ → Bool
is_parent nodes p = or (is p 0) (is (node_at nodes p).kind element_kind)

-- the row before may be other content: then it is one of its ancestors
unfoldable pub parent_right : List ℕ → ℕ → ℕ → Bool
parent_right nodes before p = and (is_parent nodes p) (member p (line_of nodes before))

-- "depth, which is 0 at row 0, is at most 64": "depth 64 accepted, 65 refused 6"
abbrev pub depth_limit : ℕ
depth_limit = 64

-- "each attribute's name before its value": the texts of k attribute rows from `at` on lie end to end from byte `start`
unfoldable pub attributes_follow : List ℕ → ℕ → ℕ → ℕ → Bool
attributes_follow attributes zero at start = true
attributes_follow attributes (suc k) at start =
    let rest = attributes_follow attributes k (at + 1) (start + (attribute_at attributes at).name_length + (attribute_at attributes at).value_length) in
    and (is (attribute_at attributes at).name_start start)
    (and (is (attribute_at attributes at).value_start (start + (attribute_at attributes at).name_length)) rest)

-- "Names and values lie end to end from byte 0 of one byte text, each element's name before its attributes ..; first attributes likewise follow on from 0
-- and end within the attribute rows lent": an element whose texts begin at byte `start`, and its attributes at row `first`, also
-- where a length or their count is 0
unfoldable pub element_follows : List ℕ → NodeRow → ℕ → ℕ → Bool
element_follows attributes n first start =
    and (and (is n.name_start start) (is n.first_attribute first))
    (and (leb (first + n.attribute_count) (attribute_rows attributes)) (attributes_follow attributes n.attribute_count first (start + n.name_length)))

-- "alone has kind 0", "A kind-2 row has four zeros at its end": what is asked of a later row by its kind
unfoldable pub kind_right : List ℕ → NodeRow → ℕ → ℕ → Bool
kind_right attributes n first start =
    pick (is n.kind other_kind) (ends_in_zeros n) (and (is n.kind element_kind) (element_follows attributes n first start))

-- a row keeps the rules
unfoldable pub row_right : List ℕ → List ℕ → ℕ → Bool
row_right nodes attributes zero = is_document (node_at nodes 0)
row_right nodes attributes (suc before) =
    and (parent_right nodes before (node_at nodes (suc before)).parent)
    (and (leb (depth_of nodes (suc before)) depth_limit)
    (kind_right attributes (node_at nodes (suc before)) (attributes_before nodes (suc before)) (bytes_before nodes attributes (suc before))))

-- ---- refusal 7: "a name or value outside the text, or not UTF-8"
unfoldable pub text_right : List ℕ → ℕ → ℕ → Bool
text_right text start n = and (leb (start + n) (length text)) (valid (part text start n))

-- the name and the value of an attribute
unfoldable pub attribute_text_right : List ℕ → List ℕ → ℕ → Bool
attribute_text_right attributes text at =
    and (text_right text (attribute_at attributes at).name_start (attribute_at attributes at).name_length)
    (text_right text (attribute_at attributes at).value_start (attribute_at attributes at).value_length)

-- those of k attribute rows from `at` on
unfoldable pub attribute_texts_right : List ℕ → List ℕ → ℕ → ℕ → Bool
attribute_texts_right attributes text zero at = true
attribute_texts_right attributes text (suc k) at =
    let rest = attribute_texts_right attributes text k (at + 1) in
    and (attribute_text_right attributes text at) rest

-- all texts of a row
unfoldable pub texts_right : List ℕ → List ℕ → List ℕ → ℕ → Bool
texts_right nodes attributes text row =
    and (text_right text (node_at nodes row).name_start (node_at nodes row).name_length)
    (attribute_texts_right attributes text (node_at nodes row).attribute_count (node_at nodes row).first_attribute)

-- ---- the refusal
-- the first of k rows, from `row` on, that fails a test
unfoldable pub first_fault : (ℕ → Bool) → ℕ → ℕ → Option ℕ
first_fault right zero row = None
first_fault right (suc k) row = let rest = first_fault right k (row + 1) in pick (right row) rest (Some row)

-- the first row that is against the rules
unfoldable pub first_bad_row : List ℕ → List ℕ → Option ℕ
first_bad_row nodes attributes = first_fault (row_right nodes attributes) (node_count nodes) 0

-- the first row with a text that cannot be read
unfoldable pub first_bad_text : List ℕ → List ℕ → List ℕ → Option ℕ
first_bad_text nodes attributes text = first_fault (texts_right nodes attributes text) (node_count nodes) 0

-- a refusal with a row for its place, or what else there is where no row is at fault
unfoldable pub refused_row : ℕ → Option ℕ → Refusal → Refusal
refused_row number (Some row) others = refused_at number row
refused_row number None others = others

-- the lowest number that applies, with its place: of a page within the limits any 6 comes before any 7, and to have no row at all is against the rules
unfoldable pub page_refusal : List ℕ → List ℕ → List ℕ → Refusal
page_refusal nodes attributes text =
    let texts = refused_row bad_text (first_bad_text nodes attributes text) no_refusal in
    let rows = refused_row bad_row (first_bad_row nodes attributes) texts in
    pick (within_limits nodes attributes text) (pick (is (node_count nodes) 0) (refused_at bad_row 0) rows) (refused too_large)

-- what each error of `check_page` stands for
unfoldable pub error_refusal : PageError → Refusal
error_refusal TooLarge = refused too_large
error_refusal (BadRow row) = refused_at bad_row row
error_refusal (BadText row) = refused_at bad_text row

-- what each answer stands for
unfoldable pub refusal_of : Result Unit PageError → Refusal
refusal_of (Ok accepted) = no_refusal
refusal_of (Err error) = error_refusal error
