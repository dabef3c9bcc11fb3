-- How long the content texts of attributes can be: as long as their values, and two bytes more for each, where a value ends in a lone `\`.
use mathlib.Core.Path.{◌≡◌, refl, ap, sym, ◌∙◌}
use mathlib.Core.Bool.{false}
use mathlib.Core.List.{List, [], ◌∷◌}
use Prim.Native.Nat.{ℕ, zero, suc, ◌+◌, ◌-◌, ◌*◌, ◌≤◌}
use native.Mathlib.Omega.{arith}
use lib.ListN.{length, length-append}
use Rattle.combinators.proofs.Rules.{pick-holds}
use Rattle.combinators.proofs.Parts.{part-le}
use Rattle.characters.specs.Literal.{text}
use Rattle.syntax.specs.Declaration.{Colour}
use Rattle.syntax.specs.Layout.{style_text_of, style_text, style_texts}
use Rattle.syntax.specs.Style as style
use Rattle.syntax.specs.Style.{Style, StyleDecl}
use Rattle.values.specs.Words.{Found, found, missing, on_found}
use Rattle.syntax.specs.Stream.{texts_many}
use Rattle.declarations.specs.Attribute.{style_attribute, colour_attribute}
use Rattle.declarations.specs.Leaving.{rules_of}
use Rattle.declarations.specs.Rules.{declarations_of}
use Rattle.declarations.proofs.StyleAttribute.{nameless, styles-kept, bounded}
use Rattle.declarations.proofs.StyleLaws.{own-texts}
use Rattle.page.specs.Accepted.{attributes_before, attributes_end, texts_end, bytes_before}
use Rattle.page.specs.Path.{Attribute, Element, Path}
use Rattle.page.specs.PathOf.{attributes_from, element_at, path_of}
use Rattle.page.specs.Rows.{node_at, attribute_at, attribute_value}
use Rattle.matching.specs.Matches.{is_named}
use Rattle.matching.specs.Rows.{Rooted}
use Rattle.matching.specs.Rows.Rooted.{document, below}
use Rattle.matching.proofs.PathLaws.{top-path, some-element-path}
use Rattle.styles.specs.declared.settings.Settings.{Settings}
use Rattle.styles.specs.Said.{colour_styles, attribute_styles, counted_attributes}
use Rattle.styles.specs.Room.{values_of, values_along, attributes_along}
use Rattle.styles.specs.StyleCall.{attribute_contents, attributes_contents, inline_contents, path_contents}

-- those of a `style` attribute
pub style-short : (v : List ℕ) → length (style_texts (style_attribute v)) ≤ length v + 2
unfolding style_attribute rules_of
style-short v =
    let ds = (declarations_of v).declarations in
    let b = bounded false v in
    let e = ap style_texts (sym (styles-kept false ds)) ∙ own-texts (rules_of false 0 (declarations_of v)) (nameless 0 ds) in
    rw e (omega (arith, b.text, b.within))

-- a colour has no text
colour-short : (slot : Colour → Style) (c : Found Colour) → ((x : Colour) → style_text_of (slot x) ≡ []) → length (style_texts (colour_styles slot c)) ≤ 0
unfolding colour_styles on_found style_texts texts_many style_text
colour-short slot (found x) e = rw (e x) (omega arith)
colour-short slot missing e = omega arith

abbrev short : Attribute → List StyleDecl → Type 0
short a ds = length (style_texts ds) ≤ length a.value + 2

-- no styles have no texts
no-styles : (a : Attribute) → short a []
unfolding style_texts texts_many
no-styles a = omega arith

-- the contents of one attribute are at most two bytes longer than its value
pub attribute-short : (a : Attribute) → length (attribute_contents a) ≤ length a.value + 2
unfolding attribute_contents attribute_styles
attribute-short a =
    pick-holds (short a) (is_named (text "style") a) _ _ (λ _. style-short a.value)
    (λ _. pick-holds (short a) (is_named (text "color") a) _ _ (λ _. omega (arith, colour-short style.colour (colour_attribute a.value) (λ x. unfold style_text_of in refl)))
    (λ _. pick-holds (short a) (is_named (text "bgcolor") a) _ _ (λ _. omega (arith, colour-short style.background (colour_attribute a.value) (λ x. unfold style_text_of in refl)))
    (λ _. no-styles a)))

-- the contents of many attributes are at most two bytes for each longer than their values
pub attributes-short : (xs : List Attribute) → length (attributes_contents xs) ≤ values_of xs + 2 * length xs
unfolding attributes_contents texts_many values_of
attributes-short [] = omega arith
attributes-short (a ∷ xs) =
    let v = texts_many (λ (a : Attribute). a.value) xs in
    omega (
      arith,
      length-append (attribute_contents a) (attributes_contents xs),
      length-append a.value v,
      attribute-short a,
      attributes-short xs,
    )

-- no attributes have no contents, however many the element has
no-attributes : (e : Element) → length (attributes_contents []) ≤ values_of e.attributes + 2 * length e.attributes
unfolding attributes_contents texts_many
no-attributes e = omega arith

-- the contents of an element's attributes are at most two bytes for each longer than their values
pub inline-short : (settings : Settings) (e : Element) → length (inline_contents settings e) ≤ values_of e.attributes + 2 * length e.attributes
unfolding inline_contents counted_attributes
inline-short settings e =
    pick-holds (λ (x : List Attribute). length (attributes_contents x) ≤ values_of e.attributes + 2 * length e.attributes) settings.document_styles _ _
    (λ _. attributes-short e.attributes) (λ _. no-attributes e)

-- the contents along a path are at most two bytes for each attribute longer than the values
pub path-short : (settings : Settings) (p : Path) → length (path_contents settings p) ≤ values_along p + 2 * attributes_along p
unfolding path_contents values_along attributes_along
path-short settings [] = omega arith
path-short settings (e ∷ up) = omega (arith, length-append (path_contents settings up) (inline_contents settings e), path-short settings up, inline-short settings e)

-- ---- the attributes of an element of a page
module _ (attributes text : List ℕ) where
  -- as many attributes as were asked for
  pub attributes-counted : (k at : ℕ) → length (attributes_from attributes text k at) ≡ k
  unfolding attributes_from
  attributes-counted zero at = refl
  attributes-counted (suc k) at = ap suc (attributes-counted k (at + 1))

  -- the values of attribute rows are no longer than the texts of these rows
  pub values-short : (k at start : ℕ) → start + values_of (attributes_from attributes text k at) ≤ attributes_end attributes k at start
  unfolding values_of attributes_from attributes_end texts_many attribute_value
  values-short zero at start = omega arith
  values-short (suc k) at start =
      let row = attribute_at attributes at in
      let v : List ℕ = attribute_value attributes text at in
      let others : List ℕ = texts_many (λ (a : Attribute). a.value) (attributes_from attributes text k (at + 1)) in
      omega (
        arith,
        length-append v others,
        part-le text row.value_start row.value_length,
        values-short k (at + 1) (start + row.name_length + row.value_length),
      )

-- ---- the path of a row: its values and its attributes are no more than those of the rows up to it
module _ (nodes attributes text : List ℕ) where
  -- the values of an element fit between the bytes before its row and those before the next
  own-values : (row : ℕ) → bytes_before nodes attributes row + values_of (element_at nodes attributes text row).attributes ≤ bytes_before nodes attributes (suc row)
  unfolding bytes_before texts_end element_at
  own-values row =
      let n = node_at nodes row in
      omega (arith, values-short attributes text n.attribute_count n.first_attribute (bytes_before nodes attributes row + n.name_length))

  -- an element has no more attributes than its row adds to those before it
  own-attributes : (row : ℕ) → attributes_before nodes row + length (element_at nodes attributes text row).attributes ≤ attributes_before nodes (suc row)
  unfolding attributes_before element_at
  own-attributes row = let n = node_at nodes row in omega (arith, attributes-counted attributes text n.attribute_count n.first_attribute)

  -- the bytes before a row are no fewer than those before an earlier one
  bytes-grow : (m k : ℕ) → bytes_before nodes attributes m ≤ bytes_before nodes attributes (k + m)
  bytes-grow m zero = let e : 0 + m ≡ m = omega arith in rw e (omega arith)
  bytes-grow m (suc k) = let e : suc k + m ≡ suc (k + m) = omega arith in rw e (omega (arith, own-values (k + m), bytes-grow m k))

  -- the attributes before a row are no fewer than those before an earlier one
  attributes-grow : (m k : ℕ) → attributes_before nodes m ≤ attributes_before nodes (k + m)
  attributes-grow m zero = let e : 0 + m ≡ m = omega arith in rw e (omega arith)
  attributes-grow m (suc k) = let e : suc k + m ≡ suc (k + m) = omega arith in rw e (omega (arith, own-attributes (k + m), attributes-grow m k))

  -- the values along the path of a row are no longer than the bytes of the rows up to it
  pub path-values : (row : ℕ) → Rooted nodes row → values_along (path_of nodes attributes text row) ≤ bytes_before nodes attributes (suc row)
  unfolding values_along
  path-values row (document d) = rw (top-path nodes attributes text 0 (document d) refl) (omega arith)
  path-values row (below k l n r) =
      let p = (node_at nodes row).parent in
      let e : row - suc p + suc p ≡ row = omega arith in
      rw (some-element-path nodes attributes text row (below k l n r) k)
      (omega (arith, own-values row, path-values p r, rw e at (bytes-grow (suc p) (row - suc p))))

  -- the attributes along the path of a row are no more than those of the rows up to it
  pub path-attributes : (row : ℕ) → Rooted nodes row → attributes_along (path_of nodes attributes text row) ≤ attributes_before nodes (suc row)
  unfolding attributes_along
  path-attributes row (document d) = rw (top-path nodes attributes text 0 (document d) refl) (omega arith)
  path-attributes row (below k l n r) =
      let p = (node_at nodes row).parent in
      let e : row - suc p + suc p ≡ row = omega arith in
      rw (some-element-path nodes attributes text row (below k l n r) k)
      (omega (arith, own-attributes row, path-attributes p r, rw e at (attributes-grow (suc p) (row - suc p))))
