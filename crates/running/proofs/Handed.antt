-- What a row hands to its step on an accepted page: its attribute rows are lent, they are the row's attributes, and there is room for them behind the texts
-- of the rows before.
use mathlib.Core.List.{List}
use Prim.Native.Nat.{ℕ, suc, ◌+◌, ◌*◌, ◌≤◌}
use native.Mathlib.Omega.{arith}
use lib.ListN.{length}
use Rattle.page.specs.Accepted.{attributes_before, texts_end, bytes_before}
use Rattle.page.specs.Path.{Attribute}
use Rattle.page.specs.PathOf.{attributes_from}
use Rattle.page.specs.Rows.{NodeRow, node_at, attribute_rows}
use Rattle.page.proofs.AcceptedPages.{Accepted, accepted}
use Rattle.page.proofs.Sums.{bytes-within, attributes-before-within}
use Rattle.page.specs.Lent.{Page}
use Rattle.styles.specs.Room.{values_of}
use Rattle.styles.proofs.Room.{attributes-counted, values-short}
use Rattle.attributes.specs.Merging.{InlineRoom}
use Rattle.runner.proofs.Handed.{all-lent}
use Rattle.running.specs.Ready.{RowReady, texts_most}

-- ---- a row that is next
module _ {code : List ℕ} {g : Page} {rows state rules₀ tokens brackets texts : List ℕ} {i fill : ℕ} (r : RowReady code g rows state rules₀ tokens brackets texts i fill) where
  abbrev pub row : NodeRow
  row = node_at g.nodes i

  -- the page is accepted, as its refusal is none
  pub ok : Accepted g.nodes g.attributes g.text
  ok = accepted g.nodes g.attributes g.text r.ready.page

  -- the attribute rows that the row names lie within those of the page
  pub attributes-inside : row.first_attribute + row.attribute_count ≤ attribute_rows g.attributes
  attributes-inside = all-lent g ok i r.there

  abbrev pub given : List Attribute
  given = attributes_from g.attributes g.text row.attribute_count row.first_attribute

  -- behind the texts of the rows before there is room for its own
  pub texts-grow : texts_most g i + values_of given + 2 * length given ≤ texts_most g (suc i)
  unfolding bytes_before texts_end attributes_before
  texts-grow =
      omega (
        arith,
        values-short g.attributes g.text row.attribute_count row.first_attribute (bytes_before g.nodes g.attributes i + row.name_length),
        attributes-counted g.attributes g.text row.attribute_count row.first_attribute,
      )

  -- all of them are within the least lengths
  texts-most : texts_most g (suc i) ≤ length g.text + 2 * attribute_rows g.attributes
  texts-most =
      omega (
        arith,
        bytes-within g.nodes g.attributes g.text ok (suc i) (omega (arith, r.there)),
        attributes-before-within g.nodes g.attributes g.text ok (suc i) (omega (arith, r.there)),
      )

  -- the stores have room for the attributes of the row, behind the texts of the rows before
  pub attributes-room : InlineRoom given (length code) fill rules₀ tokens brackets texts
  attributes-room =
      let l = r.ready.lengths.least in
      let s : fill + values_of given + 2 * length given ≤ length g.text + 2 * attribute_rows g.attributes = omega (arith, r.filled, texts-grow, texts-most) in
      record {
        for-rules = omega (arith, s, l.for-rules);
        for-tokens = omega (arith, s, l.for-tokens);
        for-brackets = omega (arith, s, l.for-brackets);
        for-texts = omega (arith, s, l.for-texts);
        bits = omega (arith, s, r.ready.lengths.few, ok.few_bytes, ok.few-attributes);
      }
