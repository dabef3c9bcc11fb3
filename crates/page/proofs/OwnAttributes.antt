-- The attribute rows of one element, cut out of all of them: its attributes are the same.
use mathlib.Core.Path.{◌≡◌, refl, ap, ap₂, ◌∙◌}
use mathlib.Core.List.{List, ◌∷◌}
use Prim.Native.Nat.{ℕ, zero, suc, ◌+◌, ◌*◌, ◌≤◌, ◌<◌}
use native.Mathlib.Omega.{arith}
use lib.ListN.{drop, get_or}
use lib.Seq.{get_or-take, get_or-drop}
use Rattle.combinators.specs.Part.{part}
use Rattle.page.specs.Path.{Attribute}
use Rattle.page.specs.PathOf.{attributes_from}
use Rattle.page.specs.Rows.{attribute_width, attribute_number, attribute_name, attribute_value}

module _ (attributes text : List ℕ) (first count : ℕ) where
  -- the rows of the element, or as many of them as are lent
  abbrev pub own : List ℕ
  own = part attributes (first * attribute_width) (count * attribute_width)

  -- a number in them is one of all rows
  pub own-number : (i column : ℕ) → i < count → column < attribute_width → attribute_number own i column ≡ attribute_number attributes (first + i) column
  unfolding attribute_number part
  own-number i column l h =
      let e : first * attribute_width + (i * attribute_width + column) ≡ (first + i) * attribute_width + column = omega arith in
      get_or-take (count * attribute_width) (drop (first * attribute_width) attributes) (i * attribute_width + column) 0 (omega arith)
      ∙ get_or-drop (first * attribute_width) attributes (i * attribute_width + column) 0
      ∙ ap (λ (n : ℕ). get_or attributes n 0) e

  -- so attributes in them are attributes in all rows
  pub own-attributes : (k i : ℕ) → i + k ≤ count → attributes_from own text k i ≡ attributes_from attributes text k (first + i)
  unfolding attributes_from attribute_name attribute_value
  own-attributes zero i h = refl
  own-attributes (suc k) i h =
      let l : i < count = omega arith in
      let z : first + (i + 1) ≡ first + i + 1 = omega arith in
      rw (own-number i 0 l (omega arith), own-number i 1 l (omega arith), own-number i 2 l (omega arith), own-number i 3 l (omega arith), ← z)
      (ap (λ (xs : List Attribute). record { name = attribute_name attributes text (first + i); value = attribute_value attributes text (first + i) } ∷ xs) (own-attributes k (i + 1) (omega arith)))

  -- all of them are the element's attributes
  pub own-all : (at n : ℕ) → first ≡ at → count ≡ n → (rows : List ℕ) → rows ≡ own → attributes_from rows text count 0 ≡ attributes_from attributes text n at
  own-all at n ea en rows er =
      let z : first + 0 ≡ at = omega arith in
      rw er (own-attributes count 0 (omega arith)) ∙ ap₂ (attributes_from attributes text) en z
