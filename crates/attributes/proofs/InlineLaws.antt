-- `style`: its styles as they are merged, from the rows that reading its value leaves.
use Prim.Native.Nat.{ℕ, zero, suc, ◌+◌, ◌*◌, ◌/◌, ◌^◌, ◌≤◌, ◌<◌}
use mathlib.Core.Bool.{Bool, true, false}
use mathlib.Core.List.{List, [], ◌∷◌, ◌++◌, map, append_assoc, append-nil}
use mathlib.Core.Path.{◌≡◌, refl, sym, ap, ◌∙◌}
use native.Mathlib.Numerals.{add-one}
use native.Mathlib.Omega.{arith}
use lib.ListN.{length, get_or, take, drop, length-append, drop_of_length-le}
use lib.Seq.{sets, length-sets, drop-cons, take_at, length-take-le}
use Rattle.std.specs.Simd.{first_chunks}
use Rattle.combinators.specs.All.{All}
use Rattle.combinators.specs.Choice.{pick, is}
use Rattle.combinators.specs.Store.{wiped}
use Rattle.combinators.proofs.Rules.{pick_true, pick-false, is-yes, is-no}
use Rattle.combinators.proofs.Wiped.{length-wiped}
use Rattle.syntax.specs.Layout.{declaration_width, content_slot, style_width, style_text, style_texts, style_slot_of, style_text_of, number_from, value_from, numbers_from, numbers_at, row_of_numbers, style_row, style_rows}
use Rattle.syntax.specs.Stream.{texts_many, rows_many}
use Rattle.syntax.specs.Style as style
use Rattle.syntax.specs.Style.{Style, StyleValue, StyleDecl, author_origin}
use Rattle.syntax.specs.declared.styles.Value.{Value}
use Rattle.syntax.specs.declared.styles.StyleNumbers.{StyleNumbers}
use Rattle.syntax.proofs.Back.{row-numbers-back, row-numbers-rest}
use Rattle.syntax.proofs.Streams.{sets-drop}
use Rattle.syntax.proofs.RowSizes.{length-styles}
use Rattle.lexer.specs.TokenRow.{token_width}
use Rattle.declarations.specs.Attribute.{style_attribute}
use Rattle.declarations.specs.Leaving.{Leaves, used_rules, styles_answer, style_left}
use Rattle.declarations.specs.Rules.{declarations_of}
use Rattle.declarations.specs.declared.attributes.StylesRead.{StylesRead}
use Rattle.declarations.proofs.StyleAttribute.{declarations-count}
use Rattle.declarations.proofs.StyleLaws.{styles-few}
use Rattle.cascade.specs.declared.slots.Cascade.{Cascade}
use Rattle.cascade.specs.declared.slots.Cascade.TheVariants.{Crate, Book}
use Rattle.cascade.specs.Record.{Styled, main_record, from_attribute, style_attributes}
use Rattle.cascade.specs.Row.{merge_row_by, Merged}
use Rattle.cascade.specs.Slot.{update_by}
use Rattle.cascade.specs.Specificity.{inline_specificity}
use Rattle.cascade.proofs.Merging.{merge-long}
use Rattle.styles.specs.Said.{attribute_style}
use Rattle.styles.specs.StyleCall.{in_numbers, placed_styles}
use Rattle.styles.specs.Merged.{merged_row, late_declared}
use Rattle.styles.proofs.Merging.{merged-none, merged-more, late-none}
use Rattle.styles.proofs.Room.{style-short}
use Rattle.styles.proofs.StyleRows.{row-numbers}
use Rattle.attributes.specs.Merging.{inline_important, shifted, inline_style, inline_declared, Shiftable, rows_declared, InlineRows, ValueRoom}
use Rattle.attributes.proofs.Fronts.{front-wiped, text-stored}

-- ---- one style, merged with the start of its content moved
module _ (base : ℕ) (x : StyleNumbers) where
  -- a content starts `base` further
  pub shifted-content : x.slot ≡ content_slot → record { number = x.value.number + base; second = x.value.second; start = x.value.start } ≡ shifted base x
  unfolding shifted
  shifted-content e =
      let q : x.value.number + base ≡ base + x.value.number = omega arith in
      pick_true _ _ _ _ (is-yes x.slot content_slot e) (rw q)

  -- a value other than a content's is not shifted
  pub shifted-other : ¬ (x.slot ≡ content_slot) → x.value ≡ shifted base x
  unfolding shifted
  shifted-other d = pick-false _ _ _ _ (is-no x.slot content_slot d) refl

  -- the style as it is merged
  pub inline-made : (c : Cascade) (v : Value) (i : Bool) → v ≡ shifted base x → i ≡ inline_important c x.important
      → record { slot = x.slot; important = i; value = v } ≡ inline_style c base x
  unfolding inline_style
  inline-made c v i p q = rw (p, q)

-- ---- the rows, one behind the other
module _ (c : Cascade) (base : ℕ) (rows : List (List ℕ)) (out₀ : List ℕ) where
  -- before the i-th row: what is left to merge leads to the row that all lead to
  pub record Merging (i : ℕ) (out : List ℕ) : Type 0 where
    pub shiftable : All (λ (row : List ℕ). Shiftable base (numbers_at row)) (drop i rows)
    pub long : length out ≡ length out₀
    pub rest : merged_row c out (rows_declared c base (drop i rows)) ≡ merged_row c out₀ (rows_declared c base rows)

  -- before the first style the row is as it was lent
  pub merging-begin : InlineRows base rows → Merging 0 out₀
  merging-begin r = record { shiftable = r.shiftable; long = refl; rest = refl }

  module _ (i : ℕ) (out : List ℕ) (v : Merging i out) where
    -- behind the last style the row is the one with all of them merged
    pub merging-end : length rows ≤ i → out ≡ merged_row c out₀ (rows_declared c base rows)
    unfolding rows_declared
    merging-end h = sym (ap (λ (l : List (List ℕ)). merged_row c out (rows_declared c base l)) (drop_of_length-le rows {i = i} h) ∙ merged-none c out) ∙ v.rest

    module _ (h : i < length rows) (row : List ℕ) (er : row ≡ get_or rows i []) where
      -- one is left, and others behind it
      one_more : drop i rows ≡ row ∷ drop (i + 1) rows
      one_more = drop-cons rows i [] h ∙ rw (← er, add-one i) refl

      -- all that are left can be counted
      all-shiftable : Shiftable base (numbers_at row) × All (λ (row : List ℕ). Shiftable base (numbers_at row)) (drop (i + 1) rows)
      all-shiftable = rw one_more at v.shiftable

      -- its content can be counted from `base` on
      pub row-shiftable : (x : StyleNumbers) → x ≡ numbers_at row → Shiftable base x
      row-shiftable x e = rw e all-shiftable.0

      -- a turn: one style is merged, and one less is left
      pub merging-next : (x s : StyleNumbers) (out' : List ℕ) → x ≡ numbers_at row → s ≡ inline_style c base x
          → Merged c out out' (record { pseudo = main_record; slot = s.slot; candidate = record { weight = record { important = s.important; origin = author_origin; spec = inline_specificity }; value = s.value } })
          → Merging (i + 1) out'
      unfolding rows_declared inline_declared from_attribute attribute_style in_numbers
      merging-next x s out' ex es m =
          let d = inline_declared c base (numbers_at row) in
          let e : out' ≡ merge_row_by (update_by c) out d = m.numbers ∙ rw (es, ex) in
          let w : merged_row c out (rows_declared c base (row ∷ drop (i + 1) rows)) ≡ merged_row c out₀ (rows_declared c base rows) = rw one_more at v.rest in
          record {
            shiftable = all-shiftable.1;
            long = ap length e ∙ merge-long (update_by c) out d ∙ v.long;
            rest = rw (e, ← merged-more c out d (rows_declared c base (drop (i + 1) rows))) w;
          }

-- ---- style rows as they lie in a store
-- the styles in numbers of the first k of them
unfoldable pub numbers_in : ℕ → List ℕ → List StyleNumbers
numbers_in zero t = []
numbers_in (suc k) t = numbers_at t ∷ numbers_in k (drop style_width t)

-- what the rows declare that they are split into
chunks-declared : (c : Cascade) (base k : ℕ) (t : List ℕ) → rows_declared c base (first_chunks style_width k t) ≡ map (inline_declared c base) (numbers_in k t)
unfolding rows_declared numbers_in
chunks-declared c base zero t = refl
chunks-declared c base (suc k) t = rw (row-numbers t, chunks-declared c base k (drop style_width t))

-- and that their contents can be counted from `base` on
chunks-shiftable : (base k : ℕ) (t : List ℕ) → All (Shiftable base) (numbers_in k t) → All (λ (row : List ℕ). Shiftable base (numbers_at row)) (first_chunks style_width k t)
unfolding numbers_in
chunks-shiftable base zero t a = tt
chunks-shiftable base (suc k) t a = (rw (row-numbers t) a.0, chunks-shiftable base k (drop style_width t) a.1)

-- ---- the styles of an attribute, from their rows
module _ (base : ℕ) where
  -- a content that starts at f in the texts starts at `base + f`
  number-shifted : (f b : ℕ) (s : Style) (i : Bool)
      → shifted base (record { slot = style_slot_of s; important = i; value = record { number = number_from f s; second = length (style_text_of s); start = b } })
      ≡ record { number = number_from (base + f) s; second = length (style_text_of s); start = b }
  unfolding shifted style_slot_of number_from pick is
  number-shifted f b (style.colour c) i = refl
  number-shifted f b (style.background c) i = refl
  number-shifted f b style.display_none i = refl
  number-shifted f b (style.white_space w) i = refl
  number-shifted f b (style.content x) i = refl
  number-shifted f b (style.visibility z) i = refl

  value_shifted : (f : ℕ) (v : StyleValue) (i : Bool)
      → shifted base (record { slot = style_slot_of v.style; important = i; value = value_from f v }) ≡ value_from (base + f) v
  unfolding value_from
  value_shifted f v i = number-shifted f v.start v.style i

  -- the place of a content, counted from the base, fits 32 bits
  start_fits : (f : ℕ) (s : Style) → base + f < 2 ^ 32 → style_slot_of s ≡ content_slot → base + number_from f s < 2 ^ 32
  unfolding style_slot_of number_from
  start_fits f (style.colour c) h e = absurd (omega arith)
  start_fits f (style.background c) h e = absurd (omega arith)
  start_fits f style.display_none h e = absurd (omega arith)
  start_fits f (style.white_space w) h e = absurd (omega arith)
  start_fits f (style.content x) h e = h
  start_fits f (style.visibility z) h e = absurd (omega arith)

  -- in all rows of a `style` attribute's styles a content's start can be moved by the base
  rows-shiftable : (ds : List StyleDecl) (f : ℕ) (t : List ℕ) → base + f + length (style_texts ds) < 2 ^ 32 → All (Shiftable base) (numbers_in (length ds) (style_rows f ds ++ t))
  unfolding numbers_in style_rows style_texts rows_many texts_many style_row numbers_from value_from
  rows-shiftable [] f t h = tt
  rows-shiftable (d ∷ ds) f t h =
      let g = f + length (style_text d) in
      let l = length-append (style_text d) (texts_many style_text ds) in
      let b : base + f < 2 ^ 32 = omega (arith, l) in
      let m : base + g + length (texts_many style_text ds) < 2 ^ 32 = omega (arith, l) in
      rw (
        append_assoc (row_of_numbers (numbers_from f d)) (rows_many style_row style_text g ds) t,
        row-numbers-back (numbers_from f d) (rows_many style_row style_text g ds ++ t),
        row-numbers-rest (numbers_from f d) (rows_many style_row style_text g ds ++ t),
      ) (record { small = omega arith; fits = start_fits f d.value.style b }, rows-shiftable ds g t m)

-- the first style of an attribute, and those behind it
late-more : (c : Cascade) (x : Styled Value) (xs : List (Styled Value))
    → late_declared c (map (attribute_style true) (x ∷ xs)) ≡ from_attribute (inline_important c x.important) inline_specificity (attribute_style true x) ∷ late_declared c (map (attribute_style true) xs)
unfolding late_declared style_attributes inline_important attribute_style pick
late-more Crate x xs = refl
late-more Book x xs = refl

-- the same of a style in numbers
late-placed : (c : Cascade) (f : ℕ) (d : StyleDecl) (xs : List (Styled Value))
    → late_declared c (map (attribute_style true) (in_numbers (numbers_from f d) ∷ xs))
    ≡ from_attribute (inline_important c d.important) inline_specificity (attribute_style true (in_numbers (numbers_from f d))) ∷ late_declared c (map (attribute_style true) xs)
unfolding in_numbers numbers_from
late-placed c f d xs = late-more c _ xs

module _ (c : Cascade) (base : ℕ) where
  -- what a style declares, its content at its place
  one_placed : (f : ℕ) (d : StyleDecl)
      → inline_declared c base (numbers_from f d) ≡ from_attribute (inline_important c d.important) inline_specificity (attribute_style true (in_numbers (numbers_from (base + f) d)))
  unfolding inline_declared inline_style in_numbers from_attribute attribute_style numbers_from
  one_placed f d = rw (value_shifted base f d.value d.important)

  -- what the rows of styles declare
  pub rows-placed : (ds : List StyleDecl) (f : ℕ) (t : List ℕ)
      → map (inline_declared c base) (numbers_in (length ds) (style_rows f ds ++ t)) ≡ late_declared c (map (attribute_style true) (placed_styles (base + f) ds))
  unfolding numbers_in style_rows rows_many placed_styles style_row
  rows-placed [] f t = sym (late-none c)
  rows-placed (d ∷ ds) f t =
      let g = f + length (style_text d) in
      let k : base + f + length (style_text d) ≡ base + g = omega arith in
      rw (
        append_assoc (row_of_numbers (numbers_from f d)) (rows_many style_row style_text g ds) t,
        row-numbers-back (numbers_from f d) (rows_many style_row style_text g ds ++ t),
        row-numbers-rest (numbers_from f d) (rows_many style_row style_text g ds ++ t),
        k,
        rows-placed ds g t,
        one_placed f d,
        late-placed c (base + f) d (placed_styles (base + g) ds),
      )

-- ---- `parse_style_attribute`
-- no more styles than bytes
styles-count : (s : List ℕ) → length (style_attribute s) ≤ length s
unfolding style_attribute
styles-count s = omega (arith, styles-few (declarations_of s).declarations, declarations-count s)

module _ (base fill : ℕ) (s rules tokens brackets texts : List ℕ) (o : ValueRoom (length s) base fill rules tokens brackets texts) {r : StylesRead} {y x b z : List ℕ}
    (e : record { answer = r; rules = y; tokens = x; brackets = b; store = z } ≡ style_left s rules tokens brackets texts fill) where
  -- the count that is answered is that of the attribute's styles
  count-is : r.count ≡ length (style_attribute s)
  unfolding style_left styles_answer
  count-is = ap (λ (l : Leaves StylesRead). l.answer.count) e

  -- the bytes of their texts
  text-is : r.text ≡ length (style_texts (style_attribute s))
  unfolding style_left styles_answer
  text-is = ap (λ (l : Leaves StylesRead). l.answer.text) e

  -- there was room for their rows
  rows-room : 0 + length (style_rows fill (style_attribute s)) ≤ length (wiped 0 (token_width * (used_rules false s).tokens) tokens)
  rows-room =
      omega (arith, length-styles fill (style_attribute s), styles-count s, length-wiped 0 (token_width * (used_rules false s).tokens) tokens, o.for-tokens)

  -- the rows of the styles
  rows_are : x ≡ style_rows fill (style_attribute s) ++ drop (0 + length (style_rows fill (style_attribute s))) (wiped 0 (token_width * (used_rules false s).tokens) tokens)
  unfolding style_left
  rows_are =
      ap (λ (l : Leaves StylesRead). l.tokens) e
      ∙ sets-drop (wiped 0 (token_width * (used_rules false s).tokens) tokens) 0 (style_rows fill (style_attribute s)) rows-room

  -- they are as many numbers as the styles' rows have
  rows-long : length (style_rows fill (style_attribute s)) ≡ style_width * r.count
  rows-long = length-styles fill (style_attribute s) ∙ ap (λ (n : ℕ). style_width * n) (sym count-is)

  -- which lie in the store
  pub rows-in : style_width * r.count ≤ length x
  rows-in = omega (arith, ap length rows_are, length-append (style_rows fill (style_attribute s)) (drop (0 + length (style_rows fill (style_attribute s))) (wiped 0 (token_width * (used_rules false s).tokens) tokens)), rows-long)

  -- so they can be counted
  pub rows-few : style_width * r.count < 2 ^ 64
  rows-few = omega (arith, count-is, styles-count s, o.bits)

  -- a row for each style
  pub rows-counted : length (take (style_width * r.count) x) / style_width ≡ r.count
  rows-counted = omega (arith, length-take-le (style_width * r.count) x rows-in)

  -- the part of the store that they are
  part-is : take (style_width * r.count) x ≡ style_rows fill (style_attribute s) ++ []
  part-is = ap (take (style_width * r.count)) rows_are ∙ take_at (style_rows fill (style_attribute s)) _ (style_width * r.count) rows-long ∙ sym (append-nil (style_rows fill (style_attribute s)))

  -- split into rows
  module _ {rows : List (List ℕ)} {n : ℕ} (en : n ≡ r.count) (er : rows ≡ first_chunks style_width n (take (style_width * r.count) x)) where
    rows-of : rows ≡ first_chunks style_width (length (style_attribute s)) (style_rows fill (style_attribute s) ++ [])
    rows-of = er ∙ rw (en ∙ count-is, part-is) refl

    -- what is asked of them
    pub style-rows : InlineRows base rows
    style-rows =
        record { shiftable = rw rows-of (chunks-shiftable base (length (style_attribute s)) _ (rows-shiftable base (style_attribute s) fill [] (omega (arith, style-short s, o.bits)))) }

    -- what they declare is what the attribute says
    pub style-merged : (c : Cascade) (out out' : List ℕ) → out' ≡ merged_row c out (rows_declared c base rows)
        → out' ≡ merged_row c out (late_declared c (map (attribute_style true) (placed_styles (base + fill) (style_attribute s))))
    style-merged c out out' p = p ∙ ap (merged_row c out) (ap (rows_declared c base) rows-of ∙ chunks-declared c base (length (style_attribute s)) _ ∙ rows-placed c base (style_attribute s) fill [])

  -- the fill behind the contents fits
  pub fill-fits : fill + r.text < 2 ^ 64
  fill-fits = omega (arith, text-is, style-short s, o.bits)

  -- it is behind the contents
  pub fill-behind : fill + r.text ≡ fill + length (style_texts (style_attribute s))
  fill-behind = ap (λ (n : ℕ). fill + n) text-is

  -- and they lie up to it
  pub contents-lie : take (fill + r.text) z ≡ take fill texts ++ style_texts (style_attribute s)
  unfolding style_left
  contents-lie =
      let u = (used_rules false s).bytes in
      let ez : z ≡ sets (wiped fill u texts) fill (style_texts (style_attribute s)) = ap (λ (l : Leaves StylesRead). l.store) e in
      rw (fill-behind, ez)
      (text-stored (wiped fill u texts) fill (style_texts (style_attribute s)) (omega (arith, length-wiped fill u texts, style-short s, o.for-texts))
      ∙ ap (λ (l : List ℕ). l ++ style_texts (style_attribute s)) (front-wiped texts fill u))

-- reading a `style` attribute leaves the stores as long as they were
pub style-long : (s rules tokens brackets store : List ℕ) (fill : ℕ) {r : StylesRead} {y x b z : List ℕ}
    → record { answer = r; rules = y; tokens = x; brackets = b; store = z } ≡ style_left s rules tokens brackets store fill
    → (length y ≡ length rules) × (length x ≡ length tokens) × (length b ≡ length brackets) × (length z ≡ length store)
unfolding style_left
style-long s rules tokens brackets store fill e =
    let ds = style_attribute s in
    let u = used_rules false s in (
      ap (λ (l : Leaves StylesRead). length l.rules) e ∙ length-wiped 0 (declaration_width * length (declarations_of s).declarations) rules,
      ap (λ (l : Leaves StylesRead). length l.tokens) e ∙ length-sets (wiped 0 (token_width * u.tokens) tokens) 0 (style_rows fill ds) ∙ length-wiped 0 (token_width * u.tokens) tokens,
      ap (λ (l : Leaves StylesRead). length l.brackets) e ∙ length-wiped 0 u.tokens brackets,
      ap (λ (l : Leaves StylesRead). length l.store) e ∙ length-sets (wiped fill u.bytes store) fill (style_texts ds) ∙ length-wiped fill u.bytes store,
    )
