-- The view of what was written is what was meant, for declarations and for styles. A colour's parts are bytes.
use mathlib.Core.Path.{◌≡◌, refl, ap, ◌∙◌}
use mathlib.Core.Bool.{Bool, true, false}
use mathlib.Core.List.{List, ◌++◌, map-id}
use Prim.Native.Nat.{ℕ, ◌+◌, ◌*◌, ◌/◌, ◌%◌, ◌≤◌, ◌<◌}
use native.Mathlib.Omega.{arith}
use lib.ListN.{length, drop}
use lib.Seq.{sets}
use mir.Val.{bool_byte}
use Rattle.combinators.specs.Choice.{pick, is}
use Rattle.combinators.specs.All.{All}
use Rattle.syntax.specs.Declaration.{Colour, Overflow, visible, hidden, scroll, auto, WhiteSpace, normal, pre, pre_wrap, Decl, color, background_color, height, max_height, overflow, overflow_y, display, white_space, content, visibility, unknown, Declaration}
use Rattle.syntax.specs.Layout.{flag, flag_of, overflow_number, overflow_of, white_space_number, white_space_of, colour_number, colour_of, decl_text, declaration_text, decl_row, declaration_row, decl_of, read_declaration, declaration_rows, declaration_texts, declarations_at, style_width, style_text_of, style_text, style_slot_of, number_from, value_from, numbers_from, value_numbers, row_of_numbers, style_row, numbers_at, style_of, value_in, style_in, read_style, style_rows, style_texts, styles_at}
use Rattle.syntax.specs.declared.styles.StyleNumbers.{StyleNumbers}
use Rattle.syntax.specs.Stream.{Read, read_many, texts_many}
use Rattle.syntax.specs.Style as style
use Rattle.syntax.specs.Style.{Style, StyleValue, StyleDecl}
use Rattle.syntax.proofs.Streams.{Held, held-part, many-back, sets-drop, sets-held}

-- ---- flags and words
-- a flag is read back from its number
pub flag-back : (b : Bool) → flag_of (flag b) ≡ b
unfolding flag flag_of is
flag-back true = refl
flag-back false = refl

-- the library's number of a flag is that of a row
pub flag-byte : (b : Bool) → bool_byte b ≡ flag b
unfolding flag
flag-byte true = refl
flag-byte false = refl

-- an overflow is read back from its number
overflow-back : (o : Overflow) → overflow_of (overflow_number o) ≡ o
unfolding overflow_of overflow_number pick is
overflow-back visible = refl
overflow-back hidden = refl
overflow-back scroll = refl
overflow-back auto = refl

-- a word of `white-space` is read back from its number
white-space-back : (w : WhiteSpace) → white_space_of (white_space_number w) ≡ w
unfolding white_space_of white_space_number pick is
white-space-back normal = refl
white-space-back pre = refl
white-space-back pre_wrap = refl

-- ---- colours
-- a colour whose three parts are bytes
pub record OfBytes (c : Colour) : Type 0 where
  pub red : c.red < 256
  pub green : c.green < 256
  pub blue : c.blue < 256

-- the three parts of a colour's number are taken out of it by 65,536 and 256
parts : (r g b : ℕ) → g < 256 → b < 256
    → ((r * 65536 + g * 256 + b) / 65536 ≡ r) × ((r * 65536 + g * 256 + b) / 256 % 256 ≡ g) × ((r * 65536 + g * 256 + b) % 256 ≡ b)
parts r g b h k = (omega arith, omega arith, omega arith)

-- a colour of bytes is read back from its number
colour-back : (c : Colour) → OfBytes c → colour_of (colour_number c) ≡ c
unfolding colour_of colour_number
colour-back c h = let p = parts c.red c.green c.blue h.green h.blue in rw (p.0, p.1, p.2)

-- what a declaration or a style asks of its colour
unfoldable pub DeclFits : Decl → Type 0
DeclFits (color c) = OfBytes c
DeclFits (background_color c) = OfBytes c
DeclFits (height z) = Unit
DeclFits (max_height z) = Unit
DeclFits (overflow o) = Unit
DeclFits (overflow_y o) = Unit
DeclFits (display n) = Unit
DeclFits (white_space w) = Unit
DeclFits (content t) = Unit
DeclFits (visibility h) = Unit
DeclFits (unknown n) = Unit

unfoldable pub StyleFits : Style → Type 0
StyleFits (style.colour c) = OfBytes c
StyleFits (style.background c) = OfBytes c
StyleFits style.display_none = Unit
StyleFits (style.white_space w) = Unit
StyleFits (style.content t) = Unit
StyleFits (style.visibility h) = Unit

abbrev pub DeclarationsFit : List Declaration → Type 0
DeclarationsFit ds = All (λ d. DeclFits d.decl) ds

abbrev pub StylesFit : List StyleDecl → Type 0
StylesFit ds = All (λ d. StyleFits d.value.style) ds

-- the row of a style in numbers is read back
pub row-numbers-back : (x : StyleNumbers) (t : List ℕ) → numbers_at (row_of_numbers x ++ t) ≡ x
unfolding numbers_at row_of_numbers value_numbers
row-numbers-back x t = rw (flag-back x.important)

-- and what stands behind it is left
pub row-numbers-rest : (x : StyleNumbers) (t : List ℕ) → drop style_width (row_of_numbers x ++ t) ≡ t
unfolding row_of_numbers value_numbers
row-numbers-rest x t = refl

module _ (store : List ℕ) where
  -- ---- one declaration
  -- a declaration's row, with its text in the store, reads back as the declaration, its mark and its start
  decl-back : (i s f : ℕ) (d : Decl) (t : List ℕ) → DeclFits d → Held store f (decl_text d)
      → read_declaration store (decl_row i s f d ++ t) ≡ record { value = record { decl = d; important = flag_of i; start = s }; rest = t }
  unfolding read_declaration decl_row decl_text decl_of DeclFits pick is
  decl-back i s f (color c) t b h = rw (colour-back c b)
  decl-back i s f (background_color c) t b h = rw (colour-back c b)
  decl-back i s f (height z) t u h = rw (flag-back z)
  decl-back i s f (max_height z) t u h = rw (flag-back z)
  decl-back i s f (overflow o) t u h = rw (overflow-back o)
  decl-back i s f (overflow_y o) t u h = rw (overflow-back o)
  decl-back i s f (display n) t u h = rw (flag-back n)
  decl-back i s f (white_space w) t u h = rw (white-space-back w)
  decl-back i s f (content b) t u h = rw (held-part store f b h)
  decl-back i s f (visibility z) t u h = rw (flag-back z)
  decl-back i s f (unknown b) t u h = rw (held-part store f b h)

  -- a declaration that was written is read back from its row, and what stands behind it is left
  declaration-back : (f : ℕ) (d : Declaration) (t : List ℕ) → DeclFits d.decl → Held store f (declaration_text d)
      → read_declaration store (declaration_row f d ++ t) ≡ record { value = d; rest = t }
  unfolding declaration_row declaration_text
  declaration-back f d t u h = rw (decl-back (flag d.important) d.start f d.decl t u h, flag-back d.important)

  -- declarations that were written behind f bytes of text are read back, and what stands behind them is left
  pub declarations-read : (ds : List Declaration) (f : ℕ) (t : List ℕ) → DeclarationsFit ds → Held store f (declaration_texts ds)
      → read_many (read_declaration store) (length ds) (declaration_rows f ds ++ t) ≡ record { value = ds; rest = t }
  unfolding declaration_rows declaration_texts
  declarations-read ds f t u h =
      many-back store declaration_row declaration_text (read_declaration store) (λ d. d) (λ d. DeclFits d.decl) (f + length (texts_many declaration_text ds)) (λ f d t u h _. declaration-back f d t u h) ds f t u h (omega arith)
      ∙ rw (map-id ds)

  -- declarations that were written behind f bytes of text are read back
  pub declarations-back : (ds : List Declaration) (f : ℕ) (t : List ℕ) → DeclarationsFit ds → Held store f (declaration_texts ds)
      → declarations_at (declaration_rows f ds ++ t) store (length ds) ≡ ds
  unfolding declarations_at
  declarations-back ds f t u h = ap (λ (r : Read (List Declaration)). r.value) (declarations-read ds f t u h)

  -- ---- one style
  -- a style's number and its text's length, with the text in the store, read back as the style
  style-of-back : (f s : ℕ) (d : Style) → StyleFits d → Held store f (style_text_of d)
      → style_of store (style_slot_of d) (record { number = number_from f d; second = length (style_text_of d); start = s }) ≡ d
  unfolding style_of style_slot_of number_from style_text_of StyleFits pick is
  style-of-back f s (style.colour c) b h = rw (colour-back c b)
  style-of-back f s (style.background c) b h = rw (colour-back c b)
  style-of-back f s style.display_none u h = refl
  style-of-back f s (style.white_space w) u h = rw (white-space-back w)
  style-of-back f s (style.content b) u h = rw (held-part store f b h)
  style-of-back f s (style.visibility z) u h = rw (flag-back z)

  -- and with its start as what it gives its slot
  value-back : (f : ℕ) (v : StyleValue) → StyleFits v.style → Held store f (style_text_of v.style) → value_in store (style_slot_of v.style) (value_from f v) ≡ v
  unfolding value_in value_from
  value-back f v u h = rw (style-of-back f v.start v.style u h)

  -- a style in numbers says the style, where its text lies in the store
  pub numbers-say : (f : ℕ) (d : StyleDecl) → StyleFits d.value.style → Held store f (style_text d) → style_in store (numbers_from f d) ≡ d
  unfolding style_in numbers_from style_text
  numbers-say f d u h = rw (value-back f d.value u h)

  -- a style that was written is read back from its row, and what stands behind it is left
  style-back : (f : ℕ) (d : StyleDecl) (t : List ℕ) → StyleFits d.value.style → Held store f (style_text d) → read_style store (style_row f d ++ t) ≡ record { value = d; rest = t }
  unfolding read_style style_row
  style-back f d t u h = rw (row-numbers-back (numbers_from f d) t, row-numbers-rest (numbers_from f d) t, numbers-say f d u h)

  -- styles that were written behind f bytes of text are read back
  pub styles-back : (ds : List StyleDecl) (f : ℕ) (t : List ℕ) → StylesFit ds → Held store f (style_texts ds) → styles_at (style_rows f ds ++ t) store (length ds) ≡ ds
  unfolding styles_at style_rows style_texts
  styles-back ds f t u h =
      ap (λ (r : Read (List StyleDecl)). r.value)
      (many-back store style_row style_text (read_style store) (λ d. d) (λ d. StyleFits d.value.style) (f + length (texts_many style_text ds)) (λ f d t u h _. style-back f d t u h) ds f t u h (omega arith))
      ∙ map-id ds

-- declarations written into lent rows from p on, and their texts into a lent store from f on, are read back
pub declarations-written : (ds : List Declaration) (rows : List ℕ) (p : ℕ) (store : List ℕ) (f : ℕ) → DeclarationsFit ds → p + length (declaration_rows f ds) ≤ length rows
    → f + length (declaration_texts ds) ≤ length store
    → declarations_at (drop p (sets rows p (declaration_rows f ds))) (sets store f (declaration_texts ds)) (length ds) ≡ ds
declarations-written ds rows p store f u h k =
    rw (sets-drop rows p (declaration_rows f ds) h) (declarations-back (sets store f (declaration_texts ds)) ds f _ u (sets-held store f (declaration_texts ds) k))

-- styles written into lent rows from p on, and their texts into a lent store from f on, are read back
pub styles-written : (ds : List StyleDecl) (rows : List ℕ) (p : ℕ) (store : List ℕ) (f : ℕ) → StylesFit ds → p + length (style_rows f ds) ≤ length rows
    → f + length (style_texts ds) ≤ length store
    → styles_at (drop p (sets rows p (style_rows f ds))) (sets store f (style_texts ds)) (length ds) ≡ ds
styles-written ds rows p store f u h k =
    rw (sets-drop rows p (style_rows f ds) h) (styles-back (sets store f (style_texts ds)) ds f _ u (sets-held store f (style_texts ds) k))
