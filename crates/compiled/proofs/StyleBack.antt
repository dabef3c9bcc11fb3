-- Styles: what is written is read back wherever it lies.
use mathlib.Core.Path.{◌≡◌, refl, sym, ap, ◌∙◌}
use mathlib.Core.Bool.{Bool, true, false}
use mathlib.Core.List.{List, [], ◌++◌}
use Prim.Native.Nat.{ℕ, ◌+◌, ◌*◌, ◌≤◌, ◌<◌}
use native.Mathlib.Nat.{add-zero}
use native.Mathlib.Omega.{arith}
use lib.ListN.{length, drop, length-append}
use Rattle.combinators.specs.Choice.{pick, is}
use Rattle.syntax.specs.Declaration.{Colour, WhiteSpace, normal, pre, pre_wrap}
use Rattle.syntax.specs.Layout.{flag, colour_number, white_space_number, colour_slot, last_slot, style_text_of, style_text, style_slot_of, number_from, value_from, numbers_from, style_in}
use Rattle.syntax.specs.Style as style
use Rattle.syntax.specs.Style.{Style, StyleDecl}
use Rattle.syntax.specs.declared.styles.StyleNumbers.{StyleNumbers}
use Rattle.syntax.proofs.Back as back
use Rattle.syntax.proofs.Back.{OfBytes}
use Rattle.syntax.proofs.Streams.{Held, held-left, held-right}
use Rattle.compiled.specs.Decoded.{Decoded, read, and_then, mapped}
use Rattle.compiled.specs.Number.{number_bytes, number_at, ranged_at}
use Rattle.compiled.specs.Text.{span_at}
use Rattle.compiled.specs.Style.{greatest_colour, style_body, style_bytes, content_at, number_up_to, value_at, style_numbers_at, style_at}
use Rattle.compiled.proofs.Fits.{TextFits, StyleFits}
use Rattle.compiled.proofs.Following.{then-read, mapped-read, ends_at}
use Rattle.compiled.proofs.NumberBack.{number-some, number-back, ranged-back}
use Rattle.compiled.proofs.TextBack.{span, span-back, text-held}

-- ---- numbers in their ranges
-- a slot is none behind the last
slot-le : (s : Style) → style_slot_of s ≤ last_slot
unfolding style_slot_of
slot-le (style.colour c) = omega arith
slot-le (style.background c) = omega arith
slot-le style.display_none = omega arith
slot-le (style.white_space w) = omega arith
slot-le (style.content x) = omega arith
slot-le (style.visibility h) = omega arith

-- a flag is at most 1
flag-le : (b : Bool) → flag b ≤ 1
unfolding flag
flag-le true = omega arith
flag-le false = omega arith

-- nor more than that of what is so
flag-true : (b : Bool) → flag b ≤ flag true
unfolding flag
flag-true b = flag-le b

-- the number of a colour of bytes is at most the greatest of colours
colour-le : (c : Colour) → OfBytes c → colour_number c ≤ greatest_colour
unfolding colour_number
colour-le c h = sum c.red c.green c.blue h.red h.green h.blue
  where
    sum : (r g b : ℕ) → r < 256 → g < 256 → b < 256 → r * 65536 + g * 256 + b ≤ greatest_colour
    sum r g b hr hg hb = omega arith

-- the number of a word of `white-space` is at most the greatest of them
white-space-le : (w : WhiteSpace) → white_space_number w ≤ white_space_number pre_wrap
unfolding white_space_number
white-space-le normal = omega arith
white-space-le pre = omega arith
white-space-le pre_wrap = omega arith

-- which is 2
white-space-two : (w : WhiteSpace) → white_space_number w ≤ 2
unfolding white_space_number
white-space-two w = white-space-le w

-- a style takes a byte
pub style-some : (d : StyleDecl) → 1 ≤ length (style_bytes d)
unfolding style_bytes
style-some d =
    omega (
      arith,
      length-append (number_bytes (flag d.important)) (number_bytes d.value.start ++ (number_bytes (style_slot_of d.value.style) ++ style_body d.value.style)),
      number-some (flag d.important),
    )

-- ---- read back
-- where the text of a style lies whose body starts at n: behind its length
abbrev pub text_place : ℕ → Style → ℕ
text_place n s = n + length (number_bytes (length (style_text_of s)))

module _ (t : List ℕ) where
  -- the empty text lies at every place
  held_none : (f : ℕ) → Held t f []
  held_none f = record { more = drop f t; held = refl }

  -- ---- the value of a style, and where its text lies
  -- what stands at n, behind the slot, is read as the value
  body-value : (s : Style) (from n : ℕ) → back.StyleFits s → TextFits (style_text_of s) → Held t n (style_body s)
      → value_at t from (style_slot_of s) n ≡ read (n + length (style_body s)) (record { number = number_from (text_place n s) s; second = length (style_text_of s); start = from })
  unfolding value_at content_at number_up_to style_slot_of style_body style_text_of number_from back.StyleFits pick is
  body-value (style.colour c) from n u f h =
      mapped-read _ (ranged_at t n 0 greatest_colour) _ _ (ranged-back t n 0 greatest_colour (colour_number c) (omega (arith, colour-le c u)) (omega arith) (colour-le c u) h)
  body-value (style.background c) from n u f h =
      mapped-read _ (ranged_at t n 0 greatest_colour) _ _ (ranged-back t n 0 greatest_colour (colour_number c) (omega (arith, colour-le c u)) (omega arith) (colour-le c u) h)
  body-value style.display_none from n u f h = ends_at _ _ _ (sym (add-zero n))
  body-value (style.white_space w) from n u f h =
      mapped-read _ (ranged_at t n 0 (white_space_number pre_wrap)) _ _ (ranged-back t n 0 (white_space_number pre_wrap) (white_space_number w) (omega (arith, white-space-two w)) (omega arith) (white-space-le w) h)
  body-value (style.content x) from n u f h = mapped-read _ (span_at t n) _ (span t n x h) (span-back t n x h f.short)
  body-value (style.visibility z) from n u f h =
      mapped-read _ (ranged_at t n 0 (flag true)) _ _ (ranged-back t n 0 (flag true) (flag z) (omega (arith, flag-le z)) (omega arith) (flag-true z) h)

  -- its text lies behind its length
  body-text : (s : Style) (n : ℕ) → Held t n (style_body s) → Held t (text_place n s) (style_text_of s)
  unfolding style_body style_text_of
  body-text (style.colour c) n h = held_none (text_place n (style.colour c))
  body-text (style.background c) n h = held_none (text_place n (style.background c))
  body-text style.display_none n h = held_none (text_place n style.display_none)
  body-text (style.white_space w) n h = held_none (text_place n (style.white_space w))
  body-text (style.content x) n h = text-held t n x h
  body-text (style.visibility z) n h = held_none (text_place n (style.visibility z))

  module _ (d : StyleDecl) (i : ℕ) (h : Held t i (style_bytes d)) where
    -- its flag, its start, its slot and its body
    abbrev a : List ℕ
    a = number_bytes (flag d.important)

    abbrev f : List ℕ
    f = number_bytes d.value.start

    abbrev b : List ℕ
    b = number_bytes (style_slot_of d.value.style)

    abbrev c : List ℕ
    c = style_body d.value.style

    -- the start lies behind the flag
    behind-flag : Held t (i + length a) (f ++ (b ++ c))
    unfolding style_bytes
    behind-flag = held-right t i a (f ++ (b ++ c)) h

    -- the slot behind the start
    behind-start : Held t (i + length a + length f) (b ++ c)
    behind-start = held-right t (i + length a) f (b ++ c) behind-flag

    -- where the body starts, and where its text lies, if it has one
    abbrev body : ℕ
    body = i + length a + length f + length b

    abbrev pub place : ℕ
    place = text_place body d.value.style

    -- the style's text lies behind its length
    pub text-there : Held t place (style_text d)
    unfolding style_text
    text-there = body-text d.value.style body (held-right t (i + length a + length f) b c behind-start)

    -- what is read behind the flag
    abbrev flagged : Bool → Decoded StyleNumbers
    flagged x =
        and_then (number_at t (i + length a)) (λ m start. and_then (ranged_at t m colour_slot last_slot) (λ k slot.
        mapped (λ v. record { slot = slot; important = x; value = v }) (value_at t start slot k)))

    -- a style is read as its numbers
    pub numbers-back : StyleFits d → style_numbers_at t i ≡ read (i + length (style_bytes d)) (numbers_from place d)
    unfolding style_numbers_at style_bytes style_text numbers_from value_from
    numbers-back k =
        let s = d.value.style in
        let e : body + length c ≡ i + length (a ++ (f ++ (b ++ c))) = omega (arith, length-append a (f ++ (b ++ c)), length-append f (b ++ c), length-append b c) in
        then-read (ranged_at t i 0 1) _ _ (flag d.important)
        (ranged-back t i 0 1 (flag d.important) (omega (arith, flag-le d.important)) (omega arith) (flag-le d.important) (held-left t i a (f ++ (b ++ c)) h))
        ∙ ap flagged (back.flag-back d.important)
        ∙ then-read (number_at t (i + length a)) _ _ d.value.start
        (number-back t (i + length a) d.value.start k.start (held-left t (i + length a) f (b ++ c) behind-flag))
        ∙ then-read (ranged_at t (i + length a + length f) colour_slot last_slot) _ _ (style_slot_of s)
        (ranged-back t (i + length a + length f) colour_slot last_slot (style_slot_of s) (omega (arith, slot-le s)) (omega arith) (slot-le s) (held-left t (i + length a + length f) b c behind-start))
        ∙ mapped-read _ (value_at t d.value.start (style_slot_of s) body) _ _
        (body-value s d.value.start body k.colour k.text (held-right t (i + length a + length f) b c behind-start))
        ∙ ends_at _ _ _ e

  -- a style is read back
  pub style-back : (d : StyleDecl) (i : ℕ) → StyleFits d → Held t i (style_bytes d) → style_at t i ≡ read (i + length (style_bytes d)) d
  unfolding style_at
  style-back d i f h =
      mapped-read (style_in t) (style_numbers_at t i) _ _ (numbers-back d i h f)
      ∙ rw (back.numbers-say t (place d i h) d f.colour (text-there d i h))
