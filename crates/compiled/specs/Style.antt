-- Styles of a compiled sheet: whether it is important, where its declaration starts, the slot, and the slot's value.
use Rattle.std.specs.Prelude.{ℕ, ◌≡◌, refl, true, false, List, [], ◌∷◌, ◌++◌}
use Rattle.combinators.specs.Choice.{pick, and, is, within}
use Rattle.syntax.specs.Declaration.{pre_wrap}
use Rattle.syntax.specs.Layout.{flag, flag_of, colour_number, white_space_number, colour_slot, display_slot, white_space_slot, content_slot, visibility_slot, last_slot, style_slot_of, style_of, value_in, style_in}
use Rattle.syntax.specs.Style as style
use Rattle.syntax.specs.Style.{Style, StyleDecl}
use Rattle.syntax.specs.declared.styles.Value.{Value}
use Rattle.syntax.specs.declared.styles.StyleNumbers.{StyleNumbers}
use Rattle.compiled.specs.Decoded.{Decoded, read, fault, and_then, mapped}
use Rattle.compiled.specs.Number.{group_bytes, number_bytes, limited, groups_at, number_at, ranged_at}
use Rattle.compiled.specs.Text.{text_bytes, span_at}

-- "Colours are below 16,777,216."
abbrev pub greatest_colour : ℕ
greatest_colour = 16777215

-- ---- written

-- what stands behind the slot: of `display: none` nothing
unfoldable pub style_body : Style → List ℕ
style_body (style.colour c) = number_bytes (colour_number c)
style_body (style.background c) = number_bytes (colour_number c)
style_body style.display_none = []
style_body (style.white_space w) = number_bytes (white_space_number w)
style_body (style.content x) = text_bytes x
style_body (style.visibility h) = number_bytes (flag h)

-- "Style: important 0 or 1", then the start (S-3: "the start becomes a number after the important mark"); "slot 0 colour, 1 background (each red × 65536 + green × 256 + blue), 2 display none (no number follows; its value in a row is
-- 0), 3 white space (0 normal, 1 pre, 2 pre-wrap), 4 content (text)." S-9: "a sixth slot, number 5 in compiled sheets, value 0 or 1"
unfoldable pub style_bytes : StyleDecl → List ℕ
style_bytes d = number_bytes (flag d.important) ++ (number_bytes d.value.start ++ (number_bytes (style_slot_of d.value.style) ++ style_body d.value.style))

-- ---- read

-- at n, behind the slot: a text, of which the value says where it lies in these bytes, or a number up to a greatest one. The start was read before the slot.
unfoldable pub content_at : List ℕ → ℕ → ℕ → Decoded Value
content_at t start n = mapped (λ x. record { number = x.start; second = x.size; start = start }) (span_at t n)

unfoldable pub number_up_to : ℕ → List ℕ → ℕ → ℕ → Decoded Value
number_up_to greatest t start n = mapped (λ v. record { number = v; second = 0; start = start }) (ranged_at t n 0 greatest)

unfoldable pub value_at : List ℕ → ℕ → ℕ → ℕ → Decoded Value
value_at t start slot n =
    pick (is slot display_slot) (read n (record { number = 0; second = 0; start = start }))
    (pick (is slot content_slot) (content_at t start n)
    (pick (is slot white_space_slot) (number_up_to (white_space_number pre_wrap) t start n)
    (pick (is slot visibility_slot) (number_up_to (flag true) t start n)
    (number_up_to greatest_colour t start n))))

-- what the bytes of a style say: the mark, any start of 32 bits, the slot and its value
unfoldable pub style_numbers_at : List ℕ → ℕ → Decoded StyleNumbers
style_numbers_at t i =
    and_then (ranged_at t i 0 1) (λ n important. and_then (number_at t n) (λ m start. and_then (ranged_at t m colour_slot last_slot) (λ k slot.
    mapped (λ v. record { slot = slot; important = flag_of important; value = v }) (value_at t start slot k))))

-- the style that they say, its text being a part of the same bytes
unfoldable pub style_at : List ℕ → ℕ → Decoded StyleDecl
style_at t i = mapped (style_in t) (style_numbers_at t i)

-- ---- cases: red, from byte 2 on, and `display: none !important`, from byte 300 on
pub case-red : style_bytes (record { value = record { style = style.colour (record { red = 255; green = 0; blue = 0 }); start = 2 }; important = false }) ≡ 0x00 ∷ 0x02 ∷ 0x00 ∷ 0x80 ∷ 0x80 ∷ 0xfc ∷ 0x07 ∷ []
unfolding style_bytes style_slot_of style_body flag colour_number number_bytes group_bytes pick
case-red = refl

pub case-display : style_at (0x01 ∷ 0xac ∷ 0x02 ∷ 0x02 ∷ []) 0 ≡ read 4 (record { value = record { style = style.display_none; start = 300 }; important = true })
unfolding style_at style_in value_in style_numbers_at value_at content_at number_up_to style_of flag_of ranged_at number_at groups_at limited and_then mapped pick and is within
case-display = refl

-- a colour of 2^24
pub case-colour : style_at (0x00 ∷ 0x02 ∷ 0x01 ∷ 0x80 ∷ 0x80 ∷ 0x80 ∷ 0x08 ∷ []) 0 ≡ fault 3
unfolding style_at style_in value_in style_numbers_at value_at content_at number_up_to style_of flag_of ranged_at number_at groups_at limited and_then mapped pick and is within
case-colour = refl

-- `visibility: hidden`, from byte 2 on
pub case-hidden : style_at (0x00 ∷ 0x02 ∷ 0x05 ∷ 0x01 ∷ []) 0 ≡ read 4 (record { value = record { style = style.visibility true; start = 2 }; important = false })
unfolding style_at style_in value_in style_numbers_at value_at content_at number_up_to style_of flag flag_of ranged_at number_at groups_at limited and_then mapped pick and is within
case-hidden = refl

-- a visibility of 2
pub case-visibility : style_at (0x00 ∷ 0x02 ∷ 0x05 ∷ 0x02 ∷ []) 0 ≡ fault 3
unfolding style_at style_in value_in style_numbers_at value_at content_at number_up_to style_of flag flag_of ranged_at number_at groups_at limited and_then mapped pick and is within
case-visibility = refl

-- slot 6, which there is not
pub case-slot : style_at (0x00 ∷ 0x02 ∷ 0x06 ∷ 0x01 ∷ []) 0 ≡ fault 2
unfolding style_at style_in value_in style_numbers_at value_at content_at number_up_to style_of flag_of ranged_at number_at groups_at limited and_then mapped pick and is within
case-slot = refl
