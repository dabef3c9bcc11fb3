-- How declarations and styles lie in lent numbers and the text store. A declaration's row says its kind, whether it is important, the byte where it starts, and two numbers; a
-- style's its slot, whether it is important, two numbers, and that byte. The numbers are a colour, a flag or a word's number, and 0; or where a text starts in the store, and how long it is.
use Rattle.std.specs.Prelude.{ℕ, ◌+◌, ◌*◌, ◌/◌, ◌%◌, Bool, true, false, List, [], ◌∷◌, length, get_or, drop}
use Rattle.combinators.specs.Choice.{pick, is}
use Rattle.combinators.specs.Part.{part}
use Rattle.syntax.specs.Declaration.{Colour, Overflow, visible, hidden, scroll, auto, WhiteSpace, normal, pre, pre_wrap, Decl, color, background_color, height, max_height, overflow, overflow_y, display, white_space, content, visibility, unknown, Declaration}
use Rattle.syntax.specs.Stream.{Read, read_many, texts_many, rows_many}
use Rattle.syntax.specs.Style as style
use Rattle.syntax.specs.Style.{Style, StyleValue, StyleDecl}
use Rattle.syntax.specs.declared.styles.Value.{Value}
use Rattle.syntax.specs.declared.styles.StyleNumbers.{StyleNumbers}

-- ---- numbers for what a declaration can be. No declaration has 0, so that a cleared row is told from a written one.
abbrev pub color_kind : ℕ
color_kind = 1

abbrev pub background_color_kind : ℕ
background_color_kind = 2

abbrev pub height_kind : ℕ
height_kind = 3

abbrev pub max_height_kind : ℕ
max_height_kind = 4

abbrev pub overflow_kind : ℕ
overflow_kind = 5

abbrev pub overflow_y_kind : ℕ
overflow_y_kind = 6

abbrev pub display_kind : ℕ
display_kind = 7

abbrev pub white_space_kind : ℕ
white_space_kind = 8

abbrev pub content_kind : ℕ
content_kind = 9

abbrev pub unknown_kind : ℕ
unknown_kind = 10

abbrev pub visibility_kind : ℕ
visibility_kind = 11

-- ---- flags and words
unfoldable pub flag : Bool → ℕ
flag false = 0
flag true = 1

unfoldable pub flag_of : ℕ → Bool
flag_of n = is n 1

unfoldable pub overflow_number : Overflow → ℕ
overflow_number visible = 0
overflow_number hidden = 1
overflow_number scroll = 2
overflow_number auto = 3

unfoldable pub overflow_of : ℕ → Overflow
overflow_of n = pick (is n 0) visible (pick (is n 1) hidden (pick (is n 2) scroll auto))

-- as in the compiled sheet
unfoldable pub white_space_number : WhiteSpace → ℕ
white_space_number normal = 0
white_space_number pre = 1
white_space_number pre_wrap = 2

unfoldable pub white_space_of : ℕ → WhiteSpace
white_space_of n = pick (is n 0) normal (pick (is n 1) pre pre_wrap)

-- red, green and blue as one number, as in the compiled sheet
unfoldable pub colour_number : Colour → ℕ
colour_number c = c.red * 65536 + c.green * 256 + c.blue

unfoldable pub colour_of : ℕ → Colour
colour_of n = record { red = n / 65536; green = n / 256 % 256; blue = n % 256 }

-- ---- declarations: kind, important, first byte, two numbers
abbrev pub declaration_width : ℕ
declaration_width = 5

abbrev pub declaration_kind : ℕ
declaration_kind = 0

abbrev pub declaration_important : ℕ
declaration_important = 1

abbrev pub declaration_start : ℕ
declaration_start = 2

abbrev pub declaration_value : ℕ
declaration_value = 3

abbrev pub declaration_second : ℕ
declaration_second = 4

-- its text in the store: of a content that text, of an unknown declaration its name
unfoldable pub decl_text : Decl → List ℕ
decl_text (content t) = t
decl_text (unknown t) = t
decl_text _ = []

unfoldable pub declaration_text : Declaration → List ℕ
declaration_text d = decl_text d.decl

-- the row, where its text starts at f
unfoldable pub decl_row : ℕ → ℕ → ℕ → Decl → List ℕ
decl_row i s f (color c) = color_kind ∷ i ∷ s ∷ colour_number c ∷ 0 ∷ []
decl_row i s f (background_color c) = background_color_kind ∷ i ∷ s ∷ colour_number c ∷ 0 ∷ []
decl_row i s f (height z) = height_kind ∷ i ∷ s ∷ flag z ∷ 0 ∷ []
decl_row i s f (max_height z) = max_height_kind ∷ i ∷ s ∷ flag z ∷ 0 ∷ []
decl_row i s f (overflow o) = overflow_kind ∷ i ∷ s ∷ overflow_number o ∷ 0 ∷ []
decl_row i s f (overflow_y o) = overflow_y_kind ∷ i ∷ s ∷ overflow_number o ∷ 0 ∷ []
decl_row i s f (display n) = display_kind ∷ i ∷ s ∷ flag n ∷ 0 ∷ []
decl_row i s f (white_space w) = white_space_kind ∷ i ∷ s ∷ white_space_number w ∷ 0 ∷ []
decl_row i s f (content t) = content_kind ∷ i ∷ s ∷ f ∷ length t ∷ []
decl_row i s f (visibility h) = visibility_kind ∷ i ∷ s ∷ flag h ∷ 0 ∷ []
decl_row i s f (unknown t) = unknown_kind ∷ i ∷ s ∷ f ∷ length t ∷ []

unfoldable pub declaration_row : ℕ → Declaration → List ℕ
declaration_row f d = decl_row (flag d.important) d.start f d.decl

-- the declaration of a kind and two numbers
unfoldable pub decl_of : List ℕ → ℕ → ℕ → ℕ → Decl
decl_of store k a b =
    pick (is k color_kind) (color (colour_of a))
    (pick (is k background_color_kind) (background_color (colour_of a))
    (pick (is k height_kind) (height (flag_of a))
    (pick (is k max_height_kind) (max_height (flag_of a))
    (pick (is k overflow_kind) (overflow (overflow_of a))
    (pick (is k overflow_y_kind) (overflow_y (overflow_of a))
    (pick (is k display_kind) (display (flag_of a))
    (pick (is k white_space_kind) (white_space (white_space_of a))
    (pick (is k content_kind) (content (part store a b))
    (pick (is k visibility_kind) (visibility (flag_of a))
    (unknown (part store a b)))))))))))

unfoldable pub read_declaration : List ℕ → List ℕ → Read Declaration
read_declaration store t =
    record {
      value =
          record {
            decl = decl_of store (get_or t declaration_kind 0) (get_or t declaration_value 0) (get_or t declaration_second 0);
            important = flag_of (get_or t declaration_important 0);
            start = get_or t declaration_start 0;
          };
      rest = drop declaration_width t;
    }

-- declarations whose texts start at f, and the n declarations at the start of a stream
unfoldable pub declaration_rows : ℕ → List Declaration → List ℕ
declaration_rows f ds = rows_many declaration_row declaration_text f ds

unfoldable pub declaration_texts : List Declaration → List ℕ
declaration_texts ds = texts_many declaration_text ds

unfoldable pub declarations_at : List ℕ → List ℕ → ℕ → List Declaration
declarations_at rows store n = (read_many (read_declaration store) n rows).value

-- ---- styles: slot, important, and the numbers of its value. The slots are those of the compiled sheet.
abbrev pub colour_slot : ℕ
colour_slot = 0

abbrev pub background_slot : ℕ
background_slot = 1

abbrev pub display_slot : ℕ
display_slot = 2

abbrev pub white_space_slot : ℕ
white_space_slot = 3

abbrev pub content_slot : ℕ
content_slot = 4

abbrev pub visibility_slot : ℕ
visibility_slot = 5

abbrev pub last_slot : ℕ
last_slot = visibility_slot

abbrev pub style_width : ℕ
style_width = 5

abbrev pub style_slot : ℕ
style_slot = 0

abbrev pub style_important : ℕ
style_important = 1

abbrev pub style_number : ℕ
style_number = 2

abbrev pub style_second : ℕ
style_second = 3

abbrev pub style_start : ℕ
style_start = 4

unfoldable pub style_text_of : Style → List ℕ
style_text_of (style.content t) = t
style_text_of _ = []

unfoldable pub style_text : StyleDecl → List ℕ
style_text d = style_text_of d.value.style

-- the slot of a style
unfoldable pub style_slot_of : Style → ℕ
style_slot_of (style.colour c) = colour_slot
style_slot_of (style.background c) = background_slot
style_slot_of style.display_none = display_slot
style_slot_of (style.white_space w) = white_space_slot
style_slot_of (style.content t) = content_slot
style_slot_of (style.visibility h) = visibility_slot

-- the number that a style gives its slot: of a content where its text starts, which is f
unfoldable pub number_from : ℕ → Style → ℕ
number_from f (style.colour c) = colour_number c
number_from f (style.background c) = colour_number c
number_from f style.display_none = 0
number_from f (style.white_space w) = white_space_number w
number_from f (style.content t) = f
number_from f (style.visibility h) = flag h

-- what a style gives its slot: its number, how long its text is, and where its declaration starts
unfoldable pub value_from : ℕ → StyleValue → Value
value_from f v = record { number = number_from f v.style; second = length (style_text_of v.style); start = v.start }

-- the style in numbers
unfoldable pub numbers_from : ℕ → StyleDecl → StyleNumbers
numbers_from f d = record { slot = style_slot_of d.value.style; important = d.important; value = value_from f d.value }

-- the numbers of a value, in a style's row and in a slot
unfoldable pub value_numbers : Value → List ℕ
value_numbers v = v.number ∷ v.second ∷ v.start ∷ []

-- a style's row
unfoldable pub row_of_numbers : StyleNumbers → List ℕ
row_of_numbers x = x.slot ∷ flag x.important ∷ value_numbers x.value

unfoldable pub style_row : ℕ → StyleDecl → List ℕ
style_row f d = row_of_numbers (numbers_from f d)

-- the style in numbers that the row at the start of a stream has
unfoldable pub numbers_at : List ℕ → StyleNumbers
numbers_at t =
    record {
      slot = get_or t style_slot 0;
      important = flag_of (get_or t style_important 0);
      value = record { number = get_or t style_number 0; second = get_or t style_second 0; start = get_or t style_start 0 };
    }

-- the style of a slot and a value, whose text is a part of the store
unfoldable pub style_of : List ℕ → ℕ → Value → Style
style_of store k v =
    pick (is k colour_slot) (style.colour (colour_of v.number))
    (pick (is k background_slot) (style.background (colour_of v.number))
    (pick (is k display_slot) style.display_none
    (pick (is k white_space_slot) (style.white_space (white_space_of v.number))
    (pick (is k content_slot) (style.content (part store v.number v.second))
    (style.visibility (flag_of v.number))))))

-- what a value says, by its slot, with the start that it carries
unfoldable pub value_in : List ℕ → ℕ → Value → StyleValue
value_in store k v = record { style = style_of store k v; start = v.start }

-- the style that numbers say
unfoldable pub style_in : List ℕ → StyleNumbers → StyleDecl
style_in store x = record { value = value_in store x.slot x.value; important = x.important }

unfoldable pub read_style : List ℕ → List ℕ → Read StyleDecl
read_style store t = record { value = style_in store (numbers_at t); rest = drop style_width t }

unfoldable pub style_rows : ℕ → List StyleDecl → List ℕ
style_rows f ds = rows_many style_row style_text f ds

unfoldable pub style_texts : List StyleDecl → List ℕ
style_texts ds = texts_many style_text ds

unfoldable pub styles_at : List ℕ → List ℕ → ℕ → List StyleDecl
styles_at rows store n = (read_many (read_style store) n rows).value
