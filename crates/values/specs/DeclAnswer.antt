-- Declarations as the code has them.
use Rattle.std.specs.Prelude.{ℕ, List, length}
use Rattle.lexer.specs.Token.{Token}
use Rattle.syntax.specs.Declaration.{Decl, color, background_color, height, max_height, overflow, overflow_y, display, white_space, content, visibility, unknown}
use Rattle.syntax.specs.Layout.{color_kind, background_color_kind, height_kind, max_height_kind, overflow_kind, overflow_y_kind, display_kind, white_space_kind, content_kind, visibility_kind, unknown_kind, flag, overflow_number, white_space_number, colour_number}
use Rattle.values.specs.Words.{on_found, row_at}
use Rattle.values.specs.Property.{properties}
use Rattle.values.specs.KeywordAnswer.{overflow_meant, overflow_word, white_space_meant, white_space_word}
use Rattle.values.specs.declared.properties.Decl as declared
use Rattle.values.specs.declared.properties.Decl.TheVariants as code
use Rattle.values.specs.declared.properties.DeclNumbers.{DeclNumbers}
use Rattle.values.specs.declared.properties.Property.{Property}
use Rattle.values.specs.declared.properties.Property.TheVariants as property

unfoldable pub decl_answer : Decl → declared.Decl
decl_answer (color c) = code.Color (colour_number c)
decl_answer (background_color c) = code.BackgroundColor (colour_number c)
decl_answer (height z) = code.Height z
decl_answer (max_height z) = code.MaxHeight z
decl_answer (overflow o) = code.Overflow (overflow_word o)
decl_answer (overflow_y o) = code.OverflowY (overflow_word o)
decl_answer (display n) = code.Display n
decl_answer (white_space w) = code.WhiteSpace (white_space_word w)
decl_answer (content t) = code.Content (length t)
decl_answer (visibility h) = code.Visibility h
decl_answer (unknown t) = code.Unknown (length t)

-- the bytes of a declaration's text
unfoldable pub text_length : declared.Decl → ℕ
text_length (code.Color v) = 0
text_length (code.BackgroundColor v) = 0
text_length (code.Height z) = 0
text_length (code.MaxHeight z) = 0
text_length (code.Overflow v) = 0
text_length (code.OverflowY v) = 0
text_length (code.Display z) = 0
text_length (code.WhiteSpace v) = 0
text_length (code.Content n) = n
text_length (code.Visibility h) = 0
text_length (code.Unknown n) = n

-- the number of its kind
unfoldable pub kind_of : declared.Decl → ℕ
kind_of (code.Color v) = color_kind
kind_of (code.BackgroundColor v) = background_color_kind
kind_of (code.Height z) = height_kind
kind_of (code.MaxHeight z) = max_height_kind
kind_of (code.Overflow v) = overflow_kind
kind_of (code.OverflowY v) = overflow_y_kind
kind_of (code.Display z) = display_kind
kind_of (code.WhiteSpace v) = white_space_kind
kind_of (code.Content n) = content_kind
kind_of (code.Visibility h) = visibility_kind
kind_of (code.Unknown n) = unknown_kind

-- the number of its value: a content and an unknown declaration have a text in its place
unfoldable pub value_number : declared.Decl → ℕ
value_number (code.Color v) = v
value_number (code.BackgroundColor v) = v
value_number (code.Height z) = flag z
value_number (code.MaxHeight z) = flag z
value_number (code.Overflow v) = overflow_number (overflow_meant v)
value_number (code.OverflowY v) = overflow_number (overflow_meant v)
value_number (code.Display z) = flag z
value_number (code.WhiteSpace v) = white_space_number (white_space_meant v)
value_number (code.Content n) = 0
value_number (code.Visibility h) = flag h
value_number (code.Unknown n) = 0

-- a declaration as numbers
unfoldable pub numbers_of : declared.Decl → DeclNumbers
numbers_of d = record { kind = kind_of d; value = value_number d; text = text_length d }

-- the place of a property in the table
unfoldable pub place_of : Property → ℕ
place_of property.BackgroundColor = 0
place_of property.Background = 1
place_of property.Color = 2
place_of property.Height = 3
place_of property.MaxHeight = 4
place_of property.Overflow = 5
place_of property.OverflowY = 6
place_of property.Display = 7
place_of property.WhiteSpace = 8
place_of property.Content = 9
place_of property.Visibility = 10

-- the declaration of a value by the property at a place; past the last, it is unknown
unfoldable pub decl_at : ℕ → List ℕ → List Token → Decl
decl_at p name ks = on_found (row_at properties p) (λ read. read name ks) (unknown name)
