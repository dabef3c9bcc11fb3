-- Colours: `parse_color`, `parse_background_color` and the numbers that they read, of src/css/parser.rs.
use Rattle.std.specs.Prelude.{ℕ, ◌+◌, ◌*◌, ◌/◌, ◌%◌, Bool, true, List, [], ◌∷◌, leb, length, get_or, drop}
use Prim.Native.Char.{code as ascii}
use Rattle.combinators.specs.Choice.{pick, and, is}
use Rattle.combinators.specs.Word.{same_text}
use Rattle.characters.specs.Literal.{text}
use Rattle.lexer.specs.Name.{is_hex_digit, hex_digit}
use Rattle.lexer.specs.Number.{is_digit}
use Rattle.lexer.specs.Token.{Token, ident, function, hash, number, comma, close_round}
use Rattle.syntax.specs.Declaration.{Colour}
use Rattle.values.specs.Words.{Entry, Found, found, missing, lookup, on_found}

unfoldable pub rgb : ℕ → ℕ → ℕ → Colour
rgb r g b = record { red = r; green = g; blue = b }

-- "Seventeen colour names."
abbrev pub colours : List (Entry Colour)
colours =
    record { word = text "aqua"; means = rgb 0 0xff 0xff }
    ∷ record { word = text "black"; means = rgb 0 0 0 }
    ∷ record { word = text "blue"; means = rgb 0 0 0xff }
    ∷ record { word = text "fuchsia"; means = rgb 0xff 0 0xff }
    ∷ record { word = text "gray"; means = rgb 0x80 0x80 0x80 }
    ∷ record { word = text "green"; means = rgb 0 0x80 0 }
    ∷ record { word = text "lime"; means = rgb 0 0xff 0 }
    ∷ record { word = text "maroon"; means = rgb 0x80 0 0 }
    ∷ record { word = text "navy"; means = rgb 0 0 0x80 }
    ∷ record { word = text "olive"; means = rgb 0x80 0x80 0 }
    ∷ record { word = text "orange"; means = rgb 0xff 0xa5 0 }
    ∷ record { word = text "purple"; means = rgb 0x80 0 0x80 }
    ∷ record { word = text "red"; means = rgb 0xff 0 0 }
    ∷ record { word = text "silver"; means = rgb 0xc0 0xc0 0xc0 }
    ∷ record { word = text "teal"; means = rgb 0 0x80 0x80 }
    ∷ record { word = text "white"; means = rgb 0xff 0xff 0xff }
    ∷ record { word = text "yellow"; means = rgb 0xff 0xff 0 }
    ∷ []

-- ---- numbers in a base, as Rust's `from_str_radix` reads them into an unsigned type: a '+' or none, one digit or more

-- every byte is a digit by p
unfoldable pub all_of : (ℕ → Bool) → List ℕ → Bool
all_of p [] = true
all_of p (x ∷ r) = and (p x) (all_of p r)

-- the number that digits write in a base, each worth what d says, behind digits that are worth a
unfoldable pub numeral : ℕ → (ℕ → ℕ) → ℕ → List ℕ → ℕ
numeral base d a [] = a
numeral base d a (x ∷ r) = numeral base d (a * base + d x) r

unfoldable pub without_plus : List ℕ → List ℕ
without_plus s = drop (pick (is (get_or s 0 0) (ascii "+")) 1 0) s

unfoldable pub digits_in : (ℕ → Bool) → ℕ → (ℕ → ℕ) → ℕ → List ℕ → Found ℕ
digits_in p base d most t =
    pick (is (length t) 0) missing
    (pick (all_of p t) (pick (leb (numeral base d 0 t) most) (found (numeral base d 0 t)) missing) missing)

-- `str::parse::<u8>()`: decimal, up to 255
unfoldable pub parse_u8 : List ℕ → Found ℕ
parse_u8 s = digits_in is_digit 10 hex_digit 255 (without_plus s)

-- `from_str_radix(s, 16)`, where the number fits
unfoldable pub parse_hex : ℕ → List ℕ → Found ℕ
parse_hex most s = digits_in is_hex_digit 16 hex_digit most (without_plus s)

-- ---- `parse_color`
unfoldable pub three_digits : ℕ → Colour
three_digits v = rgb (v / 256 % 16 * 17) (v / 16 % 16 * 17) (v % 16 * 17)

unfoldable pub six_digits : ℕ → Colour
six_digits v = rgb (v / 65536 % 256) (v / 256 % 256) (v % 256)

-- "`#` colours have 3 or 6 bytes"
unfoldable pub hash_colour : List ℕ → Found Colour
hash_colour s =
    pick (is (length s) 3) (on_found (parse_hex 0xffffffff s) (λ v. found (three_digits v)) missing)
    (pick (is (length s) 6) (on_found (parse_hex 0xffffffff s) (λ v. found (six_digits v)) missing) missing)

-- a colour by its three numbers, where all are found
unfoldable pub rgb_of : Found ℕ → Found ℕ → Found ℕ → Found Colour
rgb_of r g b = on_found r (λ x. on_found g (λ y. on_found b (λ z. found (rgb x y z)) missing) missing) missing

unfoldable pub three_numbers : List ℕ → List ℕ → List ℕ → Found Colour
three_numbers r g b = rgb_of (parse_u8 r) (parse_u8 g) (parse_u8 b)

-- "`rgb` takes three whole numbers up to 255", parted by commas, and `)`
unfoldable pub rgb_colour : List Token → Found Colour
rgb_colour (number r ∷ comma ∷ number g ∷ comma ∷ number b ∷ close_round ∷ []) = three_numbers r g b
rgb_colour _ = missing

unfoldable pub colour_of : List Token → Found Colour
colour_of (ident b ∷ []) = lookup b colours
colour_of (hash b ∷ []) = hash_colour b
colour_of (function b ∷ ks) = pick (same_text b (text "rgb")) (rgb_colour ks) missing
colour_of _ = missing

-- `parse_background_color`: what stands behind the last comma, `acc` behind the last so far, at first all; "`background:rgb(1,2,3)`: no style, since commas split it"
unfoldable pub behind_comma : List Token → List Token → List Token
behind_comma acc [] = acc
behind_comma acc (comma ∷ ks) = behind_comma ks ks
behind_comma acc (_ ∷ ks) = behind_comma acc ks

unfoldable pub background_of : List Token → Found Colour
background_of ks = colour_of (behind_comma ks ks)
