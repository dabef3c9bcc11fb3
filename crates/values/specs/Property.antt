-- Properties: `parse_height`, `parse_overflow`, `parse_display`, `parse_white_space`, `parse_content` and the match of
-- `parse_declaration` of src/css/parser.rs.
use Rattle.std.specs.Prelude.{ℕ, ◌+◌, Bool, true, false, ◌≡◌, refl, List, [], ◌∷◌, ◌++◌, take, drop}
use Rattle.combinators.specs.Choice.{pick, and, is}
use Rattle.combinators.specs.Word.{same_text}
use Rattle.decimal.specs.Decimal.{rounds_to_zero}
use Rattle.characters.specs.Literal.{text}
use Rattle.characters.specs.Utf8.{utf8, continuation}
use Rattle.lexer.specs.Number.{digits, sign}
use Rattle.lexer.specs.Token.{Token, ident, string, number, dimension, comma}
use Rattle.lexer.specs.Whitespace.{skip_whitespace}
use Rattle.syntax.specs.Declaration.{Overflow, visible, hidden, scroll, auto, WhiteSpace, normal, pre, pre_wrap, Decl, color, background_color, height, max_height, overflow, overflow_y, display, white_space, content, visibility, unknown}
use Rattle.values.specs.Words.{Entry, Found, found, missing, lookup, on_found}
use Rattle.values.specs.Colour.{colour_of, background_of}

-- ---- heights: "`Height` matters only as zero or not"

-- whether the text of a number without a sign is zero as an f32
unfoldable pub unsigned_zero : List ℕ → Bool
unsigned_zero t = rounds_to_zero (take (digits t) t) (drop (digits t + 1) t)

-- the same of a number's text, its white space, comments and sign aside
unfoldable pub number_zero : List ℕ → Bool
number_zero n =
    let t = drop (skip_whitespace n) n in
    unsigned_zero (drop (sign t) t)

abbrev pub units : List (List ℕ)
units = text "in" ∷ text "cm" ∷ text "mm" ∷ text "pt" ∷ text "pc" ∷ text "px" ∷ text "em" ∷ text "ex" ∷ []

unfoldable pub any_of : List ℕ → List (List ℕ) → Bool
any_of w [] = false
any_of w (x ∷ xs) = pick (same_text w x) true (any_of w xs)

-- a dimension with one of the units; or a number that is zero
unfoldable pub height_of : List Token → Found Bool
height_of (dimension n u ∷ []) = pick (any_of u units) (found (number_zero n)) missing
height_of (number n ∷ []) = pick (number_zero n) (found true) missing
height_of _ = missing

-- ---- words

-- the first name of a value that a table has
unfoldable pub first_word : {A : Type 0} → List (Entry A) → List Token → Found A
first_word table [] = missing
first_word table (ident b ∷ ks) = let more = first_word table ks in on_found (lookup b table) (λ a. found a) more
first_word table (_ ∷ ks) = first_word table ks

abbrev pub overflows : List (Entry Overflow)
overflows =
    record { word = text "visible"; means = visible } ∷ record { word = text "hidden"; means = hidden }
    ∷ record { word = text "scroll"; means = scroll } ∷ record { word = text "auto"; means = auto } ∷ []

unfoldable pub overflow_of : List Token → Found Overflow
overflow_of ks = first_word overflows ks

abbrev pub displays : List (Entry Bool)
displays = record { word = text "none"; means = true } ∷ []

unfoldable pub display_of : List Token → Bool
display_of ks = on_found (first_word displays ks) (λ a. a) false

abbrev pub white_spaces : List (Entry WhiteSpace)
white_spaces =
    record { word = text "normal"; means = normal } ∷ record { word = text "pre"; means = pre } ∷ record { word = text "pre-wrap"; means = pre_wrap } ∷ []

unfoldable pub white_space_of : List Token → WhiteSpace
white_space_of ks = on_found (first_word white_spaces ks) (λ a. a) normal

-- ---- visibility: exactly one word (S-9: "any other word, or more than that one word, being unknown")
-- whether it is hidden
abbrev pub visibilities : List (Entry Bool)
visibilities = record { word = text "visible"; means = false } ∷ record { word = text "hidden"; means = true } ∷ []

unfoldable pub visibility_of : List Token → Found Bool
visibility_of (ident b ∷ []) = lookup b visibilities
visibility_of _ = missing

-- either word alone; another word, two words, a string, a comma behind it, nothing
case-visibility :
    (visibility_of (ident (text "visible") ∷ []) ≡ found false)
    × (visibility_of (ident (text "hidden") ∷ []) ≡ found true)
    × (visibility_of (ident (text "collapse") ∷ []) ≡ missing)
    × (visibility_of (ident (text "hidden") ∷ ident (text "visible") ∷ []) ≡ missing)
    × (visibility_of (string (text "hidden") ∷ []) ≡ missing)
    × (visibility_of (ident (text "hidden") ∷ comma ∷ []) ≡ missing)
    × (visibility_of [] ≡ missing)
unfolding visibility_of lookup same_text text utf8 continuation pick and is
case-visibility = (refl, refl, refl, refl, refl, refl, refl)

-- strings, joined; nothing else
unfoldable pub content_of : List Token → Found (List ℕ)
content_of [] = found []
content_of (string b ∷ ks) = on_found (content_of ks) (λ c. found (b ++ c)) missing
content_of _ = missing

-- ---- properties, in the crate's order, behind them `visibility`, and how each reads a value; its name is kept where the value does not read
abbrev pub properties : List (Entry (List ℕ → List Token → Decl))
properties =
    record { word = text "background-color"; means = λ name ks. on_found (colour_of ks) background_color (unknown name) }
    ∷ record { word = text "background"; means = λ name ks. on_found (background_of ks) background_color (unknown name) }
    ∷ record { word = text "color"; means = λ name ks. on_found (colour_of ks) color (unknown name) }
    ∷ record { word = text "height"; means = λ name ks. on_found (height_of ks) height (unknown name) }
    ∷ record { word = text "max-height"; means = λ name ks. on_found (height_of ks) max_height (unknown name) }
    ∷ record { word = text "overflow"; means = λ name ks. on_found (overflow_of ks) overflow (unknown name) }
    ∷ record { word = text "overflow-y"; means = λ name ks. on_found (overflow_of ks) overflow_y (unknown name) }
    ∷ record { word = text "display"; means = λ name ks. display (display_of ks) }
    ∷ record { word = text "white-space"; means = λ name ks. white_space (white_space_of ks) }
    ∷ record { word = text "content"; means = λ name ks. on_found (content_of ks) content (unknown name) }
    ∷ record { word = text "visibility"; means = λ name ks. on_found (visibility_of ks) visibility (unknown name) }
    ∷ []

-- the declaration of a property with a value
unfoldable pub decl_of : List ℕ → List Token → Decl
decl_of name ks = on_found (lookup name properties) (λ read. read name ks) (unknown name)
