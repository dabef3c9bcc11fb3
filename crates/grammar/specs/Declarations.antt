-- Declarations in the words of CSS 2.1 (section 4.1.8, Declarations and properties): of each property that the engine knows the values that its
-- definition gives it, as far as the reader agrees with the document, and of any other property any value. What a declaration means is
-- written from the document's tables. Names, keywords, units and hexadecimal digits are in letters of either case. Sections are those of CSS 2.1
-- where no other document is named; they and what is quoted were not held against the documents' texts.
use Rattle.std.specs.Prelude.{◌≡◌, Bool, true, false, not, List, [], ◌∷◌, ◌++◌, ℕ, ◌+◌, ◌*◌, ◌≤◌, leb, length}
use Rattle.std.proofs.Common.{ap}
use Prim.Native.Char.{code as ascii}
use Rattle.combinators.specs.Choice.{pick, or, and, is}
use Rattle.combinators.specs.Word.{same_text}
use Rattle.characters.specs.Literal.{text}
use Rattle.characters.specs.Utf8.{utf8}
use Rattle.lexer.specs.Name.{is_hex_digit, hex_digit}
use Rattle.lexer.proofs.SyntaxWhitespace.{none}
use Rattle.syntax.specs.Declaration as syntax
use Rattle.syntax.specs.Declaration.{Colour, Overflow, WhiteSpace, Decl}
use Rattle.values.specs.Words.{Entry, found, lookup}
use Rattle.values.specs.Colour.{rgb, all_of}
use Rattle.values.specs.Property.{any_of}
use Rattle.grammar.specs.Nth.{Blanks, negative, worth}
use Rattle.grammar.specs.Selectors.{Quoted}
use Rattle.grammar.specs.Tokens.{Numeral, Ident, folded, Hashed, UnitName, Atom, word, string, hash, number, dimension, comma, function}
use Rattle.grammar.specs.Values.{Values, end, then, block, written_values}
use Rattle.grammar.specs.Balanced.{Balanced, written_balanced, AnyValue}

-- ---- keywords
-- a name that a table of the document has, and what it means there
pub record Keyword {A : Type 0} (table : List (Entry A)) : Type 0 where
  pub name : Ident
  pub means : A
  pub listed : lookup (folded name) table ≡ found means

-- ---- <color> (4.3.6)
-- the keywords and their values: `#800000` and so on in the document
abbrev pub colour_names : List (Entry Colour)
colour_names =
    record { word = text "maroon"; means = rgb 0x80 0x00 0x00 }
    ∷ record { word = text "red"; means = rgb 0xff 0x00 0x00 }
    ∷ record { word = text "orange"; means = rgb 0xff 0xa5 0x00 }
    ∷ record { word = text "yellow"; means = rgb 0xff 0xff 0x00 }
    ∷ record { word = text "olive"; means = rgb 0x80 0x80 0x00 }
    ∷ record { word = text "purple"; means = rgb 0x80 0x00 0x80 }
    ∷ record { word = text "fuchsia"; means = rgb 0xff 0x00 0xff }
    ∷ record { word = text "white"; means = rgb 0xff 0xff 0xff }
    ∷ record { word = text "lime"; means = rgb 0x00 0xff 0x00 }
    ∷ record { word = text "green"; means = rgb 0x00 0x80 0x00 }
    ∷ record { word = text "navy"; means = rgb 0x00 0x00 0x80 }
    ∷ record { word = text "blue"; means = rgb 0x00 0x00 0xff }
    ∷ record { word = text "aqua"; means = rgb 0x00 0xff 0xff }
    ∷ record { word = text "teal"; means = rgb 0x00 0x80 0x80 }
    ∷ record { word = text "black"; means = rgb 0x00 0x00 0x00 }
    ∷ record { word = text "silver"; means = rgb 0xc0 0xc0 0xc0 }
    ∷ record { word = text "gray"; means = rgb 0x80 0x80 0x80 }
    ∷ []

-- an integer from 0 to 255 with white space or none around it. What lies outside is clipped in the document, and refused by the reader.
pub record Part : Type 0 where
  pub before : Blanks
  pub numeral : Numeral
  pub whole : numeral.fraction ≡ false
  pub positive : negative numeral.sign ≡ false
  pub byte : worth numeral.digits ≤ 255
  pub behind : Blanks

-- a colour in one token: a keyword, `#rgb` or `#rrggbb`
pub data Shade : Type 0 where
  named : Keyword colour_names → Shade
  three : (h : Hashed) (a b c : ℕ) → h.bytes ≡ a ∷ b ∷ c ∷ [] → all_of is_hex_digit h.bytes ≡ true → Shade
  six : (h : Hashed) (a b c d e f : ℕ) → h.bytes ≡ a ∷ b ∷ c ∷ d ∷ e ∷ f ∷ [] → all_of is_hex_digit h.bytes ≡ true → Shade

-- or `rgb(` red `,` green `,` blue `)`
pub data ColourValue : Type 0 where
  shade : Shade → ColourValue
  parts : (n : Ident) → folded n ≡ text "rgb" → Part → Part → Part → ColourValue

-- ---- <length> (4.3.2)
-- the unit identifiers
abbrev pub length_units : List (List ℕ)
length_units = text "em" ∷ text "ex" ∷ text "in" ∷ text "cm" ∷ text "mm" ∷ text "pt" ∷ text "pc" ∷ text "px" ∷ []

-- the number is zero
unfoldable pub is_zero : Numeral → Bool
is_zero n = all_of (λ d. is d (ascii "0")) n.digits

-- so many digits behind a full stop are zero as an f32 only if they are zero
abbrev pub finest : ℕ
finest = 45

-- a number with a unit; `negative values are illegal' for heights (10.5, 10.7), and `-0 is not a negative number' (4.3.1)
pub record Measure : Type 0 where
  pub numeral : Numeral
  pub unit : UnitName
  pub listed : any_of (folded unit.name) length_units ≡ true
  pub not_negative : or (is_zero numeral) (not (negative numeral.sign)) ≡ true
  pub exact : or (is_zero numeral) (or (not numeral.fraction) (leb (length numeral.digits) finest)) ≡ true

-- or a zero alone: `after a zero length, the unit identifier is optional'
pub data Length : Type 0 where
  measured : Measure → Length
  bare : (n : Numeral) → is_zero n ≡ true → Length

-- ---- keywords of properties, without `inherit`
-- 11.1.1
abbrev pub overflow_words : List (Entry Overflow)
overflow_words =
    record { word = text "visible"; means = syntax.visible } ∷ record { word = text "hidden"; means = syntax.hidden }
    ∷ record { word = text "scroll"; means = syntax.scroll } ∷ record { word = text "auto"; means = syntax.auto } ∷ []

-- 9.2.4, by whether it is `none`
abbrev pub display_words : List (Entry Bool)
display_words =
    record { word = text "inline"; means = false }
    ∷ record { word = text "block"; means = false }
    ∷ record { word = text "list-item"; means = false }
    ∷ record { word = text "inline-block"; means = false }
    ∷ record { word = text "table"; means = false }
    ∷ record { word = text "inline-table"; means = false }
    ∷ record { word = text "table-row-group"; means = false }
    ∷ record { word = text "table-header-group"; means = false }
    ∷ record { word = text "table-footer-group"; means = false }
    ∷ record { word = text "table-row"; means = false }
    ∷ record { word = text "table-column-group"; means = false }
    ∷ record { word = text "table-column"; means = false }
    ∷ record { word = text "table-cell"; means = false }
    ∷ record { word = text "table-caption"; means = false }
    ∷ record { word = text "none"; means = true }
    ∷ []

-- 16.6; without `nowrap` and `pre-line`, which the engine does not tell from `normal`
abbrev pub white_space_words : List (Entry WhiteSpace)
white_space_words =
    record { word = text "normal"; means = syntax.normal } ∷ record { word = text "pre"; means = syntax.pre } ∷ record { word = text "pre-wrap"; means = syntax.pre_wrap } ∷ []

-- 11.2, by whether it is `hidden`; without `collapse`, which the engine does not know (S-9)
abbrev pub visibility_words : List (Entry Bool)
visibility_words = record { word = text "visible"; means = false } ∷ record { word = text "hidden"; means = true } ∷ []

-- strings one behind the other, with white space or none between them (12.2, of <string>+)
pub data Strings : Type 0 where
  last : Quoted → Strings
  more : Quoted → Blanks → Strings → Strings

-- ---- declarations
-- the properties that the engine knows: 14.1, 14.2.1 (of `background` a colour alone; in rgb() the reader looks behind the last comma), 10.5, 10.7,
-- 11.1.1, CSS Overflow Level 3 section 3.1 (`overflow-y`, without `clip`), 9.2.4, 16.6, 12.2, 11.2
pub data Known : Type 0 where
  color : ColourValue → Known
  background_color : ColourValue → Known
  background : Shade → Known
  height : Length → Known
  max_height : Length → Known
  overflow : Keyword overflow_words → Known
  overflow_y : Keyword overflow_words → Known
  display : Keyword display_words → Known
  white_space : Keyword white_space_words → Known
  content : Strings → Known
  visibility : Keyword visibility_words → Known

-- their names
unfoldable pub known_name : Known → List ℕ
known_name (color c) = text "color"
known_name (background_color c) = text "background-color"
known_name (background s) = text "background"
known_name (height l) = text "height"
known_name (max_height l) = text "max-height"
known_name (overflow k) = text "overflow"
known_name (overflow_y k) = text "overflow-y"
known_name (display k) = text "display"
known_name (white_space k) = text "white-space"
known_name (content s) = text "content"
known_name (visibility k) = text "visibility"

abbrev pub known_names : List (List ℕ)
known_names =
    text "background-color" ∷ text "background" ∷ text "color" ∷ text "height" ∷ text "max-height" ∷ text "overflow" ∷ text "overflow-y" ∷ text "display"
    ∷ text "white-space" ∷ text "content" ∷ text "visibility" ∷ []

-- a property and its value, with white space or none before it
pub data Declared : Type 0 where
  known : (n : Ident) (b : Blanks) (k : Known) → folded n ≡ known_name k → Declared
  other : (n : Ident) → any_of (folded n) known_names ≡ false → (v : Balanced) → AnyValue v → Declared

-- ---- how it is written: its name, and the tokens of its value
unfoldable pub property : Declared → Ident
property (known n b k h) = n
property (other n d v h) = n

-- a value ends without white space: what stands there belongs to what follows
abbrev pub nothing : Values
nothing = end (record { bytes = []; blank = none })

abbrev pub alone : Blanks → Atom → Values
alone b a = then b a nothing

unfoldable pub shade_values : Blanks → Shade → Values
shade_values b (named k) = alone b (word k.name)
shade_values b (three h x y z w d) = alone b (hash h)
shade_values b (six h p q x y z w e d) = alone b (hash h)

unfoldable pub part_values : Part → Values → Values
part_values p v = then p.before (number p.numeral) v

-- `rgb` is not `url`
pub rgb-opens : (n : Ident) → folded n ≡ text "rgb" → same_text (folded n) (text "url") ≡ false
unfolding same_text pick and is text utf8
rgb-opens n h = ap (λ (w : List ℕ). same_text w (text "url")) h

unfoldable pub colour_values : Blanks → ColourValue → Values
colour_values b (shade s) = shade_values b s
colour_values b (parts n h x y z) =
    block b (function n (rgb-opens n h))
    (part_values x (then x.behind comma (part_values y (then y.behind comma (part_values z (end z.behind))))))
    nothing

unfoldable pub length_values : Blanks → Length → Values
length_values b (measured m) = alone b (dimension m.numeral m.unit)
length_values b (bare n z) = alone b (number n)

unfoldable pub string_values : Blanks → Strings → Values
string_values b (last q) = alone b (string q)
string_values b (more q c s) = then b (string q) (string_values c s)

unfoldable pub known_values : Blanks → Known → Values
known_values b (color c) = colour_values b c
known_values b (background_color c) = colour_values b c
known_values b (background s) = shade_values b s
known_values b (height l) = length_values b l
known_values b (max_height l) = length_values b l
known_values b (overflow k) = alone b (word k.name)
known_values b (overflow_y k) = alone b (word k.name)
known_values b (display k) = alone b (word k.name)
known_values b (white_space k) = alone b (word k.name)
known_values b (content s) = string_values b s
known_values b (visibility k) = alone b (word k.name)

unfoldable pub written_value : Declared → List ℕ
written_value (known n b k h) = written_values (known_values b k)
written_value (other n d v h) = written_balanced v

-- ---- what it means
-- two digits, of one part of a colour
unfoldable pub pair : ℕ → ℕ → ℕ
pair x y = hex_digit x * 16 + hex_digit y

-- `the three-digit RGB notation is converted into six-digit form by replicating digits, not by adding zeros'
unfoldable pub means_shade : Shade → Colour
means_shade (named k) = k.means
means_shade (three h x y z w d) = rgb (pair x x) (pair y y) (pair z z)
means_shade (six h p q x y z w e d) = rgb (pair p q) (pair x y) (pair z w)

unfoldable pub means_colour : ColourValue → Colour
means_colour (shade s) = means_shade s
means_colour (parts n h x y z) = rgb (worth x.numeral.digits) (worth y.numeral.digits) (worth z.numeral.digits)

-- a height matters only as zero or not
unfoldable pub means_length : Length → Bool
means_length (measured m) = is_zero m.numeral
means_length (bare n z) = true

-- the strings, joined
unfoldable pub means_strings : Strings → List ℕ
means_strings (last q) = q.body
means_strings (more q b s) = q.body ++ means_strings s

unfoldable pub means_known : Known → Decl
means_known (color c) = syntax.color (means_colour c)
means_known (background_color c) = syntax.background_color (means_colour c)
means_known (background s) = syntax.background_color (means_shade s)
means_known (height l) = syntax.height (means_length l)
means_known (max_height l) = syntax.max_height (means_length l)
means_known (overflow k) = syntax.overflow k.means
means_known (overflow_y k) = syntax.overflow_y k.means
means_known (display k) = syntax.display k.means
means_known (white_space k) = syntax.white_space k.means
means_known (content s) = syntax.content (means_strings s)
means_known (visibility k) = syntax.visibility k.means

-- of any other property the engine keeps its name
unfoldable pub means_declared : Declared → Decl
means_declared (known n b k h) = means_known k
means_declared (other n d v h) = syntax.unknown (folded n)
