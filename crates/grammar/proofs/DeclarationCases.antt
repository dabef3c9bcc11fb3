-- Declarations and groups of selectors as derivations of the grammar: their texts, and what they mean, computed.
use mathlib.Core.Path.{◌≡◌, refl}
use mathlib.Core.Bool.{true, false}
use mathlib.Core.List.{[], ◌∷◌, ◌++◌}
use native.Mathlib.Omega.{arith}
use lib.ListN.{replicate}
use Prim.Native.Char.{code as ascii}
use Rattle.combinators.specs.Repeat.{many, took}
use Rattle.combinators.specs.Choice.{pick, or, and, is, within}
use Rattle.combinators.specs.Word.{starts_with, same_text}
use Rattle.decimal.specs.Decimal as decimal
use Rattle.characters.specs.Literal.{text}
use Rattle.characters.specs.Utf8.{utf8, continuation}
use Rattle.lexer.specs.Name.{is_hex_digit, hex_digit, lower}
use Rattle.lexer.specs.Number.{is_digit, one_digit, digits, sign}
use Rattle.lexer.specs.Token as tokens
use Rattle.lexer.specs.Token.{is_quote}
use Rattle.lexer.specs.Whitespace.{is_whitespace, comment_of, whitespace_item, skip_whitespace}
use Rattle.lexer.proofs.SyntaxName.{more, letter, ident_start, ident_code_point}
use Rattle.lexer.proofs.SyntaxName as each
use Rattle.lexer.proofs.SyntaxString.{ordinary, plain}
use Rattle.syntax.specs.Declaration as syntax
use Rattle.syntax.specs.Selector as pseudo
use Rattle.values.specs.Colour.{rgb, numeral, all_of}
use Rattle.values.specs.Property.{unsigned_zero, number_zero, any_of, height_of, first_word, overflow_of, display_of, white_space_of, visibility_of, decl_of}
use Rattle.values.specs.Words.{lookup, on_found}
use Rattle.selectors.specs.Selector.{pseudo_of}
use Rattle.grammar.specs.Nth.{unsigned, plus, minus, written_sign, negative, worth}
use Rattle.grammar.specs.Selectors.{Quoted, byte, escaped, unprocessed, typed, universal, one, written_simples, written_compound, written, means_compound, in_order, Agrees, written_pseudo, Tight, Group, several, written_chosen, written_group, means_chosen, means_group}
use Rattle.grammar.specs.Selectors as selectors
use Rattle.grammar.specs.Tokens.{Numeral, folded, is_exponent, written_stop, written_numeral, written_atom, written_opening, closer}
use Rattle.grammar.specs.Values.{written_values}
use Rattle.grammar.specs.Declarations.{named, three, shade, parts, is_zero, measured, bare, last, color, background, height, max_height, content, Declared, known, known_name, property, shade_values, part_values, colour_values, length_values, string_values, known_values, written_value, pair, means_shade, means_colour, means_length, means_strings, means_known, means_declared}
use Rattle.grammar.specs.Declarations as declarations
use Rattle.grammar.proofs.Spelling.{is_spelt, ident, spelt, hashed, quoted}
use Rattle.grammar.proofs.GrammarCases.{nothing, blank}

-- `Color: #0F0`, three digits and letters of either case: green
unfoldable green : Declared
unfolding is_spelt all_of ident hashed folded lower is_hex_digit ident_start ident_code_point letter known_name text utf8 pick or and is within
green =
    known (ident (text "Color") refl) blank
    (color (shade (three (hashed (text "0F0") refl (omega arith)) (ascii "0") (ascii "F") (ascii "0") refl refl))) refl

-- its property and value are written so, and it declares the colour 0, 255, 0
test-green : ((property green).bytes ≡ text "Color") × (written_value green ≡ text " #0F0") × (means_declared green ≡ syntax.color (rgb 0 255 0))
unfolding green property ident written_value known_values colour_values shade_values hashed written_values written_atom means_declared means_known means_colour means_shade pair hex_digit text utf8 continuation pick and within
test-green = (refl, refl, refl)

-- `background:Orange`, a colour by its name in letters of either case
unfoldable orange : Declared
unfolding is_spelt all_of ident folded lower ident_start ident_code_point letter known_name lookup same_text text utf8 continuation pick or and is within
orange = known (ident (text "background") refl) nothing (background (named (record { name = ident (text "Orange") refl; means = rgb 255 165 0; listed = refl }))) refl

-- its value is written so, and it declares the background 255, 165, 0
test-orange : (written_value orange ≡ text "Orange") × (means_declared orange ≡ syntax.background_color (rgb 255 165 0))
unfolding orange ident written_value known_values shade_values written_values written_atom means_declared means_known means_shade text utf8 continuation pick
test-orange = (refl, refl)

-- `color:RGB( 7,+20 ,255)`, three numbers with white space and a sign
unfoldable seven : Numeral
unfolding is_digit and within text utf8 pick
seven = record { sign = unsigned; fraction = false; digits = text "7"; are = more refl each.none; some = omega arith }

unfoldable twenty : Numeral
unfolding is_digit and within text utf8 pick
twenty = record { sign = plus; fraction = false; digits = text "20"; are = more refl (more refl each.none); some = omega arith }

unfoldable full : Numeral
unfolding is_digit and within text utf8 pick
full = record { sign = unsigned; fraction = false; digits = text "255"; are = more refl (more refl (more refl each.none)); some = omega arith }

unfoldable mixed : Declared
unfolding seven twenty full negative worth numeral is_spelt all_of ident folded lower ident_start ident_code_point letter known_name text utf8 pick or and is within
mixed =
    known (ident (text "color") refl) nothing (color (parts (ident (text "RGB") refl) refl
    (record { before = blank; numeral = seven; whole = refl; positive = refl; byte = omega arith; behind = nothing })
    (record { before = nothing; numeral = twenty; whole = refl; positive = refl; byte = omega arith; behind = blank })
    (record { before = nothing; numeral = full; whole = refl; positive = refl; byte = omega arith; behind = nothing }))) refl

-- its value is written so, and it declares the colour 7, 20, 255
test-mixed : (written_value mixed ≡ text "RGB( 7,+20 ,255)") × (means_declared mixed ≡ syntax.color (rgb 7 20 255))
unfolding mixed seven twenty full ident written_value known_values colour_values part_values written_values written_atom written_numeral written_sign written_stop written_opening closer means_declared means_known means_colour worth numeral text utf8 continuation pick
test-mixed = (refl, refl)

-- `height:.05EM`, `max-height:-0`: a length that is not zero, and one that is
unfoldable tiny : Declared
unfolding is_digit is_spelt all_of ident folded lower ident_start ident_code_point letter known_name is_exponent starts_with is_zero negative any_of same_text text utf8 continuation pick or and is within
tiny =
    known (ident (text "height") refl) nothing (height (measured (record {
      numeral = record { sign = unsigned; fraction = true; digits = text "05"; are = more refl (more refl each.none); some = omega arith };
      unit = record { name = ident (text "EM") refl; no-exponent = refl };
      listed = refl;
      not_negative = refl;
      exact = refl;
    }))) refl

unfoldable nil : Declared
unfolding is_digit is_zero is_spelt all_of ident folded lower ident_start ident_code_point letter known_name text utf8 continuation pick or and is within
nil = known (ident (text "max-height") refl) nothing (max_height (bare (record { sign = minus; fraction = false; digits = text "0"; are = more refl each.none; some = omega arith }) refl)) refl

-- both values are written so: the first declares a height other than zero, the second a maximal height of zero
test-lengths : (written_value tiny ≡ text ".05EM") × (means_declared tiny ≡ syntax.height false)
    × (written_value nil ≡ text "-0") × (means_declared nil ≡ syntax.max_height true)
unfolding tiny nil ident written_value known_values length_values written_values written_atom written_numeral written_sign written_stop means_declared means_known means_length is_zero all_of text utf8 continuation pick and is
test-lengths = (refl, refl, refl, refl)

-- `content:"a\"" 'b'`: an escaped quote
unfoldable doubled : Quoted
unfolding is_quote ordinary is_hex_digit unprocessed text utf8 continuation pick or and within is
doubled =
    record {
      quote = ascii "\"";
      bytes = text "a\\\"";
      body = text "a\"";
      quotes = refl;
      stands = byte refl (escaped refl refl selectors.nothing);
      unchanged = more refl (more refl (more refl each.none));
    }

unfoldable single : Quoted
unfolding is_quote plain ordinary unprocessed all_of text utf8 continuation pick or and is
single = quoted (ascii "'") (text "b") refl refl refl

unfoldable said : Declared
unfolding is_spelt all_of ident folded lower ident_start ident_code_point letter known_name text utf8 pick or and is within
said = known (ident (text "content") refl) nothing (content (declarations.more doubled blank (last single))) refl

-- its value is written so, and it declares the content `a"b`
test-said : (written_value said ≡ text "\"a\\\"\" 'b'") × (means_declared said ≡ syntax.content (text "a\"b"))
unfolding said doubled single quoted ident written_value known_values string_values written_values written_atom means_declared means_known means_strings text utf8 continuation pick
test-said = (refl, refl)

-- ---- `a::before,*::after `: white space may stand behind the last pseudo element
unfoldable group : Group
unfolding Tight Agrees is_spelt all_of spelt lower ident_start ident_code_point letter pick or and is within text utf8
group =
    several (record { selector = one (typed (spelt (text "a") refl refl) []); agrees = tt; pseudo = pseudo.before; gap = nothing }) refl nothing
    (selectors.last (record { selector = one (universal []); agrees = tt; pseudo = pseudo.after; gap = blank }))

-- the group is written so, and means an element with `::before` and star with `::after`
test-group : (written_group group ≡ text "a::before,*::after ")
    × (means_group group
    ≡ record { components = pseudo.element (text "a") ∷ []; pseudo = pseudo.before } ∷ record { components = pseudo.star ∷ []; pseudo = pseudo.after } ∷ [])
unfolding group spelt written_group written_chosen written_pseudo written written_compound written_simples means_group means_chosen in_order means_compound text utf8 continuation pick
test-group = (refl, refl)

-- ---- what the grammar leaves out, since the engine takes it otherwise than the documents
-- `display:inherit`, `display:x`, `white-space:inherit` are other than none, and normal; `overflow:inherit`, `overflow-y:clip`, `visibility:collapse` are unknown
test-keywords : (decl_of (text "display") (tokens.ident (text "inherit") ∷ []) ≡ syntax.display false) × (decl_of (text "display") (tokens.ident (text "x") ∷ []) ≡ syntax.display false)
    × (decl_of (text "white-space") (tokens.ident (text "inherit") ∷ []) ≡ syntax.white_space syntax.normal)
    × (decl_of (text "overflow") (tokens.ident (text "inherit") ∷ []) ≡ syntax.unknown (text "overflow"))
    × (decl_of (text "overflow-y") (tokens.ident (text "clip") ∷ []) ≡ syntax.unknown (text "overflow-y"))
    × (decl_of (text "visibility") (tokens.ident (text "collapse") ∷ []) ≡ syntax.unknown (text "visibility"))
unfolding decl_of display_of white_space_of overflow_of visibility_of first_word lookup on_found same_text text utf8 continuation pick and is
test-keywords = (refl, refl, refl, refl, refl, refl)

-- a full stop, 45 zeros and `7px` is a height of zero, one zero less is not
test-finest : (decl_of (text "height") (tokens.dimension (ascii "." ∷ (replicate 45 (ascii "0") ++ text "7")) (text "px") ∷ []) ≡ syntax.height true)
    × (decl_of (text "height") (tokens.dimension (ascii "." ∷ (replicate 44 (ascii "0") ++ text "7")) (text "px") ∷ []) ≡ syntax.height false)
unfolding decl_of height_of any_of number_zero unsigned_zero skip_whitespace whitespace_item is_whitespace comment_of digits sign one_digit is_digit many took decimal.rounds_to_zero decimal.numerator decimal.denominator decimal.number decimal.digits decimal.digit lookup on_found same_text text utf8 continuation pick or and is within
test-finest = (refl, refl)

-- `::BEFORE` and `::first-line` are no pseudo elements
test-pseudo : (pseudo_of (text "::BEFORE{") ≡ pseudo.none) × (pseudo_of (text "::first-line{") ≡ pseudo.none)
unfolding pseudo_of starts_with text utf8 continuation pick and is
test-pseudo = (refl, refl)
