-- A sheet and a value as derivations of the grammar: their texts, and what the reader makes of them by the laws for all sheets and values.
use mathlib.Core.Path.{◌≡◌, refl, ap, sym, ◌∙◌}
use mathlib.Core.Bool.{Bool, true, false, not}
use mathlib.Core.List.{List, [], ◌∷◌, ◌++◌}
use Prim.Native.Nat.{ℕ}
use native.Mathlib.Omega.{arith}
use lib.IntN.{pos}
use Prim.Native.Char.{code as ascii}
use Rattle.combinators.specs.Choice.{pick, or, and, is, within}
use Rattle.combinators.specs.Word.{starts_with, same_text}
use Rattle.combinators.specs.All.{member}
use Rattle.combinators.proofs.Rules.{never, and-true}
use Rattle.characters.specs.Literal.{text}
use Rattle.characters.specs.Utf8.{utf8, continuation}
use Rattle.lexer.specs.Name.{is_hex_digit, hex_digit, lower}
use Rattle.lexer.specs.Number.{is_digit}
use Rattle.lexer.specs.Token as tokens
use Rattle.lexer.specs.Token.{is_quote}
use Rattle.lexer.proofs.SyntaxName.{more, ident_start, ident_code_point, letter}
use Rattle.lexer.proofs.SyntaxName as each
use Rattle.lexer.proofs.SyntaxString.{ordinary, plain}
use Rattle.lexer.proofs.SyntaxWhitespace.{newline, line-feed, blank-space, closed, white, comment}
use Rattle.lexer.proofs.SyntaxWhitespace as blanks
use Rattle.syntax.specs.Declaration as means
use Rattle.syntax.specs.Selector as syntax
use Rattle.values.specs.Colour.{rgb, numeral, all_of}
use Rattle.values.specs.Property.{any_of}
use Rattle.values.specs.Words.{lookup}
use Rattle.selectors.specs.Outcome.{reads}
use Rattle.selectors.specs.Selector.{signed}
use Rattle.sheets.specs.Sheet.{sheet_of}
use Rattle.grammar.specs.Nth.{Blanks, unsigned, Count, sum, written_sign, sign_byte, written_argument, negative, worth, means_argument}
use Rattle.grammar.specs.Selectors.{Quoted, unprocessed, class, nth_child, typed, child, one, joined, written_simple, written_simples, written_compound, written_combinator, written, means_simple, means_compound, means_combinator, in_order, Agrees, written_pseudo, Tight, last, several, written_chosen, written_group, means_chosen, means_group}
use Rattle.grammar.specs.Tokens.{string, semicolon, function, square, means_atom, means_opening, means_closer, written_stop, written_numeral, written_atom, written_opening, closer, ends_name, may_follow, folded}
use Rattle.grammar.specs.Values.{Values, end, then, block, written_values, means_values, is_brace, Follows, Apart, Outermost, normal, important, written_importance, is_marked}
use Rattle.grammar.specs.Declarations.{named, three, shade, is_zero, bare, color, background_color, height, display, content, Declared, known, other, known_name, property, shade_values, colour_values, length_values, string_values, known_values, written_value, pair, means_shade, means_colour, means_length, means_strings, means_known, means_declared}
use Rattle.grammar.specs.Balanced as balanced
use Rattle.grammar.specs.Declarations as declarations
use Rattle.grammar.specs.Sheets.{Item, filled, Rule, braces, AtRule, rule, at_rule, Sheet, written_item, written_next, written_nexts, written_shut, written_end, written_block, written_rule, written_at_end, written_at, written_statement, written_statements, written_sheet, means_item, means_nexts, means_block, means_rule, means_statements, means_sheet, unread_behind, unread}
use Rattle.grammar.specs.Sheets as sheets
use Rattle.grammar.proofs.Spelling.{is_spelt, ident, spelt, hashed, quoted}
use Rattle.grammar.proofs.ValuesRead.{before-semicolon, Stated, value-ends}
use Rattle.grammar.proofs.SheetsRead.{sheet-whole}
use Rattle.grammar.proofs.GrammarCases.{nothing, blank, two}

-- ---- white space and a comment
abbrev line : Blanks
line = record { bytes = ascii "\n" ∷ []; blank = white (ascii "\n") [] (newline line-feed) blanks.none }

-- a new line with two blanks
abbrev indent : Blanks
indent =
    record {
      bytes = ascii "\n" ∷ ascii " " ∷ ascii " " ∷ [];
      blank = white (ascii "\n") _ (newline line-feed) (white (ascii " ") _ blank-space (white (ascii " ") [] blank-space blanks.none));
    }

-- no end of a comment stands where no asterisk does
unfoldable starless : ℕ → Bool
starless x = not (is x (ascii "*"))

-- a text without an asterisk has no end of a comment in it
starless-end : (p q : List ℕ) → all_of starless (p ++ (ascii "*" ∷ ascii "/" ∷ q)) ≡ true → ⊥
unfolding all_of
starless-end [] q e = unfold starless and is in never e
starless-end (x ∷ p) q e = starless-end p q (and-true (starless x) (all_of starless (p ++ (ascii "*" ∷ ascii "/" ∷ q))) e).1

-- a new line, `/* page */` and a new line
unfoldable remark : Blanks
unfolding all_of starless and is text utf8 pick
remark =
    record {
      bytes = text "\n/* page */\n";
      blank = white (ascii "\n") _ (newline line-feed) (comment (text "/* page */") (text "\n") (closed (text " page ") (λ p q e. starless-end p q (sym (ap (all_of starless) e)))) line.blank);
    }

-- ---- texts in which brackets match
-- plain characters before a text
unfoldable plains : (w : List ℕ) → all_of balanced.is_plain w ≡ true → balanced.Balanced → balanced.Balanced
unfolding all_of
plains [] e v = v
plains (x ∷ w) e v = let p = and-true (balanced.is_plain x) (all_of balanced.is_plain w) e in balanced.plain x p.0 (plains w p.1 v)

-- a blank before a text
abbrev spaced : balanced.Balanced → balanced.Balanced
spaced v = balanced.space (ascii " ") blank-space v

-- ---- `@charset "utf-8";`, an at-rule that ends with a semicolon
unfoldable encoding : Quoted
unfolding is_quote plain ordinary unprocessed all_of text utf8 continuation pick or and is
encoding = quoted (ascii "\"") (text "utf-8") refl refl refl

unfoldable charset : AtRule
unfolding balanced.Clear balanced.Outside balanced.More balanced.Tight balanced.written_balanced ends_name ident_code_point ident_start letter is_spelt all_of spelt pick or and is within text utf8 ident folded lower
charset =
    record {
      name = ident (text "charset") refl;
      prelude = spaced (balanced.quoted encoding balanced.end);
      ends = refl;
      clear = tt;
      outside = tt;
      tight = (tt, tt);
      gap = nothing;
      end = sheets.semicolon;
      behind = remark;
    }

-- ---- `body { color: #333; background-color: white }`
unfoldable dark : Declared
unfolding is_spelt all_of ident hashed folded lower is_hex_digit ident_start ident_code_point letter known_name text utf8 pick or and is within
dark = known (ident (text "color") refl) blank (color (shade (three (hashed (text "333") refl (omega arith)) 0x33 0x33 0x33 refl refl))) refl

unfoldable bright : Declared
unfolding is_spelt all_of spelt lookup same_text text utf8 continuation pick or and is within ident folded lower ident_start ident_code_point letter known_name
bright = known (ident (text "background-color") refl) blank (background_color (shade (named (record { name = ident (text "white") refl; means = rgb 255 255 255; listed = refl })))) refl

-- a declaration without a mark
abbrev item : Declared → Item
item d = record { declared = d; before_colon = nothing; importance = normal }

unfoldable body : Rule
unfolding Agrees is_spelt all_of spelt pick or and is within text utf8 ident folded lower ident_start ident_code_point letter known_name
body =
    record {
      selectors = last (record { selector = one (typed (spelt (text "body") refl refl) []); agrees = tt; pseudo = syntax.none; gap = blank });
      block = filled blank (item dark) (record { lead = blank; item = item bright } ∷ []) (record { gap = blank; shut = sheets.closed });
      behind = line;
    }

-- ---- `nav, a::before { display: none !important; }`
unfoldable hidden : Declared
unfolding is_spelt all_of spelt lookup same_text text utf8 continuation pick or and is within ident folded lower ident_start ident_code_point letter known_name
hidden = known (ident (text "display") refl) blank (display (record { name = ident (text "none") refl; means = true; listed = refl })) refl

unfoldable away : Rule
unfolding Agrees Tight is_spelt all_of spelt pick or and is within text utf8 ident folded lower ident_start ident_code_point letter known_name
away =
    record {
      selectors =
          several (record { selector = one (typed (spelt (text "nav") refl refl) []); agrees = tt; pseudo = syntax.none; gap = nothing }) tt blank
          (last (record { selector = one (typed (spelt (text "a") refl refl) []); agrees = tt; pseudo = syntax.before; gap = blank }));
      block = filled blank (record { declared = hidden; before_colon = nothing; importance = important blank nothing (ident (text "important") refl) refl }) [] (record { gap = nothing; shut = sheets.parted blank });
      behind = line;
    }

-- ---- `@media print { nav > a { color: blue!important; } }`
unfoldable media : AtRule
unfolding plains balanced.is_plain balanced.is_mark same_text balanced.is_odd_url balanced.is_address balanced.Clear balanced.Outside balanced.More balanced.Tight balanced.written_balanced balanced.opens balanced.closes ends_name ident_code_point ident_start letter member starts_with is_spelt all_of spelt pick or and is within text utf8 ident folded lower
media =
    record {
      name = ident (text "media") refl;
      prelude = spaced (plains (text "print") refl balanced.end);
      ends = refl;
      clear = (refl, (refl, (refl, (refl, (refl, tt)))));
      outside = tt;
      tight = (tt, tt);
      gap = blank;
      end =
          braces
          (spaced (plains (text "nav") refl (spaced (plains (text ">") refl (spaced (plains (text "a") refl (spaced
          (balanced.block balanced.curly (spaced (plains (text "color:") refl (spaced (plains (text "blue") refl (balanced.bang (plains (text "important") refl (balanced.semicolon (spaced balanced.end)))))))) balanced.end))))))))
          (refl, (refl, (refl, (refl, (refl, ((refl, (refl, (refl, (refl, (refl, (refl, (refl, (refl, (refl, (refl, (refl, (refl, (refl, (refl, (refl, (refl, (refl, (refl, (refl, tt))))))))))))))))))), tt)))))) (tt, (tt, (tt, (tt, tt)))) blank;
      behind = line;
    }

-- ---- `p.note {`, `margin: 0 Auto calc(1.5em - 2px);`, `height: 0`, `}`
unfoldable margin : Declared
unfolding plains balanced.is_plain balanced.is_mark same_text balanced.is_odd_url balanced.is_address balanced.Clear balanced.Outside balanced.More balanced.Tight balanced.Calm balanced.written_balanced balanced.opens balanced.closes member starts_with any_of ident_code_point ident_start letter is_spelt all_of spelt pick or and is within text utf8 continuation ident folded lower
margin =
    other (ident (text "margin") refl) refl
    (spaced (plains (text "0") refl (spaced (plains (text "Auto") refl (spaced (plains (text "calc") refl
    (balanced.block balanced.round (plains (text "1.5em") refl (spaced (plains (text "-") refl (spaced (plains (text "2px") refl balanced.end))))) balanced.end)))))))
    (record { some = tt; clear = (refl, (refl, (refl, (refl, (refl, (refl, (refl, (refl, (refl, ((refl, (refl, (refl, (refl, (refl, (refl, (refl, (refl, (refl, tt))))))))), tt)))))))))); outside = tt; tight = (tt, (tt, (tt, tt))); calm = (tt, tt) })

unfoldable flat : Declared
unfolding is_digit is_zero all_of text utf8 continuation pick and is within is_spelt ident folded lower ident_start ident_code_point letter known_name or
flat = known (ident (text "height") refl) blank (height (bare (record { sign = unsigned; fraction = false; digits = text "0"; are = more refl each.none; some = omega arith }) refl)) refl

unfoldable note : Rule
unfolding Agrees is_spelt all_of spelt pick or and is within text utf8 ident folded lower ident_start ident_code_point letter known_name
note =
    record {
      selectors = last (record { selector = one (typed (spelt (text "p") refl refl) (class (spelt (text "note") refl refl) ∷ [])); agrees = tt; pseudo = syntax.none; gap = blank });
      block = filled indent (item margin) (record { lead = indent; item = item flat } ∷ []) (record { gap = line; shut = sheets.closed });
      behind = line;
    }

-- ---- `ul > li:nth-child(2n+1) { content: "* " }`
unfoldable odd : Count
unfolding is_digit and within worth numeral text utf8 pick
odd = record { bytes = text "1"; digits = more refl each.none; fits = omega arith }

unfoldable star : Quoted
unfolding is_quote plain ordinary unprocessed all_of text utf8 continuation pick or and is
star = quoted (ascii "\"") (text "* ") refl refl refl

unfoldable bullet : Declared
unfolding is_spelt all_of ident folded lower ident_start ident_code_point letter known_name text utf8 pick or and is within
bullet = known (ident (text "content") refl) blank (content (declarations.last star)) refl

unfoldable items : Rule
unfolding odd Agrees is_spelt all_of spelt pick or and is within text utf8 ident folded lower ident_start ident_code_point letter known_name
items =
    record {
      selectors =
          last (record {
            selector =
                joined (typed (spelt (text "ul") refl refl) []) (child blank blank)
                (one (typed (spelt (text "li") refl refl) (nth_child nothing (sum unsigned two nothing false (record { count = odd; some = omega arith })) nothing ∷ [])));
            agrees = tt;
            pseudo = syntax.none;
            gap = blank;
          });
      block = filled blank (item bullet) [] (record { gap = blank; shut = sheets.closed });
      behind = line;
    }

-- ---- all of it
unfoldable page : Sheet
page = record { lead = nothing; statements = at_rule charset ∷ rule body ∷ rule away ∷ at_rule media ∷ rule note ∷ rule items ∷ [] }

-- how it is written
unfoldable page_text : List ℕ
page_text =
    text "@charset \"utf-8\";\n/* page */\nbody { color: #333; background-color: white }\nnav, a::before { display: none !important; }\n@media print { nav > a { color: blue!important; } }\np.note {\n  margin: 0 Auto calc(1.5em - 2px);\n  height: 0\n}\nul > li:nth-child(2n+1) { content: \"* \" }\n"

-- the sheet is written as that text
test-text : written_sheet page ≡ page_text
unfolding page_text page charset encoding remark body dark bright away hidden media note margin plains flat items two odd star bullet ident spelt folded lower hashed written_sheet written_statements written_statement written_rule written_at written_at_end written_block written_end written_shut written_nexts written_next written_item written_importance written_group written_chosen written_pseudo written written_compound written_combinator written_simples written_simple written_argument written_sign sign_byte property known_name written_value balanced.written_balanced balanced.opens balanced.closes known_values colour_values shade_values length_values string_values written_values written_atom written_numeral written_stop written_opening closer text utf8 continuation pick quoted
test-text = refl

-- what it is read as
test-sheet : sheet_of page_text
    ≡ reads 273
    (record {
      selectors = record { components = syntax.element (text "body") ∷ []; pseudo = syntax.none } ∷ [];
      declarations =
          record { decl = means.color (rgb 0x33 0x33 0x33); important = false; start = 36 }
          ∷ record { decl = means.background_color (rgb 255 255 255); important = false; start = 49 } ∷ [];
      start = 29;
    }
    ∷ record {
      selectors =
          record { components = syntax.element (text "nav") ∷ []; pseudo = syntax.none } ∷ record { components = syntax.element (text "a") ∷ []; pseudo = syntax.before } ∷ [];
      declarations = record { decl = means.display true; important = true; start = 92 } ∷ [];
      start = 75;
    }
    ∷ record {
      selectors = record { components = syntax.class (text "note") ∷ syntax.element (text "p") ∷ []; pseudo = syntax.none } ∷ [];
      declarations =
          record { decl = means.unknown (text "margin"); important = false; start = 183 } ∷ record { decl = means.height true; important = false; start = 219 } ∷ [];
      start = 172;
    }
    ∷ record {
      selectors =
          record { components = syntax.nth (pos 2) (pos 1) ∷ syntax.element (text "li") ∷ syntax.child ∷ syntax.element (text "ul") ∷ []; pseudo = syntax.none } ∷ [];
      declarations = record { decl = means.content (text "* "); important = false; start = 257 } ∷ [];
      start = 231;
    }
    ∷ [])
unfolding page charset encoding remark body dark bright away hidden media note margin plains flat items two odd star bullet ident spelt folded lower hashed written_sheet written_statements written_statement written_rule written_at written_at_end written_block written_end written_shut written_nexts written_next written_item written_importance written_group written_chosen written_pseudo written written_compound written_combinator written_simples written_simple written_argument written_sign sign_byte property known_name written_value balanced.written_balanced balanced.opens balanced.closes known_values colour_values shade_values length_values string_values written_values written_atom written_numeral written_stop written_opening closer text utf8 continuation pick means_sheet means_statements means_rule means_block means_nexts means_item is_marked means_declared means_known means_colour means_shade pair hex_digit means_length means_strings means_group means_chosen in_order means_compound means_combinator means_simple means_argument negative worth numeral signed unread unread_behind and is within quoted
test-sheet = ap sheet_of (sym test-text) ∙ sheet-whole page refl

-- ---- `b("};"/*;}*/[;])` before ` ;c`: the marks in the string, in the comment and in the brackets do not end it
unfoldable marks : Quoted
unfolding is_quote plain ordinary unprocessed all_of text utf8 continuation pick or and is
marks = quoted (ascii "\"") (text "};") refl refl refl

unfoldable aside : Blanks
unfolding all_of starless and is text utf8 pick
aside =
    record {
      bytes = text "/*;}*/";
      blank = comment (text "/*;}*/") [] (closed (text ";}") (λ p q e. starless-end p q (sym (ap (all_of starless) e)))) blanks.none;
    }

unfoldable guarded : Values
unfolding same_text is_spelt all_of spelt pick or and is within text utf8 ident folded lower ident_start ident_code_point letter known_name
guarded = block nothing (function (ident (text "b") refl) refl) (then nothing (string marks) (block aside square (then nothing semicolon (end nothing)) (end nothing))) (end nothing)

-- read as a value, it ends before the white space at byte 16, with these six tokens
test-ends : Stated false (text "b(\"};\"/*;}*/[;]) ;c") 16
    (tokens.function (text "b") ∷ tokens.string (text "};") ∷ tokens.open_square ∷ tokens.semicolon ∷ tokens.close_square ∷ tokens.close_round ∷ [])
unfolding guarded marks aside ident spelt folded lower Follows Apart Outermost is_brace written_values means_values written_atom written_opening closer means_atom means_opening means_closer may_follow text utf8 pick quoted
test-ends = value-ends guarded (text " ;c") ((refl, ((tt, tt), tt)), tt) (refl, refl) (before-semicolon blank (text "c"))
