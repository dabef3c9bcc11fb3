-- A selector that the grammar has, read by its law.
use mathlib.Core.Path.{◌≡◌, refl}
use mathlib.Core.Bool.{false}
use mathlib.Core.List.{[], ◌∷◌}
use native.Mathlib.Omega.{arith}
use lib.IntN.{pos, negsuc}
use Prim.Native.Char.{code as ascii}
use Rattle.combinators.specs.Choice.{pick, or, and, is, within}
use Rattle.characters.specs.Literal.{text}
use Rattle.characters.specs.Utf8.{utf8, continuation}
use Rattle.lexer.specs.Name.{lower}
use Rattle.lexer.specs.Number.{is_digit}
use Rattle.lexer.proofs.SyntaxName.{started, more, ident_start, letter}
use Rattle.lexer.proofs.SyntaxName as each
use Rattle.lexer.proofs.SyntaxWhitespace.{blank-space, white}
use Rattle.lexer.proofs.SyntaxWhitespace as blanks
use Rattle.values.specs.Colour.{numeral}
use Rattle.syntax.specs.Selector as syntax
use Rattle.selectors.specs.Outcome.{reads}
use Rattle.selectors.specs.Selector.{signed, selector_of}
use Rattle.grammar.specs.Nth.{Blanks, minus, Count, sum, worth, written_sign, sign_byte, written_argument, negative, means_argument}
use Rattle.grammar.specs.Selectors.{Name, class, attribute_is, nth_child, typed, untyped, child, descendant, Complex, one, joined, written_simple, written_simples, written_compound, written_combinator, written, means_simple, means_compound, means_combinator, in_order, meaning, NoStarAtEnd, NoStarAtStart, first_compound, Agrees}
use Rattle.grammar.proofs.SelectorsRead.{block, selector-read}

-- ---- parts
-- nothing, and one blank
abbrev pub nothing : Blanks
nothing = record { bytes = []; blank = blanks.none }

abbrev pub blank : Blanks
blank = record { bytes = ascii " " ∷ []; blank = white (ascii " ") [] blank-space blanks.none }

-- the names `a` and `b`
unfoldable a : Name
unfolding ident_start letter or and within is lower pick text utf8
a = record { bytes = text "a"; sequence = started refl each.none; small = refl }

unfoldable b : Name
unfolding ident_start letter or and within is lower pick text utf8
b = record { bytes = text "b"; sequence = started refl each.none; small = refl }

-- the digits `2` and `3`
unfoldable pub two : Count
unfolding is_digit and within worth numeral text utf8 pick
two = record { bytes = text "2"; digits = more refl each.none; fits = omega arith }

unfoldable three : Count
unfolding is_digit and within worth numeral text utf8 pick
three = record { bytes = text "3"; digits = more refl each.none; fits = omega arith }

-- ---- `a.b>[a=b] b:nth-child(-2n +3)`, before a block
unfoldable selector : Complex
unfolding three text utf8 pick
selector =
    joined (typed a (class b ∷ [])) (child nothing nothing)
    (joined (untyped (attribute_is a b) []) (descendant (record { space = ascii " "; white = blank-space; more = nothing }))
    (one (typed b (nth_child nothing (sum minus two blank false (record { count = three; some = omega arith })) nothing ∷ []))))

-- it is read up to the block, as seven components from the right: nth and b, descendant, the attribute, child, class and a
test-selector : selector_of (text "a.b>[a=b] b:nth-child(-2n +3){")
    ≡ reads 29
    (record {
      components =
          syntax.nth (negsuc 1) (pos 3) ∷ syntax.element (text "b") ∷ syntax.descendant ∷ syntax.attribute_equal (text "a") (text "b") ∷ syntax.child
          ∷ syntax.class (text "b") ∷ syntax.element (text "a") ∷ [];
      pseudo = syntax.none;
    })
unfolding selector a b two three written written_compound written_simples written_simple written_combinator written_argument written_sign sign_byte meaning in_order means_compound means_simple means_combinator means_argument negative worth numeral signed Agrees NoStarAtEnd NoStarAtStart first_compound text utf8 continuation pick
test-selector = selector-read selector [] (ascii "{" ∷ []) (tt, tt, tt) blanks.none (block [])
