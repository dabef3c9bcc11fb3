-- `parse_color_attribute`: its colour, and what is left in the stores, from what its parts left.
use mathlib.Core.Path.{◌≡◌, sym, subst, ◌∙◌}
use mathlib.Core.Bool.{Bool, true, false}
use mathlib.Core.List.{List}
use Prim.Native.Nat.{ℕ, ◌-◌, ◌*◌, ◌^◌, ◌≤◌, ◌<◌}
use native.Mathlib.Omega.{arith}
use lib.ListN.{length}
use Rattle.combinators.specs.Choice.{pick}
use Rattle.combinators.specs.Parsed.{on_parsed}
use Rattle.combinators.specs.Store.{wiped}
use Rattle.combinators.proofs.Wiped.{wiped-over}
use Rattle.lexer.specs.TokenRow.{token_width}
use Rattle.syntax.specs.Declaration.{Colour}
use Rattle.values.specs.Words.{Found, found, missing, on_found}
use Rattle.values.specs.Value.{Statement, statement_of, tokens_of, marked, value_from, value_of}
use Rattle.values.specs.Layout.{texts_of, value_left, Room}
use Rattle.values.specs.View.{tokens_at}
use Rattle.values.specs.Colour.{colour_of}
use Rattle.values.specs.ColourAnswer.{colour_answer}
use Rattle.std.specs.Prelude.{Option, Some, None, Result, Ok, Err, MatchOption}
use Rattle.values.specs.declared.statements.Unbalanced.{Unbalanced}
use Rattle.values.specs.declared.statements.Value as value
use Rattle.declarations.specs.Attribute.{trimmed, faulty_colour, or_faulty, colour_attribute}
use Rattle.declarations.specs.Leaving.{colour_left}
use Rattle.declarations.proofs.Declaring as declaring

-- ---- a colour that was read stays; without one it is that of the text that lacks its `#`
or-else : (f : Found Colour) (s : List ℕ) (a r : Option ℕ) → a ≡ colour_answer f → MatchOption a (r ≡ colour_answer (faulty_colour (trimmed s))) (λ v. r ≡ Some v)
    → r ≡ colour_answer (or_faulty f s)
unfolding colour_answer or_faulty on_found
or-else (found c) s a r e m = subst (λ (o : Option ℕ). MatchOption o (r ≡ colour_answer (faulty_colour (trimmed s))) (λ v. r ≡ Some v)) e m
or-else missing s a r e m = subst (λ (o : Option ℕ). MatchOption o (r ≡ colour_answer (faulty_colour (trimmed s))) (λ v. r ≡ Some v)) e m

-- ---- the colour of an attribute, by its statement
module _ (s : List ℕ) where
  -- where a bracket is wrong, the attribute has no colour
  attribute-none : (statement_of false s).balanced ≡ false → colour_answer (colour_attribute s) ≡ None
  unfolding colour_attribute value_of value_from on_parsed pick colour_answer on_found
  attribute-none h = rw h

  -- of a text whose brackets close the colour is that of its tokens without the mark, or else that of a text that lacks its `#`
  attribute-some : (statement_of false s).balanced ≡ true → colour_attribute s ≡ or_faulty (colour_of (marked (tokens_of (statement_of false s).tokens)).tokens) s
  unfolding colour_attribute value_of value_from on_parsed pick
  attribute-some h = rw h

-- ---- what is left, from what `parse_value` left
module _ (s tokens brackets store : List ℕ) (fill : ℕ) (room : Room (length s) fill tokens brackets store) {a : Result value.Value Unbalanced} {x b z : List ℕ}
    (e : record { answer = a; rows = x; brackets = b; store = z } ≡ value_left (statement_of false s) tokens brackets store fill) where
  abbrev r : Statement
  r = statement_of false s

  module _ {k m : ℕ} (ek : k ≡ length r.tokens) (em : m ≡ length (texts_of r.tokens)) where
    -- wiping the texts that were written leaves the store wiped by the value's texts
    store-wiped : {z' : List ℕ} → z' ≡ wiped fill m z → z' ≡ wiped fill (length (texts_of r.tokens)) store
    store-wiped q = q ∙ rw (em, declaring.store_is s tokens brackets store fill e) (wiped-over store fill (length (texts_of r.tokens)) (texts_of r.tokens) (omega arith))

    -- the colour, and the stores wiped
    attribute-left : {c : Option ℕ} {x' b' z' : List ℕ} → c ≡ colour_answer (colour_attribute s) → x' ≡ wiped 0 (token_width * k) x → b' ≡ wiped 0 k b → z' ≡ wiped fill m z
        → record { answer = c; tokens = x'; brackets = b'; store = z' } ≡ colour_left s tokens brackets store fill
    unfolding colour_left
    attribute-left ec ex eb ez =
        rw (ec, declaring.tokens-wiped s tokens brackets store fill e ek ex, declaring.brackets-zero s tokens brackets store fill e ek eb, store-wiped ez)

  -- ---- a bracket is wrong
  module _ {u k m : ℕ} (ea : a ≡ Err (record { 0 = record { taken = u; count = k; text = m } })) where
    -- the answer tells how many tokens, and how many bytes of text, were used
    none_here : declaring.Unvalued r k m
    none_here = declaring.none_said s tokens brackets store fill e ea

    -- the length of the rows fits a word
    pub none-count : token_width * k < 2 ^ 64
    none-count = declaring.count_bits s tokens brackets store fill e none_here.count room

    -- without a value there is no colour, and what was used is zero again
    pub none_left : {x' b' z' : List ℕ} → x' ≡ wiped 0 (token_width * k) x → b' ≡ wiped 0 k b → z' ≡ wiped fill m z
        → record { answer = None; tokens = x'; brackets = b'; store = z' } ≡ colour_left s tokens brackets store fill
    none_left ex eb ez = attribute-left none_here.count none_here.text (sym (attribute-none s none_here.balanced)) ex eb ez

  -- ---- a value was read: its colour is looked for
  module _ {t k m : ℕ} {i : Bool} (ea : a ≡ Ok (record { statement = record { taken = t; count = k; text = m }; important = i })) where
    -- the answer tells the bytes taken, how many tokens and bytes of text there are, and the mark
    some-here : declaring.Valued r t k m i
    some-here = declaring.some-said s tokens brackets store fill e ea

    -- the length of the rows fits a word
    pub some-count : token_width * k < 2 ^ 64
    some-count = declaring.count_bits s tokens brackets store fill e some-here.count room

    module _ {j : ℕ} (ej : j ≡ pick i (k - 2) k) where
      -- the rows hold the tokens without the mark
      pub some-counted : token_width * j ≤ length x
      some-counted = declaring.left-counted s tokens brackets store fill e some-here.count room some-here.important ej

      -- the rows without the mark read back as the tokens of the value
      tokens-read : tokens_at x z j ≡ (marked (tokens_of r.tokens)).tokens
      tokens-read = declaring.tokens-left s tokens brackets store fill e some-here.count room some-here.important ej

      -- so the colour read from them, or else from the text, is the attribute's
      colour-is : {g c : Option ℕ} → g ≡ colour_answer (colour_of (tokens_at x z j)) → MatchOption g (c ≡ colour_answer (faulty_colour (trimmed s))) (λ v. c ≡ Some v) → c ≡ colour_answer (colour_attribute s)
      colour-is {g} {c} eg ec = rw (attribute-some s some-here.balanced) (or-else (colour_of (marked (tokens_of r.tokens)).tokens) s g c (rw tokens-read at eg) ec)

      -- that colour, and the stores wiped
      pub some_left : {g c : Option ℕ} {x' b' z' : List ℕ} → g ≡ colour_answer (colour_of (tokens_at x z j)) → MatchOption g (c ≡ colour_answer (faulty_colour (trimmed s))) (λ v. c ≡ Some v) → x' ≡ wiped 0 (token_width * k) x
          → b' ≡ wiped 0 k b → z' ≡ wiped fill m z → record { answer = c; tokens = x'; brackets = b'; store = z' } ≡ colour_left s tokens brackets store fill
      some_left eg ec ex eb ez = attribute-left some-here.count some-here.text (colour-is eg ec) ex eb ez
