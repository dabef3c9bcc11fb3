-- Tokens by their kind, as the code tells them by a number in their row: what the definitions say of a token, told by kinds.
use mathlib.Core.Path.{◌≡◌, refl}
use mathlib.Core.Bool.{Bool, true}
use mathlib.Core.List.{List, [], ◌∷◌, ◌++◌}
use Prim.Native.Nat.{ℕ}
use Rattle.combinators.specs.Choice.{pick, and, is}
use Rattle.combinators.specs.Word.{same_text}
use Rattle.combinators.proofs.Rules.{pick-holds}
use Rattle.characters.specs.Literal.{text}
use Rattle.lexer.specs.Token.{Token, ident, function, hash, string, delim, number, dimension, comma, close_round, text_of}
use Rattle.lexer.specs.TokenRow.{ident_kind, function_kind, hash_kind, string_kind, delim_kind, number_kind, dimension_kind, comma_kind, close_round_kind}
use Rattle.syntax.specs.Declaration.{Colour}
use Rattle.values.specs.Words.{Entry, Found, found, missing, lookup, on_found, is_word}
use Rattle.values.specs.Colour.{colours, hash_colour, three_numbers, rgb_colour, colour_of, behind_comma}
use Rattle.values.specs.Property.{number_zero, units, any_of, height_of, first_word, visibilities, visibility_of, content_of}

-- ---- what a token is, by its kind

-- no token's row has this kind
abbrev pub other_kind : ℕ
other_kind = 0

-- the kinds that values tell apart
unfoldable pub kind_of : Token → ℕ
kind_of (ident b) = ident_kind
kind_of (function b) = function_kind
kind_of (hash b) = hash_kind
kind_of (string b) = string_kind
kind_of (delim c) = delim_kind
kind_of (number b) = number_kind
kind_of (dimension b u) = dimension_kind
kind_of comma = comma_kind
kind_of close_round = close_round_kind
kind_of _ = other_kind

-- a dimension's number and its unit
unfoldable pub number_of : Token → List ℕ
number_of (dimension b u) = b
number_of _ = []

unfoldable pub unit_of : Token → List ℕ
unit_of (dimension b u) = u
unit_of _ = []

unfoldable pub is_kind : ℕ → Token → Bool
is_kind n k = is (kind_of k) n

-- ---- words

-- a name told by kinds: a token of the kind of names whose text is the word
pub word-told : (w : List ℕ) (k : Token) → is_word w k ≡ and (is_kind ident_kind k) (same_text (text_of k) w)
unfolding is_word is_kind kind_of text_of and is
word-told w (ident b) = refl
word-told w _ = refl

-- the first word told by kinds: that of a token of the kind of names, or else that of the tokens behind it
pub first-told : {A : Type 0} (table : List (Entry A)) (k : Token) (ks : List Token)
    → first_word table (k ∷ ks) ≡ (let more = first_word table ks in pick (is_kind ident_kind k) (on_found (lookup (text_of k) table) (λ a. found a) more) more)
unfolding first_word is_kind kind_of text_of pick is
first-told table (ident b) ks = refl
first-told table _ ks = refl

-- the visibility of one token is what its word stands for
pub visibility-told : (k : Token) → visibility_of (k ∷ []) ≡ first_word visibilities (k ∷ [])
unfolding visibility_of first_word
visibility-told (ident b) = go (lookup b visibilities)
  where
    go : (x : Found Bool) → x ≡ on_found x (λ a. found a) missing
    go (found a) = unfold on_found in refl
    go missing = unfold on_found in refl
visibility-told _ = refl

-- two tokens and more are no visibility
pub visibility-more : (k a : Token) (ks : List Token) → visibility_of (k ∷ a ∷ ks) ≡ missing
unfolding visibility_of
visibility-more (ident b) a ks = refl
visibility-more _ a ks = refl

-- ---- colours

-- `rgb()` told by kinds: three numbers parted by commas, and a closing round bracket
pub rgb-told : (r c g d b e : Token) → rgb_colour (r ∷ c ∷ g ∷ d ∷ b ∷ e ∷ [])
    ≡ pick (and (is_kind number_kind r) (and (is_kind comma_kind c) (and (is_kind number_kind g) (and (is_kind comma_kind d) (and (is_kind number_kind b) (is_kind close_round_kind e))))))
    (three_numbers (text_of r) (text_of g) (text_of b)) missing
unfolding rgb_colour is_kind kind_of text_of pick and is
rgb-told (number r) comma (number g) comma (number b) close_round = refl
rgb-told _ _ _ _ _ _ = refl

-- the colour of one token told by kinds: a name or a hash
pub one-told : (k : Token) → colour_of (k ∷ []) ≡ pick (is_kind ident_kind k) (lookup (text_of k) colours) (pick (is_kind hash_kind k) (hash_colour (text_of k)) missing)
unfolding colour_of rgb_colour is_kind kind_of text_of pick is
one-told (ident b) = refl
one-told (hash b) = refl
one-told (function b) = pick-holds (λ (f : Found Colour). f ≡ missing) (same_text b (text "rgb")) missing missing (λ _. refl) (λ _. refl)
one-told _ = refl

-- the colour of more than one token told by kinds: the function `rgb`
pub call-told : (k a : Token) (ks : List Token)
    → colour_of (k ∷ a ∷ ks) ≡ pick (and (is_kind function_kind k) (same_text (text_of k) (text "rgb"))) (rgb_colour (a ∷ ks)) missing
unfolding colour_of is_kind kind_of text_of pick and is
call-told (ident b) a ks = refl
call-told (hash b) a ks = refl
call-told (function b) a ks = refl
call-told _ a ks = refl

-- what stands behind the last comma told by kinds: at a comma it is sought among the tokens behind that
pub comma-told : (acc ks : List Token) (k : Token) → behind_comma acc (k ∷ ks) ≡ pick (is_kind comma_kind k) (behind_comma ks ks) (behind_comma acc ks)
unfolding behind_comma is_kind kind_of pick is
comma-told acc ks comma = refl
comma-told acc ks _ = refl

-- ---- heights and contents

-- a height told by kinds: a dimension with a unit of a length, or a number that is zero
abbrev pub height_by : Token → Found Bool
height_by k =
    pick (is_kind dimension_kind k) (pick (any_of (unit_of k) units) (found (number_zero (number_of k))) missing)
    (pick (is_kind number_kind k) (pick (number_zero (text_of k)) (found true) missing) missing)

-- it is the height of one token
pub height-told : (k : Token) → height_of (k ∷ []) ≡ height_by k
unfolding height_of is_kind kind_of number_of unit_of text_of pick is
height-told (dimension n u) = refl
height-told (number n) = refl
height-told _ = refl

-- two tokens and more are no height
pub height-more : (k a : Token) (ks : List Token) → height_of (k ∷ a ∷ ks) ≡ missing
unfolding height_of
height-more (dimension n u) a ks = refl
height-more (number n) a ks = refl
height-more _ a ks = refl

-- a content told by kinds: a string before a content is joined to it, any other token makes none
pub content-told : (k : Token) (ks : List Token)
    → content_of (k ∷ ks) ≡ pick (is_kind string_kind k) (on_found (content_of ks) (λ b. found (text_of k ++ b)) missing) missing
unfolding content_of is_kind kind_of text_of pick is
content-told (string b) ks = refl
content-told _ ks = refl
