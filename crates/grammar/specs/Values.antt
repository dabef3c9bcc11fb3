-- Component values in the words of CSS Syntax Level 3 (section 5.4.7, Consume a component value; 5.4.8, a simple block; 5.4.9, a function) and
-- what a declaration's value may be (8.2, <declaration-value>), as far as the reader agrees with the document. Sections and what is quoted were not held
-- against the document's text.
use Rattle.std.specs.Prelude.{◌≡◌, Bool, true, false, List, [], ◌∷◌, ◌++◌, ℕ, get_or}
use Prim.Native.Char.{code as ascii}
use Rattle.combinators.specs.Choice.{is}
use Rattle.characters.specs.Literal.{text}
use Rattle.lexer.specs.Token.{Token}
use Rattle.grammar.specs.Nth.{Blanks}
use Rattle.grammar.specs.Tokens.{Atom, word, string, hash, number, percentage, dimension, comma, colon, semicolon, delimiter, point, hyphen, addition, Opening, function, round, square, brace, written_atom, written_opening, closer, means_atom, means_opening, means_closer, MayFollow, Ident, folded}

-- ---- what is written: tokens and blocks, with white space and comments or none before each and at the end
pub data Values : Type 0 where
  end : Blanks → Values
  then : Blanks → Atom → Values → Values
  -- what stands between the brackets, and what stands behind them
  block : Blanks → Opening → Values → Values → Values

unfoldable pub written_values : Values → List ℕ
written_values (end b) = b.bytes
written_values (then b a v) = b.bytes ++ (written_atom a ++ written_values v)
written_values (block b o w v) = b.bytes ++ (written_opening o ++ (written_values w ++ (closer o ∷ written_values v)))

-- ---- what it means: its tokens, without white space
unfoldable pub means_values : Values → List Token
means_values (end b) = []
means_values (then b a v) = means_atom a ∷ means_values v
means_values (block b o w v) = means_opening o ∷ (means_values w ++ (means_closer o ∷ means_values v))

-- ---- where its tokens are told apart (section 9, Serialization): each but the last of a block ends before what stands behind it
unfoldable pub Follows : Atom → Values → Type 0
Follows a (end b) = Unit
Follows a (then b n v) = MayFollow a (get_or (b.bytes ++ written_atom n) 0 0) (get_or (written_atom n) 0 0) (get_or (written_atom n) 1 0)
Follows a (block b o w v) = MayFollow a (get_or (b.bytes ++ written_opening o) 0 0) (get_or (written_opening o) 0 0) (get_or (written_opening o) 1 0)

unfoldable pub Apart : Values → Type 0
Apart (end b) = Unit
Apart (then b a v) = Follows a v × Apart v
Apart (block b o w v) = Apart w × Apart v

-- ---- what stands outside all brackets
unfoldable pub is_semicolon : Atom → Bool
is_semicolon (word n) = false
is_semicolon (string q) = false
is_semicolon (hash h) = false
is_semicolon (number n) = false
is_semicolon (percentage n) = false
is_semicolon (dimension n u) = false
is_semicolon comma = false
is_semicolon colon = false
is_semicolon semicolon = true
is_semicolon (delimiter c d) = false
is_semicolon point = false
is_semicolon hyphen = false
is_semicolon addition = false

unfoldable pub is_bang : Atom → Bool
is_bang (word n) = false
is_bang (string q) = false
is_bang (hash h) = false
is_bang (number n) = false
is_bang (percentage n) = false
is_bang (dimension n u) = false
is_bang comma = false
is_bang colon = false
is_bang semicolon = false
is_bang (delimiter c d) = is c (ascii "!")
is_bang point = false
is_bang hyphen = false
is_bang addition = false

unfoldable pub is_brace : Opening → Bool
is_brace (function n d) = false
is_brace round = false
is_brace square = false
is_brace brace = true

-- no semicolon and no brace block, which end a statement; white space at the end belongs to what follows
unfoldable pub Outermost : Values → Type 0
Outermost (end b) = b.bytes ≡ []
Outermost (then b a v) = (is_semicolon a ≡ false) × Outermost v
Outermost (block b o w v) = (is_brace o ≡ false) × Outermost v

-- no '!'
unfoldable pub Unmarked : Values → Type 0
Unmarked (end b) = Unit
Unmarked (then b a v) = (is_bang a ≡ false) × Unmarked v
Unmarked (block b o w v) = Unmarked v

-- one token or more
unfoldable pub Some : Values → Type 0
Some (end b) = ⊥
Some (then b a v) = Unit
Some (block b o w v) = Unit

-- <declaration-value>: one or more tokens, with no semicolon and no '!' outside brackets. The document allows a brace block there; the reader ends the
-- statement behind one.
pub record DeclarationValue (v : Values) : Type 0 where
  pub some : Some v
  pub apart : Apart v
  pub outermost : Outermost v
  pub unmarked : Unmarked v

-- ---- what may stand behind a declaration's value: nothing, or the mark `!important`, with white space or none before both its tokens (5.4.6, "the
-- last two non-<whitespace-token>s in the declaration's value"), in letters of either case.
pub data Importance : Type 0 where
  normal : Importance
  important : Blanks → Blanks → (n : Ident) → folded n ≡ text "important" → Importance

unfoldable pub written_importance : Importance → List ℕ
written_importance normal = []
written_importance (important b c n h) = b.bytes ++ (ascii "!" ∷ (c.bytes ++ n.bytes))

unfoldable pub is_marked : Importance → Bool
is_marked normal = false
is_marked (important b c n h) = true
