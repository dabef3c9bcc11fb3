-- Texts in which brackets match, byte by byte, in the words of CSS Syntax Level 3 (section 8.2, <any-value> and <declaration-value>): the value of a
-- property that the engine does not know, and what an at-rule has. What its tokens are does not matter there, only where it ends; so numbers
-- such as `1.5`, names with capital letters and `0 auto` are in it, which the reader takes apart in another way than the
-- document. Sections were not held against the document's text.
use Rattle.std.specs.Prelude.{◌≡◌, refl, Bool, true, false, not, List, [], ◌∷◌, ◌++◌, map, ℕ, get_or, drop}
use Prim.Native.Char.{code as ascii}
use Rattle.combinators.specs.Choice.{pick, or, and, is, within}
use Rattle.combinators.specs.Word.{starts_with, same_text}
use Rattle.combinators.specs.All.{member}
use Rattle.characters.specs.Literal.{text}
use Rattle.characters.specs.Utf8.{utf8}
use Rattle.lexer.specs.Name.{lower}
use Rattle.lexer.specs.Token.{is_quote}
use Rattle.lexer.proofs.SyntaxWhitespace.{White, Comment}
use Rattle.grammar.specs.Selectors.{Quoted}

-- the last character of ASCII that is printed
abbrev pub tilde : ℕ
tilde = 0x7e

-- a printed character of ASCII that opens and closes nothing, quotes nothing and ends nothing. A '\' is left out, whose escapes the reader reads in
-- another way.
unfoldable pub is_plain : ℕ → Bool
is_plain x = and (within x (ascii "!") tilde) (not (member x (text "\"'()[]{};!\\")))

pub data Bracket : Type 0 where
  round : Bracket
  square : Bracket
  curly : Bracket

pub data Balanced : Type 0 where
  end : Balanced
  space : (x : ℕ) → White x → Balanced → Balanced
  remark : (c : List ℕ) → Comment c → Balanced → Balanced
  plain : (x : ℕ) → is_plain x ≡ true → Balanced → Balanced
  quoted : Quoted → Balanced → Balanced
  semicolon : Balanced → Balanced
  bang : Balanced → Balanced
  -- what stands between the brackets, and what stands behind them
  block : Bracket → Balanced → Balanced → Balanced

-- ---- how it is written
unfoldable pub opens : Bracket → ℕ
opens round = ascii "("
opens square = ascii "["
opens curly = ascii "{"

unfoldable pub closes : Bracket → ℕ
closes round = ascii ")"
closes square = ascii "]"
closes curly = ascii "}"

unfoldable pub written_balanced : Balanced → List ℕ
written_balanced end = []
written_balanced (space x w v) = x ∷ written_balanced v
written_balanced (remark c w v) = c ++ written_balanced v
written_balanced (plain x e v) = x ∷ written_balanced v
written_balanced (quoted q v) = q.quote ∷ (q.bytes ++ (q.quote ∷ written_balanced v))
written_balanced (semicolon v) = ascii ";" ∷ written_balanced v
written_balanced (bang v) = ascii "!" ∷ written_balanced v
written_balanced (block b w v) = opens b ∷ (written_balanced w ++ (closes b ∷ written_balanced v))

-- ---- what makes its parts what they are
-- printed characters up to a `)`: behind `url(` the document takes them for one <url-token> (4.3.6, Consume a url token)
unfoldable pub is_address : List ℕ → Bool
is_address [] = false
is_address (x ∷ t) = or (is x (ascii ")")) (and (is_plain x) (is_address t))

-- `url(`, in letters of either case, with neither a string nor such characters behind it
unfoldable pub is_odd_url : List ℕ → Bool
is_odd_url s = and (starts_with (text "url(") (map lower s)) (not (or (is_quote (get_or s 4 0)) (is_address (drop 4 s))))

-- among plain characters no `/*` begins; no `<!--` and no `-->`, which are brackets to the reader, and a '<' is not the last; and no such `url(`
unfoldable pub is_mark : List ℕ → Bool
is_mark s = or (starts_with (text "/*") s) (or (starts_with (text "-->") s) (or (starts_with (text "<!--") s) (or (same_text s (text "<")) (is_odd_url s))))

test-marks : (is_mark (text "url(a.png)") ≡ false) × (is_mark (text "URL('a b')") ≡ false) × (is_mark (text "url(a b)") ≡ true) × (is_mark (text "-->") ≡ true) × (is_mark (text "/*") ≡ true)
    × (is_mark (text "/2") ≡ false) × (is_mark (text "<!--") ≡ true) × (is_mark (text "<=2") ≡ false)
unfolding is_mark is_odd_url is_address is_plain is_quote starts_with same_text member lower or and is within text utf8 pick
test-marks = (refl, refl, refl, refl, refl, refl, refl, refl)

unfoldable pub Clear : Balanced → Type 0
Clear end = Unit
Clear (space x w v) = Clear v
Clear (remark c w v) = Clear v
Clear (plain x e v) = (is_mark (x ∷ written_balanced v) ≡ false) × Clear v
Clear (quoted q v) = Clear v
Clear (semicolon v) = Clear v
Clear (bang v) = Clear v
Clear (block b w v) = Clear w × Clear v

-- outside all brackets: no semicolon, and no brace block, behind which the reader ends the statement
unfoldable pub Outside : Balanced → Type 0
Outside end = Unit
Outside (space x w v) = Outside v
Outside (remark c w v) = Outside v
Outside (plain x e v) = Outside v
Outside (quoted q v) = Outside v
Outside (semicolon v) = ⊥
Outside (bang v) = Outside v
Outside (block round w v) = Outside v
Outside (block square w v) = Outside v
Outside (block curly w v) = ⊥

-- something is written
unfoldable pub More : Balanced → Type 0
More end = ⊥
More (space x w v) = Unit
More (remark c w v) = Unit
More (plain x e v) = Unit
More (quoted q v) = Unit
More (semicolon v) = Unit
More (bang v) = Unit
More (block b w v) = Unit

-- it does not end with white space, which belongs to what follows
unfoldable pub Tight : Balanced → Type 0
Tight end = Unit
Tight (space x w v) = More v × Tight v
Tight (remark c w v) = More v × Tight v
Tight (plain x e v) = Tight v
Tight (quoted q v) = Tight v
Tight (semicolon v) = Tight v
Tight (bang v) = Tight v
Tight (block b w v) = Tight v

-- no '!' outside strings and comments
unfoldable pub Calm : Balanced → Type 0
Calm end = Unit
Calm (space x w v) = Calm v
Calm (remark c w v) = Calm v
Calm (plain x e v) = Calm v
Calm (quoted q v) = Calm v
Calm (semicolon v) = Calm v
Calm (bang v) = ⊥
Calm (block b w v) = Calm w × Calm v

-- <declaration-value>: something, with no semicolon outside brackets, and no '!', which the document allows inside brackets
pub record AnyValue (v : Balanced) : Type 0 where
  pub some : More v
  pub clear : Clear v
  pub outside : Outside v
  pub tight : Tight v
  pub calm : Calm v
