-- Tokens in the words of CSS Syntax Level 3 (section 4, Tokenization), as far as the reader agrees with the document: how a token is written,
-- what it means, and what may stand behind it so that it ends there.
use Rattle.std.specs.Prelude.{◌≡◌, refl, Bool, true, false, not, List, [], ◌∷◌, ◌++◌, map, ℕ, ◌+◌, ◌≤◌, length, get_or}
use Rattle.std.proofs.Common.{arith}
use Prim.Native.Char.{code as ascii}
use Rattle.combinators.specs.Choice.{pick, or, and, is, within}
use Rattle.combinators.specs.Word.{starts_with, same_text}
use Rattle.combinators.specs.All.{member}
use Rattle.characters.specs.Literal.{text}
use Rattle.characters.specs.Utf8.{utf8, continuation}
use Rattle.lexer.specs.Name.{lower}
use Rattle.lexer.specs.Number.{is_digit}
use Rattle.lexer.specs.Token as tokens
use Rattle.lexer.specs.Token.{Token}
use Rattle.lexer.specs.Whitespace.{skip_whitespace}
use Rattle.lexer.proofs.SyntaxName.{Each, none, more, IdentSequence, started, letter, ident_start, ident_code_point}
use Rattle.grammar.specs.Nth.{Sign, unsigned, plus, minus, written_sign}
use Rattle.grammar.specs.Selectors.{Quoted}

-- ---- what is written
-- a number (4.3.12, Consume a number) without an exponent: a sign or none, and digits, or a full stop and digits. Digits on both sides of
-- a full stop are left out: the reader stops before it.
pub record Numeral : Type 0 where
  pub sign : Sign
  pub fraction : Bool
  pub digits : List ℕ
  pub are : Each is_digit digits
  pub some : 1 ≤ length digits

-- an ident sequence (4.3.11) of ASCII and without escapes, in letters of either case
pub record Ident : Type 0 where
  pub bytes : List ℕ
  pub sequence : IdentSequence bytes

-- in small letters: "All CSS syntax is case-insensitive within the ASCII range" (CSS 2.1, 4.1.3), so that names and units are compared as these
unfoldable pub folded : Ident → List ℕ
folded n = map lower n.bytes

-- what stands behind the '#' of a <hash-token> (4.3.1): ident code points
pub record Hashed : Type 0 where
  pub bytes : List ℕ
  pub are : Each ident_code_point bytes
  pub some : 1 ≤ length bytes

-- a name that is the exponent of the number before it (4.3.12): `e` and a digit, with a '-' or none between them
unfoldable pub is_exponent : List ℕ → Bool
is_exponent u = and (starts_with (text "e") u) (or (is_digit (get_or u 1 0)) (and (is (get_or u 1 0) (ascii "-")) (is_digit (get_or u 2 0))))

-- the unit of a <dimension-token> (4.3.3)
pub record UnitName : Type 0 where
  pub name : Ident
  pub no-exponent : is_exponent (folded name) ≡ false

-- code points that are a <delim-token> whatever stands behind them; a solidus where no asterisk follows (4.3.1, "anything else")
unfoldable pub is_delimiter : ℕ → Bool
is_delimiter c = member c (text "!$%&*/=>?^`|~")

-- a token that opens no block and closes none
pub data Atom : Type 0 where
  word : Ident → Atom
  string : Quoted → Atom
  hash : Hashed → Atom
  number : Numeral → Atom
  percentage : Numeral → Atom
  dimension : Numeral → UnitName → Atom
  comma : Atom
  colon : Atom
  semicolon : Atom
  delimiter : (c : ℕ) → is_delimiter c ≡ true → Atom
  -- a full stop, a '-' and a '+' that begin no number and no name, which are delimiters too
  point : Atom
  hyphen : Atom
  addition : Atom

-- a token that opens a block (5.4.8, Consume a simple block; 5.4.9, Consume a function). Behind `url(` the document may have a <url-token> (4.3.4).
pub data Opening : Type 0 where
  function : (n : Ident) → same_text (folded n) (text "url") ≡ false → Opening
  round : Opening
  square : Opening
  brace : Opening

-- ---- how it is written
unfoldable pub written_stop : Bool → List ℕ
written_stop true = ascii "." ∷ []
written_stop false = []

unfoldable pub written_numeral : Numeral → List ℕ
written_numeral n = written_sign n.sign ++ (written_stop n.fraction ++ n.digits)

unfoldable pub written_atom : Atom → List ℕ
written_atom (word n) = n.bytes
written_atom (string q) = q.quote ∷ (q.bytes ++ (q.quote ∷ []))
written_atom (hash h) = ascii "#" ∷ h.bytes
written_atom (number n) = written_numeral n
written_atom (percentage n) = written_numeral n ++ (ascii "%" ∷ [])
written_atom (dimension n u) = written_numeral n ++ u.name.bytes
written_atom comma = ascii "," ∷ []
written_atom colon = ascii ":" ∷ []
written_atom semicolon = ascii ";" ∷ []
written_atom (delimiter c d) = c ∷ []
written_atom point = ascii "." ∷ []
written_atom hyphen = ascii "-" ∷ []
written_atom addition = ascii "+" ∷ []

unfoldable pub written_opening : Opening → List ℕ
written_opening (function n d) = n.bytes ++ (ascii "(" ∷ [])
written_opening round = ascii "(" ∷ []
written_opening square = ascii "[" ∷ []
written_opening brace = ascii "{" ∷ []

-- the byte that closes what it opens: the ending token is the mirror of the opening one
unfoldable pub closer : Opening → ℕ
closer (function n d) = ascii ")"
closer round = ascii ")"
closer square = ascii "]"
closer brace = ascii "}"

-- ---- what it means
-- the sign as the token's text has it: a '+' is left out
unfoldable pub means_sign : Sign → List ℕ
means_sign unsigned = []
means_sign plus = []
means_sign minus = ascii "-" ∷ []

unfoldable pub means_numeral : Numeral → List ℕ
means_numeral n = means_sign n.sign ++ (written_stop n.fraction ++ n.digits)

unfoldable pub means_atom : Atom → Token
means_atom (word n) = tokens.ident (folded n)
means_atom (string q) = tokens.string q.body
means_atom (hash h) = tokens.hash (map lower h.bytes)
means_atom (number n) = tokens.number (means_numeral n)
means_atom (percentage n) = tokens.percentage (means_numeral n)
means_atom (dimension n u) = tokens.dimension (means_numeral n) (folded u.name)
means_atom comma = tokens.comma
means_atom colon = tokens.colon
means_atom semicolon = tokens.semicolon
means_atom (delimiter c d) = tokens.delim c
means_atom point = tokens.delim (ascii ".")
means_atom hyphen = tokens.delim (ascii "-")
means_atom addition = tokens.delim (ascii "+")

unfoldable pub means_opening : Opening → Token
means_opening (function n d) = tokens.function (folded n)
means_opening round = tokens.open_round
means_opening square = tokens.open_square
means_opening brace = tokens.open_brace

unfoldable pub means_closer : Opening → Token
means_closer (function n d) = tokens.close_round
means_closer round = tokens.close_round
means_closer square = tokens.close_square
means_closer brace = tokens.close_brace

-- ---- where it ends
-- an ident sequence ends before x (4.3.11): no ident code point and no escape
unfoldable pub ends_name : ℕ → Bool
ends_name x = not (or (ident_code_point x) (is x (ascii "\\")))

-- y and z behind it would start an ident sequence (4.3.9): an ident-start code point, an escape, or a '-' behind which no number goes on
unfoldable pub begins_name : ℕ → ℕ → Bool
begins_name y z = or (ident_start y) (or (is y (ascii "\\")) (and (is y (ascii "-")) (not (or (is_digit z) (is z (ascii "."))))))

-- what a number begins with (4.3.10): a digit, a full stop or a sign
unfoldable pub begins_number : ℕ → Bool
begins_number y = or (is_digit y) (or (is y (ascii ".")) (or (is y (ascii "+")) (is y (ascii "-"))))

-- the token ends where the byte x stands behind it, and behind white space and comments the bytes y and z; each is 0 where there is none. The reader
-- takes a name behind white space for a number's unit, so none may begin there: to the document `0 auto` is two tokens. It takes a number behind a
-- '+' and white space with the '+'.
unfoldable pub may_follow : Atom → ℕ → ℕ → ℕ → Bool
may_follow (word n) x y z = and (ends_name x) (not (is x (ascii "(")))
may_follow (string q) x y z = true
may_follow (hash h) x y z = ends_name x
may_follow (number n) x y z = and (ends_name x) (and (not (is x (ascii "."))) (and (not (is x (ascii "%"))) (not (begins_name y z))))
may_follow (percentage n) x y z = true
may_follow (dimension n u) x y z = and (ends_name x) (not (is x (ascii "+")))
may_follow comma x y z = true
may_follow colon x y z = true
may_follow semicolon x y z = true
may_follow (delimiter c d) x y z = not (and (is c (ascii "/")) (is x (ascii "*")))
may_follow point x y z = not (is_digit x)
may_follow hyphen x y z = and (ends_name x) (not (is x (ascii ".")))
may_follow addition x y z = not (begins_number y)

abbrev pub MayFollow : Atom → ℕ → ℕ → ℕ → Type 0
MayFollow a x y z = may_follow a x y z ≡ true

-- the same of the text behind it
abbrev pub EndsBefore : Atom → List ℕ → Type 0
EndsBefore a t = MayFollow a (get_or t 0 0) (get_or t (skip_whitespace t) 0) (get_or t (skip_whitespace t + 1) 0)

-- `+.5` and `eM`
unfoldable half : Numeral
unfolding is_digit and within text utf8 pick
half = record { sign = plus; fraction = true; digits = text "5"; are = more refl none; some = omega arith }

unfoldable em : UnitName
unfolding is_exponent is_digit starts_with ident_code_point ident_start letter folded lower or and within is text utf8 pick
em = record { name = record { bytes = text "eM"; sequence = started refl (more refl none) }; no-exponent = refl }

-- `+.5eM` is a dimension of `.5` and `em`; `.5` ends before `,` and ` -9`, and not before ` a`, ` -a` or `%`; `e3` is an exponent and `em` is none
test-tokens : (written_atom (dimension half em) ≡ text "+.5eM") × (means_atom (dimension half em) ≡ tokens.dimension (text ".5") (text "em"))
    × (may_follow (number half) (ascii ",") (ascii ",") 0 ≡ true) × (may_follow (number half) (ascii " ") (ascii "a") 0 ≡ false)
    × (may_follow (number half) (ascii " ") (ascii "-") (ascii "9") ≡ true) × (may_follow (number half) (ascii " ") (ascii "-") (ascii "a") ≡ false)
    × (may_follow (number half) (ascii "%") (ascii "%") 0 ≡ false)
    × (is_exponent (text "e3") ≡ true) × (is_exponent (text "e-3") ≡ true) × (is_exponent (text "em") ≡ false)
unfolding written_atom written_numeral written_sign written_stop means_atom means_numeral means_sign may_follow ends_name begins_name is_exponent is_digit ident_code_point ident_start letter starts_with half em folded lower text utf8 continuation pick or and within is
test-tokens = (refl, refl, refl, refl, refl, refl, refl, refl, refl, refl)
