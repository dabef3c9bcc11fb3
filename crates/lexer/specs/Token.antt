-- Tokens: `parse_numeric_token`, `parse_ident_like`, `parse_string_token` and `parse_token` of src/css/parser.rs.
use Rattle.std.specs.Prelude.{ℕ, ◌+◌, Bool, List, [], ◌++◌, leb, length, get_or, take, drop, Option, Some, None}
use Prim.Native.Char.{code as ascii}
use Rattle.combinators.specs.Choice.{pick, or, is}
use Rattle.combinators.specs.Parsed.{Parsed, ok, err, on_parsed, behind, or_else}
use Rattle.combinators.specs.Word.{starts_with}
use Rattle.characters.specs.Literal.{text}
use Rattle.characters.specs.Utf8.{scalar_of}
use Rattle.combinators.specs.declared.taken.Taken.{Taken}
use Rattle.lexer.specs.Whitespace.{skip_whitespace}
use Rattle.lexer.specs.Name.{is_nmstart, ident_of, identstring_of}
use Rattle.lexer.specs.Number as numbers
use Rattle.lexer.specs.Quoted.{string_end, string_text}
use Rattle.lexer.specs.declared.tokens.Token as declared
use Rattle.lexer.specs.declared.tokens.Token.TheVariants as code
use Rattle.lexer.specs.declared.tokens.Lexed.{Lexed}

-- a token with its texts. The crate's at-keyword, url and bad url are left out: it never makes one.
pub data Token : Type 0 where
  ident : List ℕ → Token
  function : List ℕ → Token
  hash : List ℕ → Token
  string : List ℕ → Token
  bad_string : List ℕ → Token
  delim : ℕ → Token
  number : List ℕ → Token
  dimension : List ℕ → List ℕ → Token
  percentage : List ℕ → Token
  cdo : Token
  cdc : Token
  colon : Token
  semicolon : Token
  comma : Token
  open_square : Token
  close_square : Token
  open_round : Token
  close_round : Token
  open_brace : Token
  close_brace : Token

-- ---- the readers that a first character selects

-- `parse_numeric_token`: a number; with '%' behind it a percentage, with a name behind it a dimension
unfoldable pub numeric_from : ℕ → List ℕ → Parsed Token
numeric_from n s =
    pick (is (get_or s n 0) (ascii "%")) (ok (n + 1) (percentage (take n s)))
    (on_parsed (ident_of (drop n s)) (λ m u. ok (n + m) (dimension (take n s) u)) (ok n (number (take n s))))

unfoldable pub numeric_of : List ℕ → Parsed Token
numeric_of s = pick (is (numbers.number s) 0) err (numeric_from (numbers.number s) s)

-- `parse_ident_like`: a name; with '(' behind it a function
unfoldable pub ident_like_of : List ℕ → Parsed Token
ident_like_of s =
    on_parsed (ident_of s)
    (λ n b. pick (is (get_or s n 0) (ascii "(")) (ok (n + 1) (function b)) (ok n (ident b)))
    err

-- how a string ends whose n bytes behind the quote stand for b: at the end of the text, at the quote, or, bad, before a line feed
unfoldable pub string_from : ℕ → List ℕ → ℕ → List ℕ → Parsed Token
string_from q r n b =
    pick (is n (length r)) (ok (1 + n) (string b))
    (pick (is (get_or r n 0) q) (ok (1 + n + 1) (string b))
    (ok (1 + n) (bad_string b)))

unfoldable pub is_quote : ℕ → Bool
is_quote c = or (is c (ascii "\"")) (is c (ascii "'"))

-- `parse_string_token`
unfoldable pub string_of : List ℕ → Parsed Token
string_of t =
    pick (is_quote (get_or t 0 0))
    (string_from (get_or t 0 0) (drop 1 t) (string_end (get_or t 0 0) (drop 1 t)) (string_text (get_or t 0 0) (drop 1 t)))
    err

-- ---- `parse_token`

-- from here on the crate takes every character for one that starts a name, and then reads none: "A character above U+0080 that starts a token ends
-- the statement"
abbrev pub first_above_u0080 : ℕ
first_above_u0080 = 0x81

-- `is_ident_start`
unfoldable pub is_ident_start : ℕ → Bool
is_ident_start c = or (is_nmstart c) (leb first_above_u0080 c)

-- a character that is a token by itself: a mark, or else a delimiter. '@' is one: the crate tries `parse_ident` from the '@'
-- itself, which never reads.
unfoldable pub mark_of : ℕ → Token
mark_of c =
    pick (is c (ascii ";")) semicolon
    (pick (is c (ascii "(")) open_round
    (pick (is c (ascii ")")) close_round
    (pick (is c (ascii ",")) comma
    (pick (is c (ascii ":")) colon
    (pick (is c (ascii "[")) open_square
    (pick (is c (ascii "]")) close_square
    (pick (is c (ascii "{")) open_brace
    (pick (is c (ascii "}")) close_brace
    (delim c)))))))))

-- ---- the readers that a character c selects
unfoldable pub hash_of : ℕ → List ℕ → Parsed Token
hash_of c t = on_parsed (identstring_of (drop 1 t)) (λ m b. ok (1 + m) (hash b)) (ok 1 (delim c))

-- A '+' is dropped from the number's text; white space, comments and one more sign behind it stay in it.
unfoldable pub plus_of : ℕ → List ℕ → Parsed Token
plus_of c t = or_else (behind 1 (numeric_of (drop 1 t))) (ok 1 (delim c))

unfoldable pub minus_of : ℕ → List ℕ → Parsed Token
minus_of c t = or_else (numeric_of t) (pick (starts_with (text "-->") t) (ok 3 cdc) (or_else (ident_like_of t) (ok 1 (delim c))))

unfoldable pub less_of : ℕ → List ℕ → Parsed Token
less_of c t = pick (starts_with (text "<!--") t) (ok 4 cdo) (ok 1 (delim c))

-- the token at the start of t, whose first character c takes n bytes. No character passes two of these tests, so the marks, which the crate has between them, come last.
unfoldable pub token_with : ℕ → ℕ → List ℕ → Parsed Token
token_with n c t =
    pick (is_quote c) (string_of t)
    (pick (is c (ascii "#")) (hash_of c t)
    (pick (is c (ascii "+")) (plus_of c t)
    (pick (is c (ascii "-")) (minus_of c t)
    (pick (is c (ascii ".")) (or_else (numeric_of t) (ok 1 (delim c)))
    (pick (is c (ascii "<")) (less_of c t)
    (pick (is c (ascii "\\")) (or_else (ident_like_of t) (ok 1 (delim c)))
    (pick (is_ident_start c) (ident_like_of t)
    (pick (numbers.is_digit c) (numeric_of t)
    (ok n (mark_of c))))))))))

-- by the first character, if there is one
unfoldable pub token_at : List ℕ → Option (Taken ℕ) → Parsed Token
token_at t (Some c) = token_with c.taken c.value t
token_at t None = err

-- `parse_token`: behind white space and comments
unfoldable pub token_of : List ℕ → Parsed Token
token_of s = behind (skip_whitespace s) (token_at (drop (skip_whitespace s) s) (scalar_of (drop (skip_whitespace s) s)))

-- ---- as the code answers: the token with the lengths of its texts, which lie in the store one behind the other
unfoldable pub coded : Token → declared.Token
coded (ident b) = code.Ident (length b)
coded (function b) = code.Function (length b)
coded (hash b) = code.Hash (length b)
coded (string b) = code.String (length b)
coded (bad_string b) = code.BadString (length b)
coded (delim c) = code.Delim c
coded (number b) = code.Number (length b)
coded (dimension b u) = code.Dimension (length b) (length u)
coded (percentage b) = code.Percentage (length b)
coded cdo = code.CDO
coded cdc = code.CDC
coded colon = code.Colon
coded semicolon = code.Semicolon
coded comma = code.Comma
coded open_square = code.OpenSquare
coded close_square = code.CloseSquare
coded open_round = code.OpenRound
coded close_round = code.CloseRound
coded open_brace = code.OpenBrace
coded close_brace = code.CloseBrace

-- its texts, one behind the other; a delimiter's character is none
unfoldable pub text_of : Token → List ℕ
text_of (ident b) = b
text_of (function b) = b
text_of (hash b) = b
text_of (string b) = b
text_of (bad_string b) = b
text_of (number b) = b
text_of (dimension b u) = b ++ u
text_of (percentage b) = b
text_of _ = []

-- how many bytes the texts of a token as the code has it take, one behind the other; a delimiter's character is not in the store
unfoldable pub length_by : declared.Token → ℕ
length_by (code.Ident n) = n
length_by (code.Function n) = n
length_by (code.Hash n) = n
length_by (code.String n) = n
length_by (code.BadString n) = n
length_by (code.Number n) = n
length_by (code.Dimension n m) = n + m
length_by (code.Percentage n) = n
length_by _ = 0

unfoldable pub token_answer : Parsed Token → Option (Taken declared.Token)
token_answer (ok n k) = Some (record { taken = n; value = coded k })
token_answer err = None

unfoldable pub token_text : Parsed Token → List ℕ
token_text (ok n k) = text_of k
token_text err = []

-- a token that starts behind w bytes of white space and comments
unfoldable pub lexed_answer : ℕ → Parsed Token → Option Lexed
lexed_answer w (ok n k) = Some (record { start = w; end = n; token = coded k })
lexed_answer w err = None

-- what was read, or else a delimiter, as the code answers
unfoldable pub or_delim : Option (Taken declared.Token) → ℕ → Option (Taken declared.Token)
or_delim (Some r) c = Some r
or_delim None c = Some (record { taken = 1; value = code.Delim c })
