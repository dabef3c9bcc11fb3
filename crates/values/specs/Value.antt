-- Values: `parse_to_end_of_statement` and `parse_value` of src/css/parser.rs.
use Rattle.std.specs.Prelude.{ℕ, zero, suc, ◌+◌, Bool, true, false, List, [], ◌∷◌, length, drop}
use Prim.Native.Char.{code as ascii}
use Rattle.combinators.specs.Choice.{pick, and, is}
use Rattle.combinators.specs.Parsed.{Parsed, ok, err, on_parsed}
use Rattle.characters.specs.Literal.{text}
use Rattle.lexer.specs.Whitespace.{skip_whitespace}
use Rattle.lexer.specs.Token.{Token, function, cdo, cdc, semicolon, open_square, close_square, open_round, close_round, open_brace, close_brace, token_of}
use Rattle.values.specs.Words.{is_word, is_delim}

-- a token, and the byte where it starts
pub record Placed : Type 0 where
  pub token : Token
  pub start : ℕ

-- ---- brackets, by the byte that is awaited; that of `-->` is its '>'. "The bracket `Vec` becomes bytes"

pub data Bracket : Type 0 where
  opens : ℕ → Bracket
  closes : ℕ → Bracket
  ends : Bracket
  none : Bracket

-- what a token does to the brackets
unfoldable pub bracket_of : Token → Bracket
bracket_of (function b) = opens (ascii ")")
bracket_of cdo = opens (ascii ">")
bracket_of cdc = closes (ascii ">")
bracket_of semicolon = ends
bracket_of open_square = opens (ascii "]")
bracket_of close_square = closes (ascii "]")
bracket_of open_round = opens (ascii ")")
bracket_of close_round = closes (ascii ")")
bracket_of open_brace = opens (ascii "}")
bracket_of close_brace = closes (ascii "}")
bracket_of _ = none

-- how a statement goes on at a token: with these brackets awaited, innermost first; it ends before the token, or behind it; or the
-- brackets are wrong
pub data Step : Type 0 where
  next : List ℕ → Step
  before : Step
  behind : Step
  wrong : Step

-- a closing bracket: where none is awaited, '}' ends the statement before it, and any other is wrong; where another is awaited, it is wrong; a brace block that closes
-- outermost ends the statement behind it
unfoldable pub closing : ℕ → List ℕ → Step
closing c [] = pick (is c (ascii "}")) before wrong
closing c (x ∷ []) = pick (is c x) (pick (is c (ascii "}")) behind (next [])) wrong
closing c (x ∷ y ∷ cs) = pick (is c x) (next (y ∷ cs)) wrong

-- a semicolon ends the statement outside all brackets, and belongs to it if asked
unfoldable pub ending : Bool → List ℕ → Step
ending include [] = pick include behind before
ending include (x ∷ cs) = next (x ∷ cs)

unfoldable pub step_of : Bool → Bracket → List ℕ → Step
step_of include (opens c) cs = next (c ∷ cs)
step_of include (closes c) cs = closing c cs
step_of include ends cs = ending include cs
step_of include none cs = next cs

-- ---- the tokens of a statement, the bytes taken, and whether no bracket was wrong
pub record Statement : Type 0 where
  pub tokens : List Placed
  pub taken : ℕ
  pub balanced : Bool

unfoldable pub stop : ℕ → Bool → Statement
stop at b = record { tokens = []; taken = at; balanced = b }

unfoldable pub cons : Placed → Statement → Statement
cons t r = record { tokens = t ∷ r.tokens; taken = r.taken; balanced = r.balanced }

unfoldable pub on_step : {A : Type 0} → Step → A → A → A → (List ℕ → A) → A
on_step before b a w f = b
on_step behind b a w f = a
on_step wrong b a w f = w
on_step (next cs) b a w f = f cs

-- from the rest s on, which starts at `at`; the first number is more than the bytes left. Where the statement ends before a token, or no token reads, the white space and
-- comments in front of it are not taken.
unfoldable pub scan : ℕ → Bool → List ℕ → ℕ → List ℕ → Statement
scan zero include s at cs = stop at true
scan (suc l) include s at cs =
    on_parsed (token_of s)
    (λ n k. let t : Placed = record { token = k; start = at + skip_whitespace s } in
    on_step (step_of include (bracket_of k) cs) (stop at true) (cons t (stop (at + n) true)) (stop at false)
    (λ ds. cons t (scan l include (drop n s) (at + n) ds)))
    (stop at true)

-- `parse_to_end_of_statement`
unfoldable pub statement_of : Bool → List ℕ → Statement
statement_of include s = scan (length s + 1) include s 0 []

-- ---- `parse_value`: the mark `!important` at the end is taken off
unfoldable pub tokens_of : List Placed → List Token
tokens_of [] = []
tokens_of (t ∷ ts) = t.token ∷ tokens_of ts

unfoldable pub is_mark : Token → Token → Bool
is_mark a b = and (is_delim (ascii "!") a) (is_word (text "important") b)

pub record Value : Type 0 where
  pub tokens : List Token
  pub important : Bool

-- the tokens without the mark at their end, and whether it stood there
unfoldable pub marked : List Token → Value
marked (a ∷ b ∷ []) = pick (is_mark a b) (record { tokens = []; important = true }) (record { tokens = a ∷ b ∷ []; important = false })
marked (a ∷ b ∷ c ∷ ts) = let r = marked (b ∷ c ∷ ts) in record { tokens = a ∷ r.tokens; important = r.important }
marked ts = record { tokens = ts; important = false }

unfoldable pub value_from : Statement → Parsed Value
value_from r = pick r.balanced (ok r.taken (marked (tokens_of r.tokens))) err

unfoldable pub value_of : List ℕ → Parsed Value
value_of s = value_from (statement_of false s)
