-- How a statement lies in lent stores: its tokens in rows, their texts one behind the other, and the brackets awaited.
use Rattle.std.specs.Prelude.{ℕ, zero, suc, ◌+◌, ◌-◌, ◌*◌, ◌^◌, ◌≤◌, ◌<◌, Bool, true, Result, Ok, Err, List, [], ◌∷◌, ◌≡◌, refl, length, get_or, set}
use Rattle.std.proofs.lemmas.List.Edits.{sets}
use Prim.Native.Char.{code as ascii}
use Rattle.combinators.specs.Choice.{pick, and, is}
use Rattle.combinators.specs.declared.lent.Stores.{Stores}
use Rattle.lexer.specs.Token.{function, number, close_round, coded, text_of}
use Rattle.lexer.specs.TokenRow.{token_width, function_kind, number_kind, close_round_kind, columns_of, word, row_of, token_row}
use Rattle.syntax.specs.Stream.{rows_many, texts_many}
use Rattle.values.specs.Value.{Placed, Bracket, opens, closes, ends, none, bracket_of, Step, next, before, behind, wrong, step_of, Statement, tokens_of, marked}
use Rattle.values.specs.declared.statements.Bracket as declared-bracket
use Rattle.values.specs.declared.statements.Bracket.TheVariants.{Opens, Closes, Ends, NoBracket}
use Rattle.values.specs.declared.statements.Step as declared-step
use Rattle.values.specs.declared.statements.Step.TheVariants.{Next, Before, Behind, Wrong}
use Rattle.values.specs.declared.statements.Statement as declared-statement
use Rattle.values.specs.declared.statements.Unbalanced.{Unbalanced}
use Rattle.values.specs.declared.statements.Value as declared-value

-- ---- what a token does to the brackets, as the code has it
unfoldable pub meant : declared-bracket.Bracket → Bracket
meant (Opens c) = opens c
meant (Closes c) = closes c
meant Ends = ends
meant NoBracket = none

-- ---- brackets

-- the d brackets awaited that a store holds, innermost first
unfoldable pub awaited : List ℕ → ℕ → List ℕ
awaited b zero = []
awaited b (suc d) = get_or b d 0 ∷ awaited b d

-- the store after a token, and how many brackets are awaited then
unfoldable pub pushed : Bracket → List ℕ → ℕ → List ℕ
pushed (opens c) b d = set b d c
pushed (closes c) b d = b
pushed ends b d = b
pushed none b d = b

unfoldable pub depth : Bracket → ℕ → ℕ
depth (opens c) d = d + 1
depth (closes c) d = d - 1
depth ends d = d
depth none d = d

-- what the code's step says, where the store is b
unfoldable pub step_to : declared-step.Step → List ℕ → Step
step_to (Next e) b = next (awaited b e)
step_to Before b = before
step_to Behind b = behind
step_to Wrong b = wrong

-- how many brackets are awaited after a step; d where the statement ends
unfoldable pub deep : declared-step.Step → ℕ → ℕ
deep (Next e) d = e
deep Before d = d
deep Behind d = d
deep Wrong d = d

-- the step at a semicolon where d brackets are awaited
unfoldable pub ending_by : Bool → ℕ → declared-step.Step
ending_by include d = pick (is d 0) (pick include Behind Before) (Next d)

-- a step r at a token that does x, from the store b with d brackets awaited to the store b'
pub record Moved (include : Bool) (x : Bracket) (b : List ℕ) (d : ℕ) (b' : List ℕ) (r : declared-step.Step) : Type 0 where
  pub step : step_to r b' ≡ step_of include x (awaited b d)
  pub store : b' ≡ pushed x b d
  pub deeper : deep r (depth x d) ≡ depth x d

-- ---- what a statement leaves

-- a token's row, where its text lies from f on, and that text
abbrev pub placed_row : ℕ → Placed → List ℕ
placed_row f t = token_row t.start f t.token

abbrev pub placed_text : Placed → List ℕ
placed_text t = text_of t.token

-- the rows of tokens whose texts lie from f on
abbrev pub rows_of : ℕ → List Placed → List ℕ
rows_of f ts = rows_many placed_row placed_text f ts

-- their texts, one behind the other
abbrev pub texts_of : List Placed → List ℕ
texts_of ts = texts_many placed_text ts

-- the store of brackets after tokens
unfoldable pub brackets_after : List Placed → List ℕ → ℕ → List ℕ
brackets_after [] b d = b
brackets_after (t ∷ ts) b d = brackets_after ts (pushed (bracket_of t.token) b d) (depth (bracket_of t.token) d)

-- the numbers of a statement with right brackets, and with a wrong one
unfoldable pub statement_answer : Statement → Result declared-statement.Statement Unbalanced
statement_answer r =
    pick r.balanced
    (Ok (record { taken = r.taken; count = length r.tokens; text = length (texts_of r.tokens) }))
    (Err (record { 0 = record { taken = r.taken; count = length r.tokens; text = length (texts_of r.tokens) } }))

-- the answer, and the three stores
pub record Left : Type 0 where
  pub answer : Result declared-statement.Statement Unbalanced
  pub rows : List ℕ
  pub brackets : List ℕ
  pub store : List ℕ

-- by a call that is lent the stores: its answer, and what the three then hold
abbrev pub leaving : Result declared-statement.Statement Unbalanced → Stores → Left
leaving a stores = record { answer = a; rows = stores.tokens.now; brackets = stores.brackets.now; store = stores.texts.now }

unfoldable pub left : Statement → List ℕ → List ℕ → List ℕ → ℕ → Left
left r rows brackets store fill =
    record {
      answer = statement_answer r;
      rows = sets rows 0 (rows_of fill r.tokens);
      brackets = brackets_after r.tokens brackets 0;
      store = sets store fill (texts_of r.tokens);
    }

-- what a value leaves: an answer of its own, and the same in the stores
unfoldable pub value_answer : Statement → Result declared-value.Value Unbalanced
value_answer r =
    pick r.balanced
    (Ok (record { statement = record { taken = r.taken; count = length r.tokens; text = length (texts_of r.tokens) }; important = (marked (tokens_of r.tokens)).important }))
    (Err (record { 0 = record { taken = r.taken; count = length r.tokens; text = length (texts_of r.tokens) } }))

-- how many tokens a value has without the two of its mark
abbrev pub unmarked : declared-value.Value → ℕ
unmarked v = pick v.important (v.statement.count - 2) v.statement.count

pub record ValueLeft : Type 0 where
  pub answer : Result declared-value.Value Unbalanced
  pub rows : List ℕ
  pub brackets : List ℕ
  pub store : List ℕ

abbrev pub leaving_value : Result declared-value.Value Unbalanced → Stores → ValueLeft
leaving_value a stores = record { answer = a; rows = stores.tokens.now; brackets = stores.brackets.now; store = stores.texts.now }

unfoldable pub value_left : Statement → List ℕ → List ℕ → List ℕ → ℕ → ValueLeft
value_left r rows brackets store fill =
    let l = left r rows brackets store fill in
    record { answer = value_answer r; rows = l.rows; brackets = l.brackets; store = l.store }

-- the three tokens of "f( 7)", read into longer stores: their rows, the bracket that was awaited, and their texts behind the byte 9
case : left
    (record {
      tokens = record { token = function (0x66 ∷ []); start = 0 } ∷ record { token = number (0x37 ∷ []); start = 3 } ∷ record { token = close_round; start = 4 } ∷ [];
      taken = 5;
      balanced = true;
    })
    (1 ∷ 1 ∷ 1 ∷ 1 ∷ 1 ∷ 1 ∷ 1 ∷ 1 ∷ 1 ∷ 1 ∷ 1 ∷ 1 ∷ 1 ∷ 1 ∷ 1 ∷ 1 ∷ []) (1 ∷ 1 ∷ []) (9 ∷ 9 ∷ 9 ∷ 9 ∷ []) 1
    ≡ record {
      answer = Ok (record { taken = 5; count = 3; text = 2 });
      rows = function_kind ∷ 0 ∷ 1 ∷ 1 ∷ 0 ∷ number_kind ∷ 3 ∷ 2 ∷ 1 ∷ 0 ∷ close_round_kind ∷ 4 ∷ 3 ∷ 0 ∷ 0 ∷ 1 ∷ [];
      brackets = ascii ")" ∷ 1 ∷ [];
      store = 9 ∷ 0x66 ∷ 0x37 ∷ 9 ∷ [];
    }
unfolding left statement_answer rows_many texts_many brackets_after pushed depth bracket_of token_row row_of columns_of coded word text_of pick
case = refl

-- ---- room and bounds

-- what reading n bytes asks for: a row for each token, a place for each bracket, a place for each byte of text and two more, and that places
-- of texts are numbers of 32 bits
pub record Room (n fill : ℕ) (tokens brackets store : List ℕ) : Type 0 where
  pub for-tokens : token_width * n ≤ length tokens
  pub for-brackets : n ≤ length brackets
  pub for-texts : fill + n + 2 ≤ length store
  pub bits : fill + n + 2 < 2 ^ 32

-- the numbers of an answer
unfoldable pub taken_by : Result declared-statement.Statement Unbalanced → ℕ
taken_by (Ok r) = r.taken
taken_by (Err r) = r.0.taken

unfoldable pub count_by : Result declared-statement.Statement Unbalanced → ℕ
count_by (Ok r) = r.count
count_by (Err r) = r.0.count

unfoldable pub text_by : Result declared-statement.Statement Unbalanced → ℕ
text_by (Ok r) = r.text
text_by (Err r) = r.0.text

-- how many bytes longer the texts of n bytes can be: two where they end the text with a backslash
unfoldable pub slack : List ℕ → ℕ → ℕ
slack s n = pick (and (is n (length s)) (is (get_or s (n - 1) 0) (ascii "\\"))) 2 0

pub record Bounds (s : List ℕ) (r : Result declared-statement.Statement Unbalanced) : Type 0 where
  pub taken : taken_by r ≤ length s
  pub count : count_by r ≤ taken_by r
  pub text : text_by r ≤ taken_by r + slack s (taken_by r)
