-- The view of a statement's tokens is what was written, where numbers have 32 bits.
use mathlib.Core.Path.{◌≡◌, refl, ap, ◌∙◌}
use mathlib.Core.List.{List, [], ◌∷◌, ◌++◌, map}
use mathlib.Core.Bool.{Bool}
use Prim.Native.Nat.{ℕ, zero, suc, ◌+◌, ◌-◌, ◌^◌, ◌≤◌, ◌<◌}
use native.Mathlib.Omega.{arith}
use lib.ListN.{length, get_or, drop, length-append}
use lib.Seq.{sets}
use Rattle.combinators.specs.Parsed.{ok}
use Rattle.combinators.specs.Part.{part}
use Rattle.combinators.specs.All.{All}
use Rattle.characters.proofs.Scalars.{by_scalar}
use Rattle.lexer.specs.Token.{Token, ident, function, hash, string, bad_string, delim, number, dimension, percentage, cdo, cdc, colon, semicolon, comma, open_square, close_square, open_round, close_round, open_brace, close_brace, token_of, coded, text_of}
use Rattle.lexer.specs.TokenRow.{token_width, columns_of, word, row_of, token_row}
use Rattle.lexer.specs.declared.tokens.Token as lexer
use Rattle.lexer.proofs.Delimiters.{delim-scalar}
use Rattle.lexer.proofs.TokenBounds.{on-holds}
use Rattle.lexer.proofs.TokenRows.{word_same, row_back}
use Rattle.syntax.specs.Stream.{Read}
use Rattle.syntax.proofs.Streams.{Held, held-left, held-right, held-part, many-back, sets-drop, sets-held}
use Rattle.values.specs.Value.{Placed, bracket_of, Step, next, before, behind, wrong, step_of, Statement, stop, cons, on_step, scan, statement_of, tokens_of}
use Rattle.values.specs.Layout.{placed_row, placed_text, rows_of, texts_of, left}
use Rattle.values.specs.View.{token_with, read_token, tokens_at}

-- a token whose delimiter, if it is one, has 32 bits
unfoldable pub Small : Token → Type 0
Small k = (c : ℕ) → k ≡ delim c → c < 2 ^ 32

-- tokens whose numbers fit 32 bits
abbrev pub AllSmall : List Placed → Type 0
AllSmall ts = All (λ t. Small t.token) ts

-- the tokens, without their starts
tokens-map : (ts : List Placed) → tokens_of ts ≡ map (λ (t : Placed). t.token) ts
unfolding tokens_of
tokens-map [] = refl
tokens-map (t ∷ ts) = rw (tokens-map ts)

-- a row says where the text starts, with 32 bits
row-start : (byte start : ℕ) (k : lexer.Token) (t : List ℕ) → get_or (row_of byte start k ++ t) 2 0 ≡ word start
unfolding row_of
row-start byte start k t = refl

-- and the rows behind it stand one width further
row-behind : (byte start : ℕ) (k : lexer.Token) (t : List ℕ) → drop token_width (row_of byte start k ++ t) ≡ t
unfolding row_of
row-behind byte start k t = refl

module _ (store : List ℕ) where
  -- ---- one token
  -- a text n bytes behind a start, which the row has with 32 bits
  text-behind : (f n : ℕ) (xs : List ℕ) → f + n + length xs < 2 ^ 32 → Held store (f + n) xs → part store (word f + n) (length xs) ≡ xs
  text-behind f n xs l h = rw (word_same f (omega arith)) (held-part store (f + n) xs h)

  -- a text that lies in the store is read back by its start and its length
  text-back : (f : ℕ) (xs : List ℕ) → f + length xs < 2 ^ 32 → Held store f xs → part store (word f) (length xs) ≡ xs
  text-back f xs l h = rw (word_same f (omega arith)) (held-part store f xs h)

  -- the texts of a token are read back
  texts-back : (f : ℕ) (k : Token) → f + length (text_of k) < 2 ^ 32 → Held store f (text_of k) → token_with store (word f) (coded k) ≡ k
  unfolding token_with coded text_of
  texts-back f (ident b) l h = ap ident (text-back f b l h)
  texts-back f (function b) l h = ap function (text-back f b l h)
  texts-back f (hash b) l h = ap hash (text-back f b l h)
  texts-back f (string b) l h = ap string (text-back f b l h)
  texts-back f (bad_string b) l h = ap bad_string (text-back f b l h)
  texts-back f (delim c) l h = refl
  texts-back f (number b) l h = ap number (text-back f b l h)
  texts-back f (dimension b u) l h =
      let e = length-append b u in
      rw (text-back f b (omega arith) (held-left store f b u h), text-behind f (length b) u (omega arith) (held-right store f b u h))
  texts-back f (percentage b) l h = ap percentage (text-back f b l h)
  texts-back f cdo l h = refl
  texts-back f cdc l h = refl
  texts-back f colon l h = refl
  texts-back f semicolon l h = refl
  texts-back f comma l h = refl
  texts-back f open_square l h = refl
  texts-back f close_square l h = refl
  texts-back f open_round l h = refl
  texts-back f close_round l h = refl
  texts-back f open_brace l h = refl
  texts-back f close_brace l h = refl

  -- the two numbers of a small token fit 32 bits
  narrow : (k : Token) → Small k → length (text_of k) < 2 ^ 32 → ((columns_of (coded k)).first < 2 ^ 32) × ((columns_of (coded k)).second < 2 ^ 32)
  unfolding columns_of coded text_of Small
  narrow (ident b) s l = (l, omega arith)
  narrow (function b) s l = (l, omega arith)
  narrow (hash b) s l = (l, omega arith)
  narrow (string b) s l = (l, omega arith)
  narrow (bad_string b) s l = (l, omega arith)
  narrow (delim c) s l = (s c refl, omega arith)
  narrow (number b) s l = (l, omega arith)
  narrow (dimension b u) s l = (omega (arith, length-append b u), omega (arith, length-append b u))
  narrow (percentage b) s l = (l, omega arith)
  narrow cdo s l = (omega arith, omega arith)
  narrow cdc s l = (omega arith, omega arith)
  narrow colon s l = (omega arith, omega arith)
  narrow semicolon s l = (omega arith, omega arith)
  narrow comma s l = (omega arith, omega arith)
  narrow open_square s l = (omega arith, omega arith)
  narrow close_square s l = (omega arith, omega arith)
  narrow open_round s l = (omega arith, omega arith)
  narrow close_round s l = (omega arith, omega arith)
  narrow open_brace s l = (omega arith, omega arith)
  narrow close_brace s l = (omega arith, omega arith)

  -- a token is read back from its row
  token_back : (byte f : ℕ) (k : Token) (t : List ℕ) → Small k → Held store f (text_of k) → f + length (text_of k) < 2 ^ 32
      → read_token store (token_row byte f k ++ t) ≡ record { value = k; rest = t }
  unfolding read_token token_row
  token_back byte f k t s h l =
      let n = narrow k s (omega arith) in
      rw (row_back byte f (coded k) t n.0 n.1, row-start byte f (coded k) t, row-behind byte f (coded k) t, texts-back f k l h)

  -- ---- tokens that were written behind f bytes of text, whatever stands behind them
  -- the tokens are read back from their rows, with their texts in the store
  pub tokens-read : (ts : List Placed) (f : ℕ) (t : List ℕ) → AllSmall ts → Held store f (texts_of ts) → f + length (texts_of ts) < 2 ^ 32
      → tokens_at (rows_of f ts ++ t) store (length ts) ≡ tokens_of ts
  unfolding tokens_at
  tokens-read ts f t s h l =
      rw (tokens-map ts)
      (ap (λ (r : Read (List Token)). r.value)
      (many-back store placed_row placed_text (read_token store) (λ p. p.token) (λ p. Small p.token) (2 ^ 32 - 1)
      (λ f p t s h l. token_back p.start f p.token t s h (omega arith)) ts f t s h (omega arith)))

-- tokens written into lent rows, and their texts into a lent store from fill on, are read back
pub tokens-back : (ts : List Placed) (rows store : List ℕ) (fill : ℕ) → AllSmall ts → length (rows_of fill ts) ≤ length rows
    → fill + length (texts_of ts) ≤ length store → fill + length (texts_of ts) < 2 ^ 32
    → tokens_at (sets rows 0 (rows_of fill ts)) (sets store fill (texts_of ts)) (length ts) ≡ tokens_of ts
tokens-back ts rows store fill s h k bits =
    rw (sets-drop rows 0 (rows_of fill ts) (omega arith))
    (tokens-read (sets store fill (texts_of ts)) ts fill _ s (sets-held store fill (texts_of ts) k) bits)

-- ---- the tokens of a statement are such
-- a token that was read
token-small : (s : List ℕ) (n : ℕ) (k : Token) → token_of s ≡ ok n k → Small k
unfolding Small
token-small s n k e c h = by_scalar (c < 2 ^ 32) c (delim-scalar s n c (e ∙ ap (ok n) h)) (λ l. omega arith) (λ _ l. omega arith)

-- what holds of every way that a statement goes on
pub step-holds : {A : Type 0} (P : A → Type 0) (x : Step) (b a w : A) (f : List ℕ → A) → P b → P a → P w → ((cs : List ℕ) → P (f cs)) → P (on_step x b a w f)
unfolding on_step
step-holds P (next cs) b a w f p q r g = g cs
step-holds P before b a w f p q r g = p
step-holds P behind b a w f p q r g = q
step-holds P wrong b a w f p q r g = r

-- tokens that are read from any place on have small numbers
scan-small : (l : ℕ) (include : Bool) (s : List ℕ) (at : ℕ) (cs : List ℕ) → AllSmall (scan l include s at cs).tokens
unfolding scan stop cons
scan-small zero include s at cs = tt
scan-small (suc l) include s at cs =
    let P : Statement → Type 0 = λ r. AllSmall r.tokens in
    on-holds P (token_of s) _ _
    (λ n k e. let h = token-small s n k e in
    step-holds P (step_of include (bracket_of k) cs) _ _ _ _ tt (h, tt) tt (λ ds. (h, scan-small l include (drop n s) (at + n) ds)))
    (λ _. tt)

-- the tokens of a statement of any text are small
pub statement-small : (include : Bool) (s : List ℕ) → AllSmall (statement_of include s).tokens
unfolding statement_of
statement-small include s = scan-small (length s + 1) include s 0 []

-- so the tokens of a statement are read back from what it leaves
pub statement-back : (include : Bool) (s rows brackets store : List ℕ) (fill : ℕ) → length (rows_of fill (statement_of include s).tokens) ≤ length rows
    → fill + length (texts_of (statement_of include s).tokens) ≤ length store → fill + length (texts_of (statement_of include s).tokens) < 2 ^ 32
    → let l = left (statement_of include s) rows brackets store fill in
    tokens_at l.rows l.store (length (statement_of include s).tokens) ≡ tokens_of (statement_of include s).tokens
unfolding left
statement-back include s rows brackets store fill h k bits = tokens-back (statement_of include s).tokens rows store fill (statement-small include s) h k bits
