-- How many tokens a statement has, and how long their texts are: once for all texts.
use mathlib.Core.Path.{◌≡◌, refl}
use mathlib.Core.Bool.{Bool, true, false}
use mathlib.Core.List.{List, [], ◌∷◌}
use Prim.Native.Nat.{ℕ, zero, suc, ◌+◌, ◌*◌, ◌≤◌, ◌<◌}
use native.Mathlib.Omega.{arith}
use lib.ListN.{length, drop, length-append, length-drop}
use Rattle.lexer.specs.Token.{token_of, text_of}
use Rattle.lexer.specs.TokenRow.{token_width, row_of, token_row}
use Rattle.lexer.proofs.Bounds.{Bound, short, lone, Fits}
use Rattle.lexer.proofs.TokenBounds.{token-fits, on-holds}
use Rattle.syntax.specs.Stream.{rows_many, texts_many}
use Rattle.values.specs.Value.{Placed, bracket_of, step_of, Statement, stop, cons, scan, statement_of}
use Rattle.values.specs.Layout.{rows_of, texts_of}
use Rattle.values.proofs.Views.{step-holds}

-- a statement at `at`, of the bytes s: a byte or more for each token, and two bytes of text more than there are bytes at most,
-- none more where the text goes on
pub record Sized (s : List ℕ) (at : ℕ) (r : Statement) : Type 0 where
  pub counted : at + length r.tokens ≤ r.taken
  pub within : r.taken ≤ at + length s
  pub text : length (texts_of r.tokens) ≤ length s + 2
  pub none : length s ≡ 0 → length (texts_of r.tokens) ≡ 0
  pub sharp : r.taken < at + length s → at + length (texts_of r.tokens) ≤ r.taken

-- a statement that ends at once has no tokens and no texts
stop-sized : (s : List ℕ) (at : ℕ) (b : Bool) → Sized s at (stop at b)
unfolding stop texts_many
stop-sized s at b = record { counted = omega arith; within = omega arith; text = omega arith; none = λ _. refl; sharp = λ _. omega arith }

-- of a token and more
module _ (s : List ℕ) (at n : ℕ) (t : Placed) (f : Fits s n (text_of t.token)) (r : Statement) (h : Sized (drop n s) (at + n) r) where
  -- the token's text and those behind it are at most two bytes longer than the text
  text-more : Bound s n (text_of t.token) → length (text_of t.token) + length (texts_of r.tokens) ≤ length s + 2
  text-more (short l) = omega (arith, h.text, length-drop n s, f.within_text)
  text-more (lone l e x) = omega (arith, h.none (omega (arith, length-drop n s)))

  -- where the text goes on, they are no longer than what was taken
  text-sharp : r.taken < at + length s → Bound s n (text_of t.token) → at + (length (text_of t.token) + length (texts_of r.tokens)) ≤ r.taken
  text-sharp o (short l) = omega (arith, h.sharp (omega (arith, length-drop n s, f.within_text)))
  text-sharp o (lone l e x) = absurd (omega (arith, h.counted))

  -- a token in front of a statement within its bounds makes one within its bounds
  cons-sized : Sized s at (cons t r)
  unfolding cons texts_many
  cons-sized =
      record {
        counted = omega (arith, h.counted, f.some);
        within = omega (arith, h.within, length-drop n s, f.within_text);
        text = omega (arith, length-append (text_of t.token) (texts_of r.tokens), text-more f.bound);
        none = λ e. absurd (omega (arith, f.some, f.within_text));
        sharp = λ l. omega (arith, length-append (text_of t.token) (texts_of r.tokens), text-sharp l f.bound);
      }

-- what is read of a statement from any place on, with any brackets awaited, is within its bounds
scan-sized : (l : ℕ) (include : Bool) (s : List ℕ) (at : ℕ) (cs : List ℕ) → Sized s at (scan l include s at cs)
unfolding scan
scan-sized zero include s at cs = stop-sized s at true
scan-sized (suc l) include s at cs =
    on-holds (Sized s at) (token_of s) _ _
    (λ n k e. let f = token-fits s n k e in
    step-holds (Sized s at) (step_of include (bracket_of k) cs) _ _ _ _ (stop-sized s at true) (cons-sized s at n _ f _ (stop-sized (drop n s) (at + n) true)) (stop-sized s at false)
    (λ ds. cons-sized s at n _ f _ (scan-sized l include (drop n s) (at + n) ds)))
    (λ _. stop-sized s at true)

-- a statement of any text has no more tokens, and no more bytes in their texts, than the text has
pub statement-sized : (include : Bool) (s : List ℕ) → Sized s 0 (statement_of include s)
unfolding statement_of
statement-sized include s = scan-sized (length s + 1) include s 0 []

-- the rows of tokens are as many numbers as they have columns each
pub rows_long : (ts : List Placed) (f : ℕ) → length (rows_of f ts) ≡ token_width * length ts
unfolding rows_many token_row row_of
rows_long [] f = refl
rows_long (t ∷ ts) f = let h = rows_long ts (f + length (text_of t.token)) in omega arith
