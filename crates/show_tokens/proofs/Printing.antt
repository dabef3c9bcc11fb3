-- What is printed lies in the text and in the store.
use mathlib.Core.Path.{◌≡◌, refl, ap, sym, ◌∙◌}
use mathlib.Core.List.{List}
use Prim.Native.Nat.{ℕ, ◌+◌, ◌-◌, ◌≤◌}
use native.Mathlib.Omega.{arith}
use lib.ListN.{length, take, drop, length-drop}
use Rattle.std.proofs.Common.{Option, Some}
use Rattle.combinators.specs.Parsed.{Parsed, ok, err}
use Rattle.combinators.proofs.Lists.{rest}
use Rattle.lexer.specs.Token as lexer
use Rattle.lexer.specs.Token.{coded, token_of, lexed_answer, length_by}
use Rattle.lexer.specs.Whitespace.{skip_whitespace}
use Rattle.lexer.specs.declared.tokens.Token as declared
use Rattle.lexer.specs.declared.tokens.Token.TheVariants as code
use Rattle.lexer.specs.declared.tokens.Lexed.{Lexed}
use Rattle.lexer.proofs.Bounds.{bound-two}
use Rattle.lexer.proofs.Comments.{skip-le}
use Rattle.lexer.proofs.TokenBounds.{token-fits, length-coded}
use Rattle.show_tokens.specs.Texts.{texts_of, texts_length}

-- ---- the texts of a token
-- they take as many bytes of the store as the token says
pub texts-length : (k : declared.Token) → texts_length (texts_of k) ≡ length_by k
unfolding texts_length texts_of length_by
texts-length (code.Ident n) = refl
texts-length (code.Function n) = refl
texts-length (code.Hash n) = refl
texts-length (code.String n) = refl
texts-length (code.BadString n) = refl
texts-length (code.Delim c) = refl
texts-length (code.Number n) = refl
texts-length (code.Dimension n u) = refl
texts-length (code.Percentage n) = refl
texts-length code.CDO = refl
texts-length code.CDC = refl
texts-length code.Colon = refl
texts-length code.Semicolon = refl
texts-length code.Comma = refl
texts-length code.OpenSquare = refl
texts-length code.CloseSquare = refl
texts-length code.OpenRound = refl
texts-length code.CloseRound = refl
texts-length code.OpenBrace = refl
texts-length code.CloseBrace = refl

-- ---- a token that was read

-- where a token starts and ends, and the room of its texts, in m bytes of text
pub record Shown (m w n : ℕ) (k : declared.Token) : Type 0 where
  pub starts : w ≤ m
  pub some : 1 ≤ n
  pub ends : n ≤ m
  pub texts : texts_length (texts_of k) ≤ m + 2

-- by what the definition reads
shown_of : (s : List ℕ) (p : Parsed lexer.Token) → token_of s ≡ p → (l : Lexed) → lexed_answer (skip_whitespace s) p ≡ Some l → Shown (length s) l.start l.end l.token
unfolding lexed_answer
shown_of s (ok i x) e l h =
    let f = token-fits s i x e in
    let a : record { start = skip_whitespace s; end = i; token = coded x } ≡ l = cc in
    record {
      starts = rw (sym a) (skip-le s);
      some = rw (sym a) f.some;
      ends = rw (sym a) f.within_text;
      texts = rw (sym a) (omega (arith, texts-length (coded x), length-coded x, bound-two f.bound, f.within_text));
    }
shown_of s err e l h = absurd (let q : ◌≡◌ {A = ℕ} 0 1 = cc in omega arith)

-- the token that `parse_token` reads from the byte at i on
pub shown : (s : List ℕ) (i : ℕ) (x : Option Lexed) (t : List ℕ) → t ≡ take (length s - i) (drop i s)
    → x ≡ lexed_answer (skip_whitespace t) (token_of t) → (l : Lexed) → x ≡ Some l → Shown (length s - i) l.start l.end l.token
shown s i x t d a l e =
    let z : length t ≡ length s - i = ap length (d ∙ rest s i) ∙ length-drop i s in
    rw z at (shown_of t (token_of t) refl l (sym a ∙ e))
