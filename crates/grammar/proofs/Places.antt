-- Places in a text, by what stands from there on; white space there; and bytes told apart by a test.
use mathlib.Core.Path.{◌≡◌, ap, sym, ◌∙◌}
use mathlib.Core.Bool.{Bool, true, false}
use mathlib.Core.List.{List, [], ◌∷◌, ◌++◌, append_assoc}
use Prim.Native.Nat.{ℕ, ◌+◌}
use native.Mathlib.Nat.{add-zero}
use lib.ListN.{length, get_or, drop}
use lib.Seq.{drop-append_seam, drop-drop}
use Prim.Native.Char.{code as ascii}
use Rattle.combinators.specs.Choice.{pick, or, is}
use Rattle.combinators.proofs.Lists.{first}
use Rattle.combinators.proofs.Rules.{never, is-no}
use Rattle.lexer.specs.Whitespace.{is_whitespace, comment_of, whitespace_item}
use Rattle.lexer.proofs.SyntaxWhitespace.{Newline, line-feed, carriage-return, form-feed, White, newline, tab, blank-space, Comment, closed, Blank, none, white, comment, skips-blank}
use Rattle.sheets.specs.Sheet.{spaced}

-- a byte that passes a test is none that does not
pub differs : (p : ℕ → Bool) (x k : ℕ) → p x ≡ true → p k ≡ false → is x k ≡ false
differs p x k e d = is-no x k (λ q. never (sym d ∙ ap p (sym q) ∙ e))

module _ (t : List ℕ) (i : ℕ) where
  -- behind bytes p that stand at a place is what follows them
  pub rest-on : (p x : List ℕ) → drop i t ≡ p ++ x → drop (i + length p) t ≡ x
  rest-on p x e = sym (drop-drop (length p) i t) ∙ ap (drop (length p)) e ∙ drop-append_seam p x

  -- behind one byte that stands at a place is what follows it
  pub rest-one : (y : ℕ) (x : List ℕ) → drop i t ≡ y ∷ x → drop (i + 1) t ≡ x
  rest-one y x e = rest-on (y ∷ []) x e

  -- the byte at a place is the first that stands from there on
  pub byte-on : (y : ℕ) (x : List ℕ) → drop i t ≡ y ∷ x → get_or t i 0 ≡ y
  byte-on y x e = sym (first t i) ∙ ap (λ (l : List ℕ). get_or l 0 0) e

  -- white space there is passed over
  pub spaced-on : (b x : List ℕ) → Blank b → whitespace_item x ≡ 0 → drop i t ≡ b ++ x → spaced t i ≡ i + length b
  unfolding spaced
  spaced-on b x h z e = rw (e, skips-blank b x h z)

  -- where none is, it stays
  pub spaced-none : (x : List ℕ) → whitespace_item x ≡ 0 → drop i t ≡ x → spaced t i ≡ i
  spaced-none x z e = spaced-on [] x none z e ∙ add-zero i

-- ---- the first byte of white space and comments, by a test that fails of all that they can begin with
pub record Unblank (p : ℕ → Bool) : Type 0 where
  pub of_space : p (ascii " ") ≡ false
  pub of-tab : p (ascii "\t") ≡ false
  pub of-line-feed : p (ascii "\n") ≡ false
  pub of-carriage-return : p (ascii "\r") ≡ false
  pub of-form-feed : p (ascii "\u{c}") ≡ false
  pub of-solidus : p (ascii "/") ≡ false

module _ (p : ℕ → Bool) (u : Unblank p) where
  -- a newline does not pass the test
  newline-first : {x : ℕ} → Newline x → p x ≡ false
  newline-first line-feed = u.of-line-feed
  newline-first carriage-return = u.of-carriage-return
  newline-first form-feed = u.of-form-feed

  -- no white space passes the test
  pub white-first : {x : ℕ} → White x → p x ≡ false
  white-first (newline n) = newline-first n
  white-first tab = u.of-tab
  white-first blank-space = u.of_space

  -- the first byte of a comment does not pass the test
  pub comment-first : {c : List ℕ} (l : List ℕ) → Comment c → p (get_or (c ++ l) 0 0) ≡ false
  comment-first l (closed body h) = u.of-solidus

  -- where it fails of what follows them
  pub blank-first : {b : List ℕ} (t : List ℕ) → Blank b → p (get_or t 0 0) ≡ false → p (get_or (b ++ t) 0 0) ≡ false
  blank-first t none e = e
  blank-first t (white x b w r) e = white-first w
  blank-first t (comment c b w r) e = ap (λ (l : List ℕ). p (get_or l 0 0)) (append_assoc c b t) ∙ comment-first (b ++ t) w

-- what begins with a byte that such a test holds of begins no white space and no comment
pub unblank-item : (p : ℕ → Bool) → Unblank p → (s : List ℕ) → p (get_or s 0 0) ≡ true → whitespace_item s ≡ 0
unfolding whitespace_item is_whitespace comment_of pick or
unblank-item p u s e =
    let x = get_or s 0 0 in
    rw (
      differs p x (ascii " ") e u.of_space,
      differs p x (ascii "\t") e u.of-tab,
      differs p x (ascii "\r") e u.of-carriage-return,
      differs p x (ascii "\n") e u.of-line-feed,
      differs p x (ascii "\u{c}") e u.of-form-feed,
      differs p x (ascii "/") e u.of-solidus,
    )
