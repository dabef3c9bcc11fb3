-- A token by its first character, and the next token behind white space: the returns of `token_at` and `parse_token`.
use Rattle.std.proofs.lemmas.Option.{same_Some, none-some}
use Rattle.std.proofs.Common.{Option, Some, None}
use mathlib.Core.Path.{◌≡◌, refl, ap, sym, ◌∙◌}
use mathlib.Core.List.{List, []}
use mathlib.Core.Bool.{Bool, true, false}
use Prim.Native.Nat.{ℕ, ◌+◌, ◌-◌}
use lib.ListN.{length, take, drop}
use lib.Seq.{sets}
use Rattle.combinators.specs.Choice.{pick, is}
use Prim.Native.Char.{code as ascii}
use Rattle.combinators.specs.Parsed.{Parsed, ok, err, behind}
use Rattle.combinators.proofs.Lists.{rest}
use Rattle.characters.specs.Utf8.{scalar_of}
use Rattle.combinators.specs.declared.taken.Taken.{Taken}
use Rattle.lexer.specs.Whitespace.{skip_whitespace}
use Rattle.lexer.specs.Token.{Token, mark_of, token_with, token_at, token_of, coded, text_of, token_answer, token_text, lexed_answer}
use Rattle.lexer.specs.declared.tokens.Lexed.{Lexed}
use Rattle.lexer.specs.declared.tokens.Token as declared
use Rattle.lexer.proofs.TokenAnswers.{Lexes, lexes-err}

-- ---- a mark, the last row of `token_with`
-- no token of a choice has a text
no_text : (b : Bool) (x y : Token) → text_of x ≡ [] → text_of y ≡ [] → text_of (pick b x y) ≡ []
unfolding pick
no_text true x y p q = p
no_text false x y p q = q

-- a mark has no text
pub mark-text : (c : ℕ) → text_of (mark_of c) ≡ []
unfolding mark_of text_of
mark-text c =
    no_text (is c (ascii ";")) _ _ refl
    (no_text (is c (ascii "(")) _ _ refl
    (no_text (is c (ascii ")")) _ _ refl
    (no_text (is c (ascii ",")) _ _ refl
    (no_text (is c (ascii ":")) _ _ refl
    (no_text (is c (ascii "[")) _ _ refl
    (no_text (is c (ascii "]")) _ _ refl
    (no_text (is c (ascii "{")) _ _ refl
    (no_text (is c (ascii "}")) _ _ refl
    refl))))))))

-- so the store is left alone
pub mark-lexes : (c n : ℕ) (st : List ℕ) (fill : ℕ) (k : declared.Token) → k ≡ coded (mark_of c) → Lexes (ok n (mark_of c)) st fill (Some (record { taken = n; value = k })) st
unfolding token_answer token_text
mark-lexes c n st fill k e = (ap (λ x. Some (record { taken = n; value = x })) e, sym (ap (sets st fill) (mark-text c)))

-- ---- `token_at`: by the character at the start, if there is one
module _ (t st : List ℕ) (fill : ℕ) (x : Option (Taken ℕ)) (ex : x ≡ scalar_of t) where
  -- the return where a character is there: the token by what it starts
  pub at-char : (n c : ℕ) → x ≡ Some (record { taken = n; value = c }) → (r : Option (Taken declared.Token)) (z : List ℕ) → Lexes (token_with n c t) st fill r z
      → Lexes (token_at t (scalar_of t)) st fill r z
  unfolding token_at
  at-char n c h r z w = rw (sym ex ∙ h) w

  -- where no character can be read, there is no token and the store is as it was
  pub at_none : x ≡ None → Lexes (token_at t (scalar_of t)) st fill None st
  unfolding token_at
  at_none h = lexes-err _ (rw (sym ex ∙ h)) st st fill refl

-- ---- `parse_token`: the same behind w bytes of white space
-- the answer and the store that it leaves
abbrev pub LexedAs : ℕ → Parsed Token → List ℕ → ℕ → Option Lexed → List ℕ → Type 0
LexedAs w p st fill r z = (r ≡ lexed_answer w p) × (z ≡ sets st fill (token_text p))

-- a token of n bytes behind k bytes of white space starts at k and ends at k + n
lexed-ok : (p : Parsed Token) (k n : ℕ) (st z : List ℕ) (fill : ℕ) (x : declared.Token) → Lexes p st fill (Some (record { taken = n; value = x })) z
    → LexedAs k (behind k p) st fill (Some (record { start = k; end = k + n; token = x })) z
unfolding behind token_answer token_text lexed_answer
lexed-ok (ok i y) k n st z fill x w =
    let q : record { taken = n; value = x } ≡ record { taken = i; value = coded y } = same_Some _ _ w.0 in
    (ap (λ r. Some (record { start = k; end = k + r.taken; token = r.value })) q, w.1)
lexed-ok err k n st z fill x w = absurd (none-some _ (sym w.0))

-- where there is no token behind the white space, there is no next token
lexed-err : (p : Parsed Token) (k : ℕ) (st z : List ℕ) (fill : ℕ) → Lexes p st fill None z → LexedAs k (behind k p) st fill None z
unfolding behind token_answer token_text lexed_answer
lexed-err (ok i y) k st z fill w = absurd (none-some _ w.0)
lexed-err err k st z fill w = (refl, w.1)

module _ (s : List ℕ) (k : ℕ) (ek : k ≡ skip_whitespace s) (x : Option (Taken declared.Token)) (st z : List ℕ) (fill : ℕ)
    (w : Lexes (token_at (take (length s - k) (drop k s)) (scalar_of (take (length s - k) (drop k s)))) st fill x z) where
  -- what the call on the rest of the text says of it
  lent-part : Lexes (token_at (drop k s) (scalar_of (drop k s))) st fill x z
  lent-part = rw (rest s k) at w

  -- a token that is read behind the white space is the next token of the text, and starts where the white space ends
  pub lexed : (n : ℕ) (y : declared.Token) → x ≡ Some (record { taken = n; value = y }) → LexedAs (skip_whitespace s) (token_of s) st fill (Some (record { start = k; end = k + n; token = y })) z
  unfolding token_of
  lexed n y h = rw (← ek) (lexed-ok _ k n st z fill y (rw h at lent-part))

  -- where no token is read behind the white space, the text has no next token
  pub nothing-lexed : x ≡ None → LexedAs (skip_whitespace s) (token_of s) st fill None z
  unfolding token_of
  nothing-lexed h = rw (← ek) (lexed-err _ k st z fill (rw h at lent-part))
