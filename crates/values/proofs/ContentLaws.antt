-- Contents: the strings of a value, and the sum of their lengths.
use Prim.Native.Nat.{ℕ, ◌+◌, ◌*◌, ◌-◌, ◌^◌, ◌≤◌, ◌<◌}
use mathlib.Core.Path.{◌≡◌, refl, sym, ap, ◌∙◌}
use mathlib.Core.Bool.{Bool, true, false}
use mathlib.Core.List.{List, ◌++◌}
use native.Mathlib.Omega.{arith}
use native.Mathlib.Nat.{add-zero, zero-add}
use lib.ListN.{length, get_or, drop, length-append}
use Rattle.std.specs.Prelude.{Option, Some, None}
use Rattle.combinators.specs.Choice.{pick, is}
use Rattle.combinators.proofs.Rules.{pick_true, pick-false, told}
use Rattle.lexer.specs.Token.{Token, text_of}
use Rattle.lexer.specs.TokenRow.{token_width, kind_column, string_kind}
use Rattle.syntax.specs.Stream.{texts_many}
use Rattle.values.specs.Words.{Found, found, missing, on_found}
use Rattle.values.specs.View.{token_here, first_text, tokens_at}
use Rattle.values.specs.Property.{content_of}
use Rattle.values.specs.ValueAnswer.{ContentRoom, content_answer}
use Rattle.values.proofs.TokenKinds.{is_kind, content-told}
use Rattle.values.proofs.TokenViews.{string-text, kind-told, here-text, next-token, no-token}

-- the answer where strings of n bytes stand before a content
unfoldable pub content_behind : ℕ → Found (List ℕ) → Option ℕ
content_behind n f = on_found f (λ b. Some (n + length b)) None

-- with no bytes before it a content is answered as it is
behind-none : (f : Found (List ℕ)) → content_answer f ≡ content_behind 0 f
unfolding content_answer content_behind on_found
behind-none (found b) = ap Some (sym (zero-add (length b)))
behind-none missing = refl

-- one string more in front adds its length to the content
behind-string : (n : ℕ) (t : List ℕ) (f : Found (List ℕ)) → content_behind n (on_found f (λ b. found (t ++ b)) missing) ≡ content_behind (n + length t) f
unfolding content_behind on_found
behind-string n t (found b) = ap Some (let l = length-append t b in omega arith)
behind-string n t missing = refl

-- ---- `parse_content`: the content by the tokens from the i-th on, behind the n bytes of those before it, is the content by all
module _ (rows store : List ℕ) where
  -- the tokens from the i-th on
  abbrev left : ℕ → ℕ → List Token
  left count i = tokens_at (drop (i * token_width) rows) store (count - i)

  pub record Joining (count i n : ℕ) : Type 0 where
    pub same : content_answer (content_of (tokens_at rows store count)) ≡ content_behind n (content_of (left count i))
    pub fits : n + length (texts_many text_of (left count i)) < 2 ^ 64

  -- before the first token the content is empty, and all tokens are left
  pub joining-begin : (count : ℕ) → ContentRoom (tokens_at rows store count) → Joining count 0 0
  joining-begin count c =
      let e : count - 0 ≡ count = omega arith in
      record { same = rw e (behind-none _); fits = rw e (omega (arith, c.fits)) }

  module _ (count i n : ℕ) (c : Joining count i n) where
    abbrev whole : Option ℕ
    whole = content_answer (content_of (tokens_at rows store count))

    -- with no token left, the content is what was joined
    pub joining-done : count ≤ i → Some n ≡ whole
    unfolding content_behind content_of on_found
    joining-done h = sym (c.same ∙ rw (no-token rows store count i h, add-zero n))

    -- the next token, and b that it is a string
    module _ (h : i < count) (b : Bool) (e : b ≡ is (get_or rows (i * token_width + kind_column) 0) string_kind) where
      abbrev token : Token
      token = token_here rows store (i * token_width)

      abbrev after : List Token
      after = left count (i + 1)

      -- the test of the token is that of its row
      told-string : (v : Bool) → b ≡ v → is_kind string_kind token ≡ v
      told-string v p = kind-told rows store (i * token_width) string_kind string-text.kind b v e p

      -- the content by this token and those behind it
      turn : whole ≡ content_behind n (pick (is_kind string_kind token) (on_found (content_of after) (λ b. found (text_of token ++ b)) missing) missing)
      turn = c.same ∙ ap (λ ks. content_behind n (content_of ks)) (next-token rows store count i h) ∙ ap (content_behind n) (content-told token after)

      -- a token that is no string makes the whole no content
      pub joining-stop : b ≡ false → None ≡ whole
      unfolding content_behind on_found
      joining-stop p = sym (turn ∙ ap (content_behind n) (sym (pick-false _ _ _ _ (told-string false p) refl)))

      -- it is one, with the text t
      module _ (p : b ≡ true) (t : List ℕ) (et : t ≡ first_text rows store (i * token_width)) where
        -- its text is the one that the row names
        text : text_of token ≡ t
        text = here-text rows store (i * token_width) string_kind string-text (told _ _ _ e p) ∙ sym et

        -- the bytes of the tokens left
        sum : length (texts_many text_of (left count i)) ≡ length t + length (texts_many text_of after)
        unfolding texts_many
        sum =
            ap (λ ks. length (texts_many text_of ks)) (next-token rows store count i h) ∙ length-append (text_of token) _
            ∙ ap (λ s. length s + length (texts_many text_of after)) text

        -- the length with this string's fits a word
        pub joining-room : n + length t < 2 ^ 64
        joining-room = omega (arith, c.fits, sum)

        -- with this string joined, the tokens behind it are left
        pub joining-more : Joining count (i + 1) (n + length t)
        joining-more =
            record {
              same =
                  turn ∙ ap (content_behind n) (sym (pick_true _ _ _ _ (told-string true p) refl)) ∙ behind-string n (text_of token) (content_of after)
                  ∙ ap (λ s. content_behind (n + length s) (content_of after)) text;
              fits = omega (arith, c.fits, sum);
            }
