-- A string of the grammar is read whole, and is the text that it stands for.
use Rattle.std.proofs.Common.{Some}
use mathlib.Core.Path.{◌≡◌, refl, ap, sym, ◌∙◌}
use mathlib.Core.Bool.{true, false, not}
use mathlib.Core.List.{List, [], ◌∷◌, ◌++◌}
use Prim.Native.Nat.{ℕ, suc, ◌+◌}
use native.Mathlib.Nat.{add-zero}
use native.Mathlib.Omega.{arith}
use lib.ListN.{length, length-append}
use lib.Seq.{get_or-append_seam}
use borrow.Author.Tests.{not-true}
use Prim.Native.Char.{code as ascii}
use Rattle.combinators.specs.Choice.{pick, or, is}
use Rattle.combinators.specs.Parsed.{ok}
use Rattle.combinators.specs.Repeat.{many, texts}
use Rattle.combinators.proofs.Repeats.{many-took, many-from, texts-took}
use Rattle.combinators.proofs.Rules.{never, and-true, is-yes, is-no}
use Rattle.characters.specs.Utf8.{taken_of}
use Rattle.lexer.specs.Quoted.{one_byte, no_byte, escaped_byte, quoted_of, text_of, quoted_taken, quoted_text, string_end, string_text}
use Rattle.lexer.specs.Token.{string, is_quote, string_from, string_of}
use Rattle.lexer.proofs.SyntaxString.{ordinary, plain, string-quote}
use Rattle.grammar.specs.Selectors.{Within, nothing, byte, escaped, continued, Quoted}

-- an ordinary byte is read as itself
byte-read : (q x : ℕ) (r : List ℕ) → ordinary q x ≡ true → quoted_of q (x ∷ r) ≡ Some (one_byte 1 x)
unfolding ordinary quoted_of pick
byte-read q x r h =
    let p = and-true (not (is x q)) _ h in
    let p' = and-true (not (is x (ascii "\n"))) _ p.1 in
    rw (
      is-no (suc (length r)) 0 (λ e. omega arith),
      not-true (is x q) p.0,
      not-true (is x (ascii "\n")) p'.0,
      not-true (is x (ascii "\\")) p'.1,
    )

module _ (q : ℕ) (h : is_quote q ≡ true) where
  -- a backslash is no quote
  unquoted : is (ascii "\\") q ≡ false
  unquoted = is-no (ascii "\\") q (λ e. let p : is_quote (ascii "\\") ≡ false = unfold is_quote or is in refl in never (sym p ∙ ap is_quote e ∙ h))

  -- so what it stands before is read as itself
  escaped-read : (x : ℕ) (r : List ℕ) → is x (ascii "\n") ≡ false → quoted_of q (ascii "\\" ∷ x ∷ r) ≡ Some (one_byte 2 x)
  unfolding quoted_of escaped_byte pick
  escaped-read x r e =
      rw (
        is-no (suc (suc (length r))) 0 (λ z. omega arith),
        unquoted,
        is-no (ascii "\\") (ascii "\n") (λ z. omega arith),
        is-yes (ascii "\\") (ascii "\\") refl,
        is-no (suc (suc (length r))) 1 (λ z. omega arith),
        e,
      )

  -- and with a newline it is nothing
  continued-read : (r : List ℕ) → quoted_of q (ascii "\\" ∷ ascii "\n" ∷ r) ≡ Some (no_byte 2)
  unfolding quoted_of escaped_byte pick
  continued-read r =
      rw (
        is-no (suc (suc (length r))) 0 (λ z. omega arith),
        unquoted,
        is-no (ascii "\\") (ascii "\n") (λ z. omega arith),
        is-yes (ascii "\\") (ascii "\\") refl,
        is-no (suc (suc (length r))) 1 (λ z. omega arith),
        is-yes (ascii "\n") (ascii "\n") refl,
      )

  module _ (u : List ℕ) where
    -- it ends at its quote
    quote-end : (i : ℕ) → many (quoted_taken q) i 0 (q ∷ u) ≡ i
    unfolding string_end plain
    quote-end i =
        ap (λ (j : ℕ). many (quoted_taken q) j 0 (q ∷ u)) (sym (add-zero i)) ∙ many-from i (quoted_taken q) (q ∷ u) 0 0
        ∙ ap (λ (n : ℕ). i + n) (string-quote q [] refl u).0 ∙ add-zero i

    -- and has no text there
    quote-text : texts (quoted_taken q) (quoted_text q) 0 (q ∷ u) ≡ []
    unfolding string_text plain
    quote-text = (string-quote q [] refl u).1

    -- what is read of it
    within_end : {w b : List ℕ} → Within q w b → (i : ℕ) → many (quoted_taken q) i 0 (w ++ (q ∷ u)) ≡ i + length w
    unfolding quoted_taken taken_of
    within_end nothing i = quote-end i ∙ sym (add-zero i)
    within_end (byte {x} {w} e s) i =
        many-took (quoted_taken q) (x ∷ (w ++ (q ∷ u))) i 1 (omega arith) (ap taken_of (byte-read q x (w ++ (q ∷ u)) e)) (λ z. omega arith)
        ∙ within_end s (i + 1) ∙ omega arith
    within_end (escaped {x} {w} d e s) i =
        many-took (quoted_taken q) (ascii "\\" ∷ x ∷ (w ++ (q ∷ u))) i 2 (omega arith) (ap taken_of (escaped-read x (w ++ (q ∷ u)) e)) (λ z. omega arith)
        ∙ within_end s (i + 2) ∙ omega arith
    within_end (continued {w} s) i =
        many-took (quoted_taken q) (ascii "\\" ∷ ascii "\n" ∷ (w ++ (q ∷ u))) i 2 (omega arith) (ap taken_of (continued-read (w ++ (q ∷ u)))) (λ z. omega arith)
        ∙ within_end s (i + 2) ∙ omega arith

    -- and the text that it is
    within_text : {w b : List ℕ} → Within q w b → texts (quoted_taken q) (quoted_text q) 0 (w ++ (q ∷ u)) ≡ b
    unfolding quoted_taken quoted_text taken_of text_of
    within_text nothing = quote-text
    within_text (byte {x} {w} e s) =
        let p = byte-read q x (w ++ (q ∷ u)) e in
        texts-took (quoted_taken q) (quoted_text q) (x ∷ (w ++ (q ∷ u))) 1 (omega arith) (ap taken_of p) (λ z. omega arith)
        ∙ ap (λ (t : List ℕ). t ++ texts (quoted_taken q) (quoted_text q) 0 (w ++ (q ∷ u))) (ap text_of p) ∙ ap (λ (t : List ℕ). x ∷ t) (within_text s)
    within_text (escaped {x} {w} d e s) =
        let p = escaped-read x (w ++ (q ∷ u)) e in
        texts-took (quoted_taken q) (quoted_text q) (ascii "\\" ∷ x ∷ (w ++ (q ∷ u))) 2 (omega arith) (ap taken_of p) (λ z. omega arith)
        ∙ ap (λ (t : List ℕ). t ++ texts (quoted_taken q) (quoted_text q) 0 (w ++ (q ∷ u))) (ap text_of p) ∙ ap (λ (t : List ℕ). x ∷ t) (within_text s)
    within_text (continued {w} s) =
        let p = continued-read (w ++ (q ∷ u)) in
        texts-took (quoted_taken q) (quoted_text q) (ascii "\\" ∷ ascii "\n" ∷ (w ++ (q ∷ u))) 2 (omega arith) (ap taken_of p) (λ z. omega arith)
        ∙ ap (λ (t : List ℕ). t ++ texts (quoted_taken q) (quoted_text q) 0 (w ++ (q ∷ u))) (ap text_of p) ∙ within_text s

-- a string that its quote ends
string-closed : (q : ℕ) (w b u : List ℕ) → is_quote q ≡ true → string_end q (w ++ (q ∷ u)) ≡ length w → string_text q (w ++ (q ∷ u)) ≡ b
    → string_of (q ∷ (w ++ (q ∷ u))) ≡ ok (1 + length w + 1) (string b)
unfolding string_of string_from pick
string-closed q w b u h e x =
    rw (
      h,
      e,
      x,
      is-no (length w) (length (w ++ (q ∷ u))) (λ z. omega (arith, length-append w (q ∷ u))),
      get_or-append_seam w q u 0,
      is-yes q q refl,
    )

-- so a string of the grammar is read whole, as the text that it is
pub quoted-read : (v : Quoted) (u : List ℕ) → string_of (v.quote ∷ (v.bytes ++ (v.quote ∷ u))) ≡ ok (1 + length v.bytes + 1) (string v.body)
unfolding string_end string_text
quoted-read v u =
    string-closed v.quote v.bytes v.body u v.quotes (within_end v.quote v.quotes u v.stands 0 ∙ omega arith) (within_text v.quote v.quotes u v.stands)
