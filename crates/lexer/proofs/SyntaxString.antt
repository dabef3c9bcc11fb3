-- CSS Syntax Level 3, 4.3.5 'Consume a string token': a code point that is not the ending one, a newline or a backslash stands for
-- itself; the ending code point, a newline and the end of the text end the string.
use Rattle.std.proofs.Common.{Option, Some, None}
use mathlib.Core.Path.{◌≡◌, refl, ap, sym, ◌∙◌}
use mathlib.Core.List.{List, [], ◌∷◌, ◌++◌, append-nil}
use mathlib.Core.Bool.{Bool, true, false, not}
use Prim.Native.Nat.{ℕ, suc, ◌+◌}
use native.Mathlib.Nat.{add-zero}
use native.Mathlib.Omega.{arith}
use lib.ListN.{length}
use borrow.Author.Tests.{not-true}
use Rattle.combinators.specs.Choice.{pick, and, is}
use Prim.Native.Char.{code as ascii}
use Rattle.combinators.specs.Repeat.{many, texts, took}
use Rattle.combinators.proofs.Rules.{pick-holds, pick_true, pick-false, and-true, is-yes, is-no}
use Rattle.combinators.proofs.Repeats.{many-stop, texts-stop}
use Rattle.combinators.specs.declared.taken.Taken.{Taken}
use Rattle.characters.specs.Utf8.{taken_of}
use Rattle.lexer.specs.Quoted.{one_byte, quoted_of, text_of, quoted_taken, quoted_text, string_end, string_text}

-- x is not the quote q, a newline or a backslash
unfoldable pub ordinary : ℕ → ℕ → Bool
ordinary q x = and (not (is x q)) (and (not (is x (ascii "\n"))) (not (is x (ascii "\\"))))

-- nor is any byte of a text
unfoldable pub plain : ℕ → List ℕ → Bool
plain q [] = true
plain q (x ∷ r) = and (ordinary q x) (plain q r)

-- an ordinary byte is read as itself
itself : (q x : ℕ) (r : List ℕ) → ordinary q x ≡ true → Some (one_byte 1 x) ≡ quoted_of q (x ∷ r)
unfolding ordinary quoted_of
itself q x r h =
    let p = and-true (not (is x q)) _ h in
    let p' = and-true (not (is x (ascii "\n"))) _ p.1 in
    let filled : is (suc (length r)) 0 ≡ false = is-no _ _ (λ e. omega arith) in
    pick-false _ _ _ _ filled
    (pick-false _ _ _ _ (not-true _ p.0)
    (pick-false _ _ _ _ (not-true _ p'.0)
    (pick-false _ _ _ _ (not-true _ p'.1) refl)))

-- it takes one byte and stands for itself
itself-read : (q x : ℕ) (r : List ℕ) → ordinary q x ≡ true → (quoted_taken q (x ∷ r) ≡ 1) × (quoted_text q (x ∷ r) ≡ x ∷ [])
unfolding quoted_taken quoted_text taken_of text_of
itself-read q x r h = rw (← itself q x r h) (refl, refl)

-- a plain text before t, where no character begins, ends there
plain_end : (q : ℕ) (body t : List ℕ) (i : ℕ) → plain q body ≡ true → quoted_taken q t ≡ 0 → many (quoted_taken q) i 0 (body ++ t) ≡ i + length body
unfolding plain many took
plain_end q [] t i h e = many-stop (quoted_taken q) t i e ∙ sym (add-zero i)
plain_end q (x ∷ r) t i h e =
    let p = and-true (ordinary q x) _ h in
    rw (itself-read q x (r ++ t) p.0).0 (plain_end q r t (i + 1) p.1 e ∙ omega arith)

-- and is its own text
plain-text : (q : ℕ) (body t : List ℕ) → plain q body ≡ true → quoted_taken q t ≡ 0 → texts (quoted_taken q) (quoted_text q) 0 (body ++ t) ≡ body
unfolding plain texts took
plain-text q [] t h e = texts-stop (quoted_taken q) (quoted_text q) t e
plain-text q (x ∷ r) t h e =
    let p = and-true (ordinary q x) _ h in
    let g = itself-read q x (r ++ t) p.0 in
    rw (g.0, g.1) (ap (λ l. x ∷ l) (plain-text q r t p.1 e))

-- before any text where the string ends, it is the string and its text
reads-itself : (q : ℕ) (body t : List ℕ) → plain q body ≡ true → quoted_taken q t ≡ 0 → (string_end q (body ++ t) ≡ length body) × (string_text q (body ++ t) ≡ body)
unfolding string_end string_text
reads-itself q body t h e = (plain_end q body t 0 h e ∙ omega arith, plain-text q body t h e)

-- no character begins with the quote
stop-quote : (q : ℕ) (t : List ℕ) → quoted_taken q (q ∷ t) ≡ 0
unfolding quoted_taken quoted_of taken_of
stop-quote q t =
    ap taken_of (sym (pick-false None _ _ _ (is-no (suc (length t)) 0 (λ e. omega arith)) (pick_true _ _ _ _ (is-yes q q refl) refl)))

-- no character of a string begins with a newline
stop-newline : (q : ℕ) (t : List ℕ) → quoted_taken q (ascii "\n" ∷ t) ≡ 0
unfolding quoted_taken quoted_of taken_of is pick
stop-newline q t =
    let P : Option (Taken (Option ℕ)) → Type 0 = λ c. taken_of c ≡ 0 in
    pick-holds P (is (suc (length t)) 0) None _ (λ _. refl) (λ _. pick-holds P (is (ascii "\n") q) None None (λ _. refl) (λ _. refl))

-- nor at the end of the text
stop-empty : (q : ℕ) → quoted_taken q [] ≡ 0
unfolding quoted_taken quoted_of taken_of is pick
stop-empty q = refl

module _ (q : ℕ) (body : List ℕ) (h : plain q body ≡ true) where
  -- a string up to its quote is its text, and ends before the quote
  pub string-quote : (t : List ℕ) → (string_end q (body ++ q ∷ t) ≡ length body) × (string_text q (body ++ q ∷ t) ≡ body)
  string-quote t = reads-itself q body (q ∷ t) h (stop-quote q t)

  -- a newline, which is left to be read
  pub string-newline : (t : List ℕ) → (string_end q (body ++ ascii "\n" ∷ t) ≡ length body) × (string_text q (body ++ ascii "\n" ∷ t) ≡ body)
  string-newline t = reads-itself q body (ascii "\n" ∷ t) h (stop-newline q t)

  -- the end of the text
  pub string-end-of-text : (string_end q body ≡ length body) × (string_text q body ≡ body)
  string-end-of-text = rw append-nil at (reads-itself q body [] h (stop-empty q))
