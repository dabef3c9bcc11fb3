-- Texts: what is written is read back wherever it lies.
use mathlib.Core.Path.{◌≡◌, refl, sym, ◌∙◌}
use mathlib.Core.List.{List, ◌++◌}
use Prim.Native.Nat.{ℕ, ◌+◌, ◌≤◌, ◌<◌}
use native.Mathlib.Omega.{arith}
use borrow.Author.Tests.{le-leb}
use lib.Dec.{leb}
use lib.ListN.{length, length-append}
use Rattle.combinators.specs.Choice.{pick}
use Rattle.combinators.proofs.Rules.{pick_true}
use Rattle.syntax.proofs.Streams.{Held, held-left, held-right, held-part}
use Rattle.compiled.specs.Decoded.{read, fault}
use Rattle.compiled.specs.Number.{number_limit, number_bytes, number_at}
use Rattle.compiled.specs.Text.{text_bytes, span_at, text_in, text_at}
use Rattle.compiled.specs.declared.texts.Span.{Span}
use Rattle.compiled.proofs.Following.{held-within, then-read, mapped-read, ends_at}
use Rattle.compiled.proofs.NumberBack.{number-some, number-back}

module _ (x : List ℕ) where
  -- the length's bytes and the text's
  pub text-length : length (text_bytes x) ≡ length (number_bytes (length x)) + length x
  unfolding text_bytes
  text-length = length-append (number_bytes (length x)) x

  -- a text takes a byte
  pub text-some : 1 ≤ length (text_bytes x)
  text-some = omega (arith, text-length, number-some (length x))

module _ (t : List ℕ) (i : ℕ) (x : List ℕ) (h : Held t i (text_bytes x)) where
  -- where the text lies: behind its length, with its length
  abbrev pub span : Span
  span = record { start = i + length (number_bytes (length x)); size = length x }

  -- its place is read back
  pub span-back : length x < number_limit → span_at t i ≡ read (i + length (text_bytes x)) span
  unfolding span_at text_bytes
  span-back l =
      let n : ℕ = i + length (number_bytes (length x)) in
      let e : n + length x ≡ i + length (number_bytes (length x) ++ x) = omega (arith, length-append (number_bytes (length x)) x) in
      let w : n + length x ≤ length t = omega (arith, held-within t i _ h (text-some x)) in
      then-read (number_at t i) (λ m v. pick (leb (m + v) (length t)) (read (m + v) (record { start = m; size = v })) (fault i)) n (length x)
      (number-back t i (length x) l (held-left t i (number_bytes (length x)) x h))
      ∙ sym (pick_true _ _ _ _ (le-leb (n + length x) (length t) w) refl)
      ∙ ends_at span _ _ e

  -- the text lies behind its length
  pub text-held : Held t (i + length (number_bytes (length x))) x
  unfolding text_bytes
  text-held = held-right t i (number_bytes (length x)) x h

  -- what lies there, cut by start and length, is the text
  pub span-text : text_in t span ≡ x
  unfolding text_in
  span-text = held-part t (i + length (number_bytes (length x))) x text-held

  -- a text that was written is read back, and ends where its bytes do
  pub text-back : length x < number_limit → text_at t i ≡ read (i + length (text_bytes x)) x
  unfolding text_at
  text-back l = mapped-read (text_in t) (span_at t i) _ span (span-back l) ∙ rw span-text
