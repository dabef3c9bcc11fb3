-- The returns of `read_text`.
use mathlib.Core.Path.{◌≡◌, refl, ap, ◌∙◌}
use mathlib.Core.List.{List}
use Prim.Native.Nat.{ℕ, ◌+◌, ◌-◌, ◌≤◌, ◌<◌}
use native.Mathlib.Omega.{arith}
use borrow.Author.Tests.{le-leb, lt-leb}
use lib.ListN.{length}
use Rattle.std.proofs.Common.{Result, Ok, Err}
use Rattle.combinators.proofs.Rules.{pick_true, pick-false}
use Rattle.compiled.specs.Decoded.{read, fault}
use Rattle.compiled.specs.Number.{number_at}
use Rattle.compiled.specs.Text.{span_at}
use Rattle.compiled.specs.Answer.{read_answer, text_within}
use Rattle.compiled.specs.declared.places.Fault.{Fault}
use Rattle.compiled.specs.declared.places.Read.{Read}
use Rattle.compiled.specs.declared.texts.Span.{Span}
use Rattle.compiled.proofs.Answers.{got, failed, then_answer, then-answer, text-within}
use Rattle.compiled.proofs.Bounds.{span-reaches, span-holds}

-- ---- `read_text`: a length, and whether so many bytes are there
module _ (s : List ℕ) (at : ℕ) (r : Result (Read ℕ) Fault) (e : r ≡ read_answer (number_at s at)) where
  -- an answer that is what the bytes say lies within them
  answered : (q : Result (Read Span) Fault) → q ≡ read_answer (span_at s at) → (q ≡ read_answer (span_at s at)) × text_within (length s) q
  answered q p = text-within (span_at s at) q p (length s) at (span-reaches s at) (span-holds s at)

  module _ (x : Read ℕ) (p : r ≡ Ok x) where
    -- a text that is no longer than what is left lies behind its length
    pub text-there : x.next ≤ length s → x.value ≤ length s - x.next
        → (got (x.next + x.value) (record { start = x.next; size = x.value }) ≡ read_answer (span_at s at))
        × text_within (length s) (got (x.next + x.value) (record { start = x.next; size = x.value }))
    unfolding span_at read_answer
    text-there l h =
        answered _ (then_answer (number_at s at) _ r e x p _ (ap read_answer (pick_true _ _ (fault at) _ (le-leb (x.next + x.value) (length s) (omega arith)) refl)))

    -- a text that is longer than what is left is a fault where its length starts
    pub text-short : length s - x.next < x.value
        → (failed at ≡ read_answer (span_at s at)) × text_within (length s) (failed {A = Read Span} at)
    unfolding span_at read_answer
    text-short h =
        answered _ (then_answer (number_at s at) _ r e x p _
        (ap read_answer (pick-false _ (read (x.next + x.value) (record { start = x.next; size = x.value })) _ _ (lt-leb (x.next + x.value) (length s) (omega arith)) refl)))

  -- where no length was read, the fault is that of the length
  pub text-none : (f : Fault) → r ≡ Err f → (q : Result (Read Span) Fault) → q ≡ Err f → (q ≡ read_answer (span_at s at)) × text_within (length s) q
  unfolding span_at
  text-none f p q h = answered q (h ∙ then-answer (number_at s at) _ r e f p)
