-- What a reader's answer says of the reading.
use mathlib.Core.Path.{◌≡◌, refl, sym, ap, ◌∙◌}
use Prim.Native.Nat.{ℕ, ◌+◌, ◌≤◌}
use Rattle.std.proofs.Common.{Result, Ok, Err}
use Rattle.std.specs.Result.{IsErrAnd}
use Rattle.syntax.specs.Style.{StyleDecl}
use Rattle.compiled.specs.Decoded.{Decoded, read, fault, and_then, mapped}
use Rattle.compiled.specs.Answer.{read_answer, read_within, text_within, place_answer, selector_answer}
use Rattle.compiled.specs.Sheet.{CompiledSelector}
use Rattle.compiled.specs.declared.places.Fault.{Fault}
use Rattle.compiled.specs.declared.places.Read.{Read}
use Rattle.compiled.specs.declared.texts.Span.{Span}
use Rattle.compiled.proofs.Bounds.{Reaches, Holds}

-- the answer that a was read up to n
abbrev pub got : {A : Type 0} → ℕ → A → Result (Read A) Fault
got n a = Ok (record { next = n; value = a })

-- the answer that p is the place of a fault
abbrev pub failed : {A : Type 0} → ℕ → Result A Fault
failed p = Err (record { place = p })

-- the fault that `?` hands on
pub raised : {A : Type 0} (r : Result A Fault) (f : Fault) → IsErrAnd r (λ g. g ≡ f) → r ≡ Err f
raised (Ok x) f h = absurd h
raised (Err g) f h = ap Err h

-- ---- what was read
module _ {A : Type 0} (d : Decoded A) (r : Result (Read A) Fault) (e : r ≡ read_answer d) where
  -- an answer with a value says that it was read, up to that place
  pub answer_read : (x : Read A) → r ≡ Ok x → d ≡ read x.next x.value
  unfolding read_answer
  answer_read x p = go d (sym p ∙ e)
    where
      go : (d : Decoded A) → ◌≡◌ {A = Result (Read A) Fault} (Ok x) (read_answer d) → d ≡ read x.next x.value
      go (read m w) q = cc
      go (fault p) q = absurd (cc)

  -- an answer with a fault says that nothing was read, and where
  pub answer-fault : (f : Fault) → r ≡ Err f → d ≡ fault f.place
  unfolding read_answer
  answer-fault f p = go d (sym p ∙ e)
    where
      go : (d : Decoded A) → ◌≡◌ {A = Result (Read A) Fault} (Err f) (read_answer d) → d ≡ fault f.place
      go (read m w) q = absurd (cc)
      go (fault p) q = cc

  -- it ends within the bytes
  pub answer-within : (k len i : ℕ) → Reaches k len i d → (r ≡ read_answer d) × read_within len r
  unfolding read_answer read_within Reaches
  answer-within k len i h = (e, rw e (go d h))
    where
      go : (d : Decoded A) → Reaches k len i d → read_within len (read_answer d)
      go (read n v) h = h.1
      go (fault p) h = tt

  -- passing over it ends where reading it does
  pub answer_place : (x : Read A) → r ≡ Ok x → Ok x.next ≡ place_answer d
  unfolding place_answer
  answer_place x p = rw (answer_read x p)

  -- or has its fault
  pub answer-place : (f : Fault) → r ≡ Err f → Err f ≡ place_answer d
  unfolding place_answer
  answer-place f p = rw (answer-fault f p)

-- where something ends that was read
pub read-end : {A : Type 0} (len : ℕ) (r : Result (Read A) Fault) (x : Read A) → read_within len r → r ≡ Ok x → x.next ≤ len
unfolding read_within
read-end len r x h e = rw e at h

-- ---- one reading behind the other
module _ {A B : Type 0} (d : Decoded A) (f : ℕ → A → Decoded B) (r : Result (Read A) Fault) (e : r ≡ read_answer d) where
  -- what is answered behind it is the answer on both
  pub then_answer : (x : Read A) → r ≡ Ok x → (q : Result (Read B) Fault) → q ≡ read_answer (f x.next x.value) → q ≡ read_answer (and_then d f)
  unfolding and_then
  then_answer x p q h = rw (answer_read d r e x p) h

  -- the first fault is that of both
  pub then-answer : (g : Fault) → r ≡ Err g → Err g ≡ read_answer (and_then d f)
  unfolding and_then read_answer
  then-answer g p = rw (answer-fault d r e g p)

  -- the same of what is only passed over
  pub then_place : (x : Read A) → r ≡ Ok x → (q : Result ℕ Fault) → q ≡ place_answer (f x.next x.value) → q ≡ place_answer (and_then d f)
  unfolding and_then
  then_place x p q h = rw (answer_read d r e x p) h

  pub then-place : (g : Fault) → r ≡ Err g → Err g ≡ place_answer (and_then d f)
  unfolding and_then place_answer
  then-place g p = rw (answer-fault d r e g p)

module _ {A B : Type 0} (f : A → B) (d : Decoded A) (r : Result (Read A) Fault) (e : r ≡ read_answer d) where
  -- as f of what was read
  pub mapped_answer : (x : Read A) → r ≡ Ok x → got x.next (f x.value) ≡ read_answer (mapped f d)
  unfolding mapped read_answer
  mapped_answer x p = rw (answer_read d r e x p)

  -- a fault stays one, whatever is made of values
  pub mapped-answer : (g : Fault) → r ≡ Err g → Err g ≡ read_answer (mapped f d)
  unfolding mapped read_answer
  mapped-answer g p = rw (answer-fault d r e g p)

-- ---- texts
-- a text ends within the bytes, where what was read ends
pub text-within : (d : Decoded Span) (r : Result (Read Span) Fault) → r ≡ read_answer d → (len i : ℕ) → Reaches 1 len i d → Holds (λ n x. x.start + x.size ≡ n) d
    → (r ≡ read_answer d) × text_within len r
unfolding read_answer text_within Reaches Holds
text-within d r e len i h k = (e, rw e (go d h k))
  where
    go : (d : Decoded Span) → Reaches 1 len i d → Holds (λ n x. x.start + x.size ≡ n) d → text_within len (read_answer d)
    go (read n v) h k = (h.1, k)
    go (fault p) h k = tt

-- ---- places
-- what was read does not matter
pub place-mapped : {A B : Type 0} (f : A → B) (d : Decoded A) → place_answer (mapped f d) ≡ place_answer d
unfolding mapped place_answer
place-mapped f (read n a) = refl
place-mapped f (fault p) = refl

module _ {A : Type 0} (d : Decoded A) (r : Result ℕ Fault) (e : r ≡ place_answer d) where
  -- something was read, whatever it was
  pub place_read : (n : ℕ) → r ≡ Ok n → (a : A) × (d ≡ read n a)
  unfolding place_answer
  place_read n p = go d (sym p ∙ e)
    where
      go : (d : Decoded A) → ◌≡◌ {A = Result ℕ Fault} (Ok n) (place_answer d) → (a : A) × (d ≡ read n a)
      go (read m a) q = (a, let h : n ≡ m = cc in rw h)
      go (fault p) q = absurd (cc)

  -- an answer with a fault says that reading failed, and where
  pub place-fault : (f : Fault) → r ≡ Err f → d ≡ fault f.place
  unfolding place_answer
  place-fault f p = go d (sym p ∙ e)
    where
      go : (d : Decoded A) → ◌≡◌ {A = Result ℕ Fault} (Err f) (place_answer d) → d ≡ fault f.place
      go (read m a) q = absurd (cc)
      go (fault p) q = cc

-- ---- what an answer with a selector says
module _ (d : Decoded (CompiledSelector StyleDecl)) (r : Result (Read ℕ) Fault) (e : r ≡ selector_answer d) where
  -- one was read, of this origin
  pub selector-read : (x : Read ℕ) → r ≡ Ok x → (s : CompiledSelector StyleDecl) × (d ≡ read x.next s) × (s.origin ≡ x.value)
  unfolding selector_answer read_answer mapped
  selector-read x p = go d (sym p ∙ e)
    where
      go : (d : Decoded (CompiledSelector StyleDecl)) → ◌≡◌ {A = Result (Read ℕ) Fault} (Ok x) (selector_answer d) → (s : CompiledSelector StyleDecl) × (d ≡ read x.next s) × (s.origin ≡ x.value)
      go (read m s) q = let a : x.next ≡ m = cc in (s, rw a, cc)
      go (fault p) q = absurd (cc)

  -- an answer with a fault says that no selector was read, and where
  pub selector-fault : (f : Fault) → r ≡ Err f → d ≡ fault f.place
  unfolding selector_answer read_answer mapped
  selector-fault f p = go d (sym p ∙ e)
    where
      go : (d : Decoded (CompiledSelector StyleDecl)) → ◌≡◌ {A = Result (Read ℕ) Fault} (Err f) (selector_answer d) → d ≡ fault f.place
      go (read m s) q = absurd (cc)
      go (fault p) q = cc
