-- The returns of the readers of components.
use mathlib.Core.Path.{◌≡◌, refl, sym, ap, ◌∙◌}
use mathlib.Core.Bool.{true, false}
use mathlib.Core.List.{List}
use Prim.Native.Nat.{ℕ}
use lib.ListN.{length}
use Rattle.std.proofs.Common.{Result, Ok, Err}
use Rattle.combinators.specs.Choice.{is}
use Rattle.combinators.proofs.Rules.{pick_true, pick-false, pick-holds, is-yes, is-no}
use Rattle.syntax.specs.RuleLayout.{star_kind, nth_kind, attribute_equal_kind}
use Rattle.compiled.specs.Decoded.{Decoded, read, fault}
use Rattle.compiled.specs.Number.{number_at, ranged_at}
use Rattle.compiled.specs.Text.{span_at}
use Rattle.compiled.specs.Component.{is_mark, name_at, numbers_at, names_at, body_at, written_at, component_in, component_at}
use Rattle.compiled.specs.Answer.{read_answer, place_answer, Inside, component_within}
use Rattle.compiled.specs.declared.places.Fault.{Fault}
use Rattle.compiled.specs.declared.places.Read.{Read}
use Rattle.compiled.specs.declared.texts.Span.{Span}
use Rattle.compiled.specs.declared.components.Written.{Written}
use Rattle.compiled.specs.declared.components.Written.TheVariants.{Mark, Name, Numbers, Names}
use Rattle.compiled.proofs.Answers.{got, then_answer, then-answer, mapped_answer, mapped-answer, answer_place, answer-place, place-mapped}
use Rattle.compiled.proofs.Bounds.{Reaches, written-reaches, Holds, holds-value, holds_then, holds-mapped, span-inside}

-- ---- where the texts of a component lie
module _ (s : List ℕ) where
  -- the texts behind a component's kind lie within the bytes
  body-inside : (kind n : ℕ) → Holds (λ m w. Inside (length s) w) (body_at s kind n)
  unfolding body_at name_at numbers_at names_at
  body-inside kind n =
      pick-holds (Holds (λ m w. Inside (length s) w)) (is_mark kind) _ _ (λ _. holds-value (λ m w. Inside (length s) w) n _ tt)
      (λ _. pick-holds (Holds (λ m w. Inside (length s) w)) (is kind nth_kind) _ _
      (λ _. holds_then (λ m w. Inside (length s) w) (number_at s n) _ (λ m a _. holds-mapped (λ m w. Inside (length s) w) _ (number_at s m) (λ k b _. tt)))
      (λ _. pick-holds (Holds (λ m w. Inside (length s) w)) (is kind attribute_equal_kind) _ _
      (λ _. holds_then (λ m w. Inside (length s) w) (span_at s n) _
      (λ m x e. holds-mapped (λ m w. Inside (length s) w) _ (span_at s m) (λ k y f. (span-inside s n m x e, span-inside s m k y f))))
      (λ _. holds-mapped (λ m w. Inside (length s) w) _ (span_at s n) (λ m x e. span-inside s n m x e))))

  -- the texts of a component lie within the bytes
  written-inside : (at : ℕ) → Holds (λ m w. Inside (length s) w) (written_at s at)
  unfolding written_at
  written-inside at = holds_then (λ m w. Inside (length s) w) (ranged_at s at star_kind attribute_equal_kind) _ (λ n kind _. body-inside kind n)

module _ (s : List ℕ) (at : ℕ) where
  -- ---- by the kind
  module _ (kind : ℕ) where
    -- a kind without anything behind it is the whole component
    pub body-mark : is_mark kind ≡ true → got at (Mark kind) ≡ read_answer (body_at s kind at)
    unfolding body_at read_answer
    body-mark h = ap read_answer (pick_true _ _ _ _ h refl)

    module _ (h : is_mark kind ≡ false) (r : Result (Read Written) Fault) where
      -- behind the kind of nth stand two numbers
      pub body-numbers : kind ≡ nth_kind → r ≡ read_answer (numbers_at s at) → r ≡ read_answer (body_at s kind at)
      unfolding body_at
      body-numbers k e = e ∙ ap read_answer (pick-false _ _ _ _ h (pick_true _ _ _ _ (is-yes _ _ k) refl))

      module _ (k : ¬ (kind ≡ nth_kind)) where
        -- an attribute that is equal to a value
        pub body-names : kind ≡ attribute_equal_kind → r ≡ read_answer (names_at s at) → r ≡ read_answer (body_at s kind at)
        unfolding body_at
        body-names l e =
            e ∙ ap read_answer (pick-false _ _ _ _ h (pick-false _ _ _ _ (is-no _ _ k) (pick_true _ _ _ _ (is-yes _ _ l) refl)))

        -- behind any other kind that is left stands one text
        pub body-name : ¬ (kind ≡ attribute_equal_kind) → r ≡ read_answer (name_at s kind at) → r ≡ read_answer (body_at s kind at)
        unfolding body_at
        body-name l e =
            e ∙ ap read_answer (pick-false _ _ _ _ h (pick-false _ _ _ _ (is-no _ _ k) (pick-false _ _ _ _ (is-no _ _ l) refl)))

  -- ---- a component
  -- what was read, and its texts, end within the bytes, as the answer is to say
  within-read : (d : Decoded Written) → Reaches 1 (length s) at d → Holds (λ m w. Inside (length s) w) d → component_within (length s) (read_answer d)
  unfolding read_answer component_within Reaches Holds
  within-read (read n w) h k = (h.1, k)
  within-read (fault p) h k = tt

  -- an answer that is what the bytes say lies within them
  bounded : (q : Result (Read Written) Fault) → q ≡ read_answer (written_at s at) → (q ≡ read_answer (written_at s at)) × component_within (length s) q
  bounded q e = (e, rw e (within-read (written_at s at) (written-reaches s at) (written-inside s at)))

  module _ (r : Result (Read ℕ) Fault) (e : r ≡ read_answer (ranged_at s at star_kind attribute_equal_kind)) where
    -- with its kind read, a component is what stands behind it
    pub component-read : (x : Read ℕ) → r ≡ Ok x → (q : Result (Read Written) Fault) → q ≡ read_answer (body_at s x.value x.next)
        → (q ≡ read_answer (written_at s at)) × component_within (length s) q
    unfolding written_at
    component-read x p q h = bounded q (then_answer _ _ r e x p q h)

    -- where no kind was read, the fault is that of the kind
    pub component-fault : (f : Fault) → r ≡ Err f → (q : Result (Read Written) Fault) → q ≡ Err f → (q ≡ read_answer (written_at s at)) × component_within (length s) q
    unfolding written_at
    component-fault f p q h = bounded q (h ∙ then-answer _ _ r e f p)

-- ---- behind the kind
module _ (s : List ℕ) (at : ℕ) where
  module _ (r : Result (Read Span) Fault) (e : r ≡ read_answer (span_at s at)) where
    -- one text read makes a component of that kind with its text
    pub name-read : (kind : ℕ) (x : Read Span) → r ≡ Ok x → got x.next (Name kind x.value) ≡ read_answer (name_at s kind at)
    unfolding name_at
    name-read kind x p = mapped_answer (λ y. Name kind y) (span_at s at) r e x p

    pub name-fault : (kind : ℕ) (f : Fault) → r ≡ Err f → Err f ≡ read_answer (name_at s kind at)
    unfolding name_at
    name-fault kind f p = mapped-answer (λ y. Name kind y) (span_at s at) r e f p

    -- the first of two texts
    pub names-fault : (f : Fault) → r ≡ Err f → Err f ≡ read_answer (names_at s at)
    unfolding names_at
    names-fault f p = then-answer (span_at s at) _ r e f p

    module _ (x : Read Span) (p : r ≡ Ok x) (q : Result (Read Span) Fault) (h : q ≡ read_answer (span_at s x.next)) where
      -- both texts are there
      pub names-read : (y : Read Span) → q ≡ Ok y → got y.next (Names x.value y.value) ≡ read_answer (names_at s at)
      unfolding names_at
      names-read y k = then_answer (span_at s at) _ r e x p _ (mapped_answer (λ z. Names x.value z) (span_at s x.next) q h y k)

      pub second-name-fault : (f : Fault) → q ≡ Err f → Err f ≡ read_answer (names_at s at)
      unfolding names_at
      second-name-fault f k = then_answer (span_at s at) _ r e x p _ (mapped-answer (λ z. Names x.value z) (span_at s x.next) q h f k)

  module _ (r : Result (Read ℕ) Fault) (e : r ≡ read_answer (number_at s at)) where
    -- the first of two numbers
    pub numbers-fault : (f : Fault) → r ≡ Err f → Err f ≡ read_answer (numbers_at s at)
    unfolding numbers_at
    numbers-fault f p = then-answer (number_at s at) _ r e f p

    module _ (x : Read ℕ) (p : r ≡ Ok x) (q : Result (Read ℕ) Fault) (h : q ≡ read_answer (number_at s x.next)) where
      -- both numbers are there
      pub numbers-read : (y : Read ℕ) → q ≡ Ok y → got y.next (Numbers x.value y.value) ≡ read_answer (numbers_at s at)
      unfolding numbers_at
      numbers-read y k = then_answer (number_at s at) _ r e x p _ (mapped_answer (λ z. Numbers x.value z) (number_at s x.next) q h y k)

      pub second-number-fault : (f : Fault) → q ≡ Err f → Err f ≡ read_answer (numbers_at s at)
      unfolding numbers_at
      second-number-fault f k = then_answer (number_at s at) _ r e x p _ (mapped-answer (λ z. Numbers x.value z) (number_at s x.next) q h f k)

-- ---- `skip_component`
module _ (s : List ℕ) (at : ℕ) (r : Result (Read Written) Fault) (e : r ≡ read_answer (written_at s at)) where
  -- passing over a component ends where reading it does
  pub component-skipped : (x : Read Written) → r ≡ Ok x → Ok x.next ≡ place_answer (component_at s at)
  unfolding component_at
  component-skipped x p = answer_place (written_at s at) r e x p ∙ sym (place-mapped (component_in s) (written_at s at))

  -- or has its fault
  pub component-unskipped : (f : Fault) → r ≡ Err f → Err f ≡ place_answer (component_at s at)
  unfolding component_at
  component-unskipped f p = answer-place (written_at s at) r e f p ∙ sym (place-mapped (component_in s) (written_at s at))
