-- The returns of the readers of styles.
use mathlib.Core.Path.{◌≡◌, refl, sym, ap, ◌∙◌}
use mathlib.Core.Bool.{Bool, true}
use mathlib.Core.List.{List}
use Prim.Native.Nat.{ℕ, ◌+◌, ◌≤◌, ◌<◌}
use native.Mathlib.Omega.{arith}
use lib.ListN.{length}
use Rattle.combinators.proofs.Rules.{pick_true, pick-false, is-yes, is-no}
use Rattle.syntax.specs.Layout.{flag_of, colour_slot, display_slot, white_space_slot, content_slot, visibility_slot, last_slot, style_in, flag, white_space_number}
use Rattle.syntax.specs.declared.styles.Value.{Value}
use Rattle.syntax.specs.declared.styles.StyleNumbers.{StyleNumbers}
use Rattle.syntax.specs.Declaration.{pre_wrap}
use Rattle.compiled.specs.Decoded.{counted}
use Rattle.compiled.specs.Number.{number_limit, number_at, ranged_at}
use Rattle.compiled.specs.Style.{greatest_colour, content_at, number_up_to, value_at, style_numbers_at, style_at}
use Rattle.compiled.specs.Sheet.{styles_at}
use Rattle.std.proofs.Common.{Result, Ok, Err}
use Rattle.compiled.specs.Answer.{read_answer, read_within, text_within, place_answer}
use Rattle.compiled.specs.declared.places.Fault.{Fault}
use Rattle.compiled.specs.declared.places.Read.{Read}
use Rattle.compiled.specs.declared.texts.Span.{Span}
use Rattle.compiled.proofs.Answers.{got, answer-within, answer_place, answer-place, then_answer, then-answer, mapped_answer, mapped-answer, then_place, then-place, place-mapped}
use Rattle.compiled.proofs.Bounds.{style-numbers-reach}

-- where a text lies in fewer than 2^32 bytes, its numbers have 32 bits
pub text-numbers : (len : ℕ) (r : Result (Read Span) Fault) → text_within len r → len < number_limit → (x : Read Span) → r ≡ Ok x
    → (x.value.start < number_limit) × (x.value.size < number_limit)
unfolding text_within
text-numbers len r w l x e = let h : (x.next ≤ len) × (x.value.start + x.value.size ≡ x.next) = rw e at w in (omega (arith, h.0, h.1), omega (arith, h.0, h.1))

module _ (s : List ℕ) (at from slot : ℕ) where
  -- ---- by the slot
  -- a style of the display slot has no value in the bytes: it is 0, and nothing is read
  pub value-display : slot ≡ display_slot → got at (record { number = 0; second = 0; start = from }) ≡ read_answer (value_at s from slot at)
  unfolding value_at read_answer
  value-display h = ap read_answer (pick_true _ _ _ _ (is-yes _ _ h) refl)

  module _ (h : ¬ (slot ≡ display_slot)) (r : Result (Read Value) Fault) where
    -- the content slot has a text
    pub value-content : slot ≡ content_slot → r ≡ read_answer (content_at s from at) → r ≡ read_answer (value_at s from slot at)
    unfolding value_at
    value-content k e = e ∙ ap read_answer (pick-false _ _ _ _ (is-no _ _ h) (pick_true _ _ _ _ (is-yes _ _ k) refl))

    module _ (k : ¬ (slot ≡ content_slot)) where
      -- the white space slot has a number of a word
      pub value-white-space : slot ≡ white_space_slot → r ≡ read_answer (number_up_to (white_space_number pre_wrap) s from at) → r ≡ read_answer (value_at s from slot at)
      unfolding value_at
      value-white-space l e =
          e ∙ ap read_answer (pick-false _ _ _ _ (is-no _ _ h) (pick-false _ _ _ _ (is-no _ _ k) (pick_true _ _ _ _ (is-yes _ _ l) refl)))

      module _ (l : ¬ (slot ≡ white_space_slot)) where
        -- the visibility slot has a flag
        pub value-visibility : slot ≡ visibility_slot → r ≡ read_answer (number_up_to (flag true) s from at) → r ≡ read_answer (value_at s from slot at)
        unfolding value_at
        value-visibility m e =
            e ∙ ap read_answer (pick-false _ _ _ _ (is-no _ _ h) (pick-false _ _ _ _ (is-no _ _ k) (pick-false _ _ _ _ (is-no _ _ l) (pick_true _ _ _ _ (is-yes _ _ m) refl))))

        -- the two slots that are left have a colour
        pub value-colour : ¬ (slot ≡ visibility_slot) → r ≡ read_answer (number_up_to greatest_colour s from at) → r ≡ read_answer (value_at s from slot at)
        unfolding value_at
        value-colour m e =
            e ∙ ap read_answer (pick-false _ _ _ _ (is-no _ _ h) (pick-false _ _ _ _ (is-no _ _ k) (pick-false _ _ _ _ (is-no _ _ l) (pick-false _ _ _ _ (is-no _ _ m) refl))))

-- ---- a style: whether it is important, where its declaration starts, its slot and its value
module _ (s : List ℕ) (at : ℕ) where
  -- an answer that is what the bytes say lies within them
  pub bounded : (q : Result (Read StyleNumbers) Fault) → q ≡ read_answer (style_numbers_at s at) → (q ≡ read_answer (style_numbers_at s at)) × read_within (length s) q
  bounded q e = answer-within (style_numbers_at s at) q e 1 (length s) at (style-numbers-reach s at)

  module _ (r : Result (Read ℕ) Fault) (e : r ≡ read_answer (ranged_at s at 0 1)) where
    pub mark-fault : (f : Fault) → r ≡ Err f → Err f ≡ read_answer (style_numbers_at s at)
    unfolding style_numbers_at
    mark-fault f p = then-answer _ _ r e f p

    module _ (i : Read ℕ) (p : r ≡ Ok i) (r₁ : Result (Read ℕ) Fault) (e₁ : r₁ ≡ read_answer (number_at s i.next)) where
      pub start-fault : (f : Fault) → r₁ ≡ Err f → Err f ≡ read_answer (style_numbers_at s at)
      unfolding style_numbers_at
      start-fault f p₁ = then_answer _ _ r e i p _ (then-answer _ _ r₁ e₁ f p₁)

      module _ (b : Read ℕ) (p₁ : r₁ ≡ Ok b) (r₂ : Result (Read ℕ) Fault) (e₂ : r₂ ≡ read_answer (ranged_at s b.next colour_slot last_slot)) where
        pub slot-fault : (f : Fault) → r₂ ≡ Err f → Err f ≡ read_answer (style_numbers_at s at)
        unfolding style_numbers_at
        slot-fault f p₂ = then_answer _ _ r e i p _ (then_answer _ _ r₁ e₁ b p₁ _ (then-answer _ _ r₂ e₂ f p₂))

        module _ (k : Read ℕ) (p₂ : r₂ ≡ Ok k) (r₃ : Result (Read Value) Fault) (e₃ : r₃ ≡ read_answer (value_at s b.value k.value k.next)) where
          pub value-fault : (f : Fault) → r₃ ≡ Err f → Err f ≡ read_answer (style_numbers_at s at)
          unfolding style_numbers_at
          value-fault f p₃ =
              then_answer _ _ r e i p _ (then_answer _ _ r₁ e₁ b p₁ _ (then_answer _ _ r₂ e₂ k p₂ _
              (mapped-answer (λ (v : Value). record { slot = k.value; important = flag_of i.value; value = v }) (value_at s b.value k.value k.next) r₃ e₃ f p₃)))

          pub whole-style : (v : Read Value) → r₃ ≡ Ok v → (m : Bool) → m ≡ flag_of i.value
              → got v.next (record { slot = k.value; important = m; value = v.value }) ≡ read_answer (style_numbers_at s at)
          unfolding style_numbers_at
          whole-style v p₃ m h =
              rw h (then_answer _ _ r e i p _ (then_answer _ _ r₁ e₁ b p₁ _ (then_answer _ _ r₂ e₂ k p₂ _
              (mapped_answer (λ (w : Value). record { slot = k.value; important = flag_of i.value; value = w }) (value_at s b.value k.value k.next) r₃ e₃ v p₃))))

-- ---- `skip_style`
module _ (s : List ℕ) (at : ℕ) (r : Result (Read StyleNumbers) Fault) (e : r ≡ read_answer (style_numbers_at s at)) where
  -- passing over a style ends where reading it does
  pub style-skipped : (x : Read StyleNumbers) → r ≡ Ok x → Ok x.next ≡ place_answer (style_at s at)
  unfolding style_at
  style-skipped x p = answer_place (style_numbers_at s at) r e x p ∙ sym (place-mapped (style_in s) (style_numbers_at s at))

  -- or has its fault
  pub style-unskipped : (f : Fault) → r ≡ Err f → Err f ≡ place_answer (style_at s at)
  unfolding style_at
  style-unskipped f p = answer-place (style_numbers_at s at) r e f p ∙ sym (place-mapped (style_in s) (style_numbers_at s at))

-- ---- `skip_styles`: a count, then as many styles
module _ (s : List ℕ) (at : ℕ) (r : Result (Read ℕ) Fault) (e : r ≡ read_answer (number_at s at)) where
  -- with their count read, the styles are passed one behind the other
  pub counted_styles : (x : Read ℕ) → r ≡ Ok x → place_answer (counted (style_at s) x.value x.next) ≡ place_answer (styles_at (style_at s) s at)
  unfolding styles_at
  counted_styles x p = then_place (number_at s at) _ r e x p _ refl

  -- where no count was read, the fault is that of the count
  pub styles-fault : (f : Fault) → r ≡ Err f → Err f ≡ place_answer (styles_at (style_at s) s at)
  unfolding styles_at
  styles-fault f p = then-place (number_at s at) _ r e f p
