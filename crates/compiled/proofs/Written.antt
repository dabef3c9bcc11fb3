-- What the writers of components, styles and selectors write, and one call behind the other.
use mathlib.Core.Path.{◌≡◌, refl, sym, ap, ◌∙◌}
use mathlib.Core.Bool.{true, false}
use mathlib.Core.List.{List, [], ◌∷◌, ◌++◌, append-nil}
use Prim.Native.Nat.{ℕ, zero, suc, ◌+◌, ◌≤◌, ◌<◌}
use native.Mathlib.Numerals.{add-one}
use native.Mathlib.Omega.{arith}
use lib.ListN.{length, drop, get_or, drop_of_length-le}
use lib.Seq.{drop-cons}
use Rattle.std.proofs.Common.{min}
use Rattle.combinators.specs.Choice.{pick, or, is}
use Rattle.combinators.specs.Store.{emits}
use Rattle.combinators.specs.Writer.{written, SameStore}
use Rattle.combinators.specs.declared.writer.Writer.{Writer}
use Rattle.combinators.specs.Part.{part}
use Rattle.combinators.proofs.Emitted.{then, onto, emits_none}
use Rattle.combinators.proofs.Rules.{pick_true, pick-false, either, is-yes, is-no, is_true, neither}
use Rattle.combinators.proofs.Parts.{part-le}
use Rattle.syntax.specs.Layout.{flag, flag_of, colour_number, colour_of, white_space_number, white_space_of, colour_slot, background_slot, display_slot, white_space_slot, content_slot, visibility_slot, style_slot_of, style_of, value_in, style_in}
use Rattle.syntax.specs.RuleLayout.{star_kind, class_kind, element_kind, hash_kind, child_kind, descendant_kind, nth_kind, attribute_kind, attribute_equal_kind, component_kind, component_from}
use Rattle.syntax.specs.Selector.{attribute_equal}
use Rattle.syntax.specs.Style as style
use Rattle.syntax.specs.Style.{Style}
use Rattle.syntax.specs.declared.styles.Value.{Value}
use Rattle.syntax.specs.declared.styles.StyleNumbers.{StyleNumbers}
use Rattle.compiled.specs.Number.{number_limit, number_bytes}
use Rattle.compiled.specs.Text.{text_bytes}
use Rattle.compiled.specs.Component.{component_body, component_bytes, is_mark, is_name}
use Rattle.compiled.specs.Style.{style_body, style_bytes}
use Rattle.compiled.specs.Sheet.{head_bytes}
use Rattle.compiled.specs.Wrote.{Wrote}
use Rattle.syntax.specs.Stream.{texts_many}
use Rattle.compiled.proofs.NumberBack.{signed-number-back}

-- ---- one behind the other
-- what two calls write is one text behind the other
pub wrote-then : {u v w : Writer} {x y : List ℕ} → Wrote u v x → Wrote v w y → Wrote u w (x ++ y)
wrote-then p q = record { same_store = q.same_store ∙ p.same_store; written = then _ _ _ _ _ p.written q.written }

-- the same bytes in other words
pub wrote-as : {u v : Writer} {x y : List ℕ} → x ≡ y → Wrote u v x → Wrote u v y
wrote-as {u} e p = record { same_store = p.same_store; written = p.written ∙ ap (emits (written u)) e }

-- ---- numbers: what is written, with those that are left, is all of them
module _ (numbers : List ℕ) (u : Writer) where
  pub record Numbering (v : Writer) (i : ℕ) : Type 0 where
    pub same_store : SameStore u v
    pub work : emits (written v) (texts_many number_bytes (drop i numbers)) ≡ emits (written u) (texts_many number_bytes numbers)

  pub numbering-begin : Numbering u 0
  numbering-begin = record { same_store = refl; work = refl }

  module _ (v : Writer) (i : ℕ) (c : Numbering v i) where
    -- one more is written
    pub numbering-more : i < length numbers → {w : Writer} → Wrote v w (number_bytes (get_or numbers i 0)) → Numbering w (i + 1)
    unfolding texts_many
    numbering-more l p =
        let e : texts_many number_bytes (drop i numbers) ≡ number_bytes (get_or numbers i 0) ++ texts_many number_bytes (drop (i + 1) numbers) =
        rw (drop-cons numbers i 0 l, add-one i) in
        record { same_store = p.same_store ∙ c.same_store; work = onto _ _ _ _ p.written ∙ sym (ap (emits _) e) ∙ c.work }

    -- all are written
    pub numbering-done : length numbers ≤ i → Wrote u v (texts_many number_bytes numbers)
    unfolding texts_many
    numbering-done h = record { same_store = c.same_store; written = sym (ap (λ (xs : List ℕ). emits (written v) (texts_many number_bytes xs)) (drop_of_length-le numbers h) ∙ emits_none _) ∙ c.work }

-- two numbers
pub two-numbers : (a b : ℕ) → texts_many number_bytes (a ∷ b ∷ []) ≡ number_bytes a ++ number_bytes b
unfolding texts_many
two-numbers a b = rw (append-nil (number_bytes b))

-- three
pub three-numbers : (a b c : ℕ) → texts_many number_bytes (a ∷ b ∷ c ∷ []) ≡ number_bytes a ++ (number_bytes b ++ number_bytes c)
unfolding texts_many
three-numbers a b c = rw (append-nil (number_bytes c))

-- the numbers before a selector's components
pub head-numbers : (origin pseudo count : ℕ) → texts_many number_bytes (origin ∷ pseudo ∷ count ∷ []) ≡ head_bytes origin pseudo count
unfolding head_bytes
head-numbers origin pseudo count = three-numbers origin pseudo count

-- ---- components
module _ (t : List ℕ) (kind f a b : ℕ) where
  -- the bytes of a component that is a kind alone are those of its kind
  pub mark-bytes : is_mark kind ≡ true → component_bytes (component_from t kind f a b) ≡ number_bytes kind
  unfolding component_bytes component_from is_mark component_kind component_body pick or is
  mark-bytes h =
      either _ (is kind star_kind) (or (is kind child_kind) (is kind descendant_kind)) h
      (λ e. rw (is_true kind star_kind e) (append-nil (number_bytes star_kind)))
      (λ k. either _ (is kind child_kind) (is kind descendant_kind) k
      (λ e. rw (is_true kind child_kind e) (append-nil (number_bytes child_kind)))
      (λ e. rw (is_true kind descendant_kind e) (append-nil (number_bytes descendant_kind))))

  -- the bytes of nth are those of its kind and of its two numbers
  pub nth-bytes : kind ≡ nth_kind → component_bytes (component_from t kind f a b) ≡ texts_many number_bytes (nth_kind ∷ a ∷ b ∷ [])
  unfolding component_bytes component_from component_kind component_body pick is
  nth-bytes k = rw (k, signed-number-back a, signed-number-back b) (sym (three-numbers nth_kind a b))

  -- the bytes of a component of one text are those of its kind and of that text
  pub named-bytes : is_name kind ≡ true → component_bytes (component_from t kind f a b) ≡ number_bytes kind ++ text_bytes (part t f a)
  unfolding component_bytes component_from is_name component_kind component_body pick is
  named-bytes h =
      either _ (is kind class_kind) _ h (λ e. rw (is_true kind class_kind e))
      (λ k. either _ (is kind element_kind) _ k (λ e. rw (is_true kind element_kind e))
      (λ l. either _ (is kind hash_kind) _ l (λ e. rw (is_true kind hash_kind e)) (λ e. rw (is_true kind attribute_kind e))))

  -- a component of any other kind is read as an attribute that equals a value
  equal_is : is_mark kind ≡ false → ¬ (kind ≡ nth_kind) → is_name kind ≡ false
      → component_from t kind f a b ≡ attribute_equal (part t f a) (part t (f + a) b)
  unfolding component_from is_mark is_name pick
  equal_is m k n =
      let m₁ = neither (is kind star_kind) _ m in
      let m₂ = neither (is kind child_kind) _ m₁.1 in
      let n₁ = neither (is kind class_kind) _ n in
      let n₂ = neither (is kind element_kind) _ n₁.1 in
      let n₃ = neither (is kind hash_kind) _ n₂.1 in
      rw (m₁.0, n₁.0, n₂.0, n₃.0, m₂.0, m₂.1, is-no kind nth_kind k, n₃.1)

  -- the bytes of such a component are those of its kind and of both texts
  both-bytes : (x y : List ℕ) → component_bytes (attribute_equal x y) ≡ number_bytes attribute_equal_kind ++ (text_bytes x ++ text_bytes y)
  unfolding component_bytes component_kind component_body
  both-bytes x y = refl

  pub equal-bytes : is_mark kind ≡ false → ¬ (kind ≡ nth_kind) → is_name kind ≡ false
      → component_bytes (component_from t kind f a b) ≡ number_bytes attribute_equal_kind ++ (text_bytes (part t f a) ++ text_bytes (part t (f + a) b))
  equal-bytes m k n = ap component_bytes (equal_is m k n) ∙ both-bytes _ _

-- so its length can be told
pub part-short : (t : List ℕ) (start size : ℕ) (x : List ℕ) → x ≡ part t start size → size < number_limit → length x < number_limit
part-short t start size x e h = omega (arith, ap length e, part-le t start size)

-- a colour's number and back
colour-number : (v : ℕ) → colour_number (colour_of v) ≡ v
unfolding colour_number colour_of
colour-number v = omega arith

-- what is written of a style behind its start
abbrev pub slot_bytes : Style → List ℕ
slot_bytes s = number_bytes (style_slot_of s) ++ style_body s

module _ (t : List ℕ) (slot : ℕ) (v : Value) where
  -- where the style of the numbers is s, and xs its bytes behind the flag
  stated : (s : Style) (xs : List ℕ) → style_of t slot v ≡ s → slot_bytes s ≡ xs → xs ≡ slot_bytes (style_of t slot v)
  stated s xs e f = sym (ap slot_bytes e ∙ f)

  -- a colour is its slot and its number
  pub colour-bytes : slot ≡ colour_slot → number_bytes colour_slot ++ number_bytes v.number ≡ slot_bytes (style_of t slot v)
  unfolding style_of style_slot_of style_body
  colour-bytes a = stated (style.colour (colour_of v.number)) _ (sym (pick_true _ _ _ _ (is-yes _ _ a) refl)) (rw (colour-number v.number))

  module _ (a : ¬ (slot ≡ colour_slot)) where
    -- a background is its slot and its number
    pub background-bytes : slot ≡ background_slot → number_bytes background_slot ++ number_bytes v.number ≡ slot_bytes (style_of t slot v)
    unfolding style_of style_slot_of style_body
    background-bytes b =
        stated (style.background (colour_of v.number)) _ (sym (pick-false _ _ _ _ (is-no _ _ a) (pick_true _ _ _ _ (is-yes _ _ b) refl))) (rw (colour-number v.number))

    module _ (b : ¬ (slot ≡ background_slot)) where
      -- `display: none` is its slot alone
      pub display-bytes : slot ≡ display_slot → number_bytes display_slot ≡ slot_bytes (style_of t slot v)
      unfolding style_of style_slot_of style_body
      display-bytes c =
          stated style.display_none _ (sym (pick-false _ _ _ _ (is-no _ _ a) (pick-false _ _ _ _ (is-no _ _ b) (pick_true _ _ _ _ (is-yes _ _ c) refl))))
          (append-nil (number_bytes display_slot))

      module _ (c : ¬ (slot ≡ display_slot)) where
        -- a word of `white-space` is its slot and its number
        pub white-space-bytes : slot ≡ white_space_slot → (n : ℕ) → n ≡ white_space_number (white_space_of v.number)
            → texts_many number_bytes (white_space_slot ∷ n ∷ []) ≡ slot_bytes (style_of t slot v)
        unfolding style_of style_slot_of style_body
        white-space-bytes d n e =
            two-numbers white_space_slot n ∙ stated (style.white_space (white_space_of v.number)) _
            (sym (pick-false _ _ _ _ (is-no _ _ a) (pick-false _ _ _ _ (is-no _ _ b) (pick-false _ _ _ _ (is-no _ _ c) (pick_true _ _ _ _ (is-yes _ _ d) refl)))))
            (rw e)

        module _ (d : ¬ (slot ≡ white_space_slot)) where
          -- a content is its slot and its text
          pub content-bytes : slot ≡ content_slot → number_bytes content_slot ++ text_bytes (part t v.number v.second) ≡ slot_bytes (style_of t slot v)
          unfolding style_of style_slot_of style_body
          content-bytes e =
              stated (style.content (part t v.number v.second)) _
              (sym (pick-false _ _ _ _ (is-no _ _ a) (pick-false _ _ _ _ (is-no _ _ b) (pick-false _ _ _ _ (is-no _ _ c) (pick-false _ _ _ _ (is-no _ _ d) (pick_true _ _ _ _ (is-yes _ _ e) refl))))))
              refl

          -- a visibility is its slot and its flag
          pub visibility-bytes : ¬ (slot ≡ content_slot) → (n : ℕ) → n ≡ flag (flag_of v.number)
              → texts_many number_bytes (visibility_slot ∷ n ∷ []) ≡ slot_bytes (style_of t slot v)
          unfolding style_of style_slot_of style_body
          visibility-bytes e n f =
              two-numbers visibility_slot n ∙ stated (style.visibility (flag_of v.number)) _
              (sym (pick-false _ _ _ _ (is-no _ _ a) (pick-false _ _ _ _ (is-no _ _ b) (pick-false _ _ _ _ (is-no _ _ c) (pick-false _ _ _ _ (is-no _ _ d) (pick-false _ _ _ _ (is-no _ _ e) refl))))))
              (rw f)

-- either colour is its slot and its number
pub colours-bytes : (t : List ℕ) (slot : ℕ) (v : Value) → slot ≤ background_slot → texts_many number_bytes (slot ∷ v.number ∷ []) ≡ slot_bytes (style_of t slot v)
colours-bytes t zero v h = two-numbers colour_slot v.number ∙ colour-bytes t zero v refl
colours-bytes t (suc zero) v h = two-numbers background_slot v.number ∙ background-bytes t (suc zero) v (λ z. omega (arith, z)) refl
colours-bytes t (suc (suc n)) v h = absurd (omega arith)

-- a style: its flag, its start, then its slot
pub style-numbers : (t : List ℕ) (x : StyleNumbers) (n : ℕ) → n ≡ flag x.important
    → number_bytes n ++ (number_bytes x.value.start ++ slot_bytes (style_of t x.slot x.value)) ≡ style_bytes (style_in t x)
unfolding style_bytes style_in value_in
style-numbers t x n e = rw e

-- ---- the words of white space
-- a number above that of the last word stands for it
pub white-space-least : (n : ℕ) → min n 2 ≡ white_space_number (white_space_of n)
unfolding white_space_number white_space_of pick is
white-space-least zero = refl
white-space-least (suc zero) = refl
white-space-least (suc (suc n)) =
    let e : min (suc (suc n)) 2 ≡ 2 = omega arith in
    e ∙ ap white_space_number (pick-false _ _ _ _ (is-no (suc (suc n)) 0 (λ h. absurd (omega arith))) (pick-false _ _ _ _ (is-no (suc (suc n)) 1 (λ h. absurd (omega arith))) refl))
