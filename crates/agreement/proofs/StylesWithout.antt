-- The styles of declarations without those of `visibility`: the styles of all, without what is for that slot.
use Prim.Native.Nat.{ℕ}
use mathlib.Core.Bool.{Bool, true, false}
use mathlib.Core.List.{List, [], ◌∷◌, ◌++◌, map, map-append, append_assoc}
use mathlib.Core.Path.{◌≡◌, refl, sym, ap, ap₂, ◌∙◌}
use lib.ListN.{get_or}
use Rattle.combinators.specs.All.{All}
use Rattle.combinators.specs.Choice.{pick, or, and, is}
use Rattle.combinators.proofs.AllLaws.{all_append}
use Rattle.combinators.proofs.Rules.{never, pick-false, pick-holds, or-gives, is_false}
use Rattle.syntax.specs.Declaration.{Decl, color, background_color, height, max_height, overflow, overflow_y, display, white_space, content, visibility, unknown, Declaration}
use Rattle.syntax.specs.Layout.{visibility_kind, declaration_kind, flag, visibility_slot, decl_row, declaration_row, style_slot_of}
use Rattle.syntax.specs.Style as style
use Rattle.syntax.specs.Style.{StyleDecl}
use Rattle.declarations.specs.Styles.{one, style_of, hides_overflow, zero_height, any_decl, own_styles, first_zero, styles_of}
use Rattle.agreement.specs.VisibilityAside.{is_visibility, without_visibility}

-- ---- of things that are each for a slot, those for other slots than that of visibility
unfoldable pub others : {A : Type 0} → (A → ℕ) → List A → List A
others slot [] = []
others slot (x ∷ xs) = pick (is (slot x) visibility_slot) [] (x ∷ []) ++ others slot xs

module _ {A : Type 0} (slot : A → ℕ) where
  -- of two lists in a row they are those of the first, then those of the second
  others-append : (xs ys : List A) → others slot (xs ++ ys) ≡ others slot xs ++ others slot ys
  unfolding others
  others-append [] ys = refl
  others-append (x ∷ xs) ys =
      let own = pick (is (slot x) visibility_slot) [] (x ∷ []) in
      ap (λ l. own ++ l) (others-append xs ys) ∙ sym (append_assoc own (others slot xs) (others slot ys))

  -- the same where each list is given by an equation
  pub others-both : (xs ys : List A) {us vs : List A} → us ≡ others slot xs → vs ≡ others slot ys → us ++ vs ≡ others slot (xs ++ ys)
  others-both xs ys e f = ap₂ (λ (l m : List A). l ++ m) e f ∙ sym (others-append xs ys)

  -- of a choice of two lists they are the choice of theirs
  pub others-pick : (t : Bool) (xs ys : List A) {us vs : List A} → us ≡ others slot xs → vs ≡ others slot ys → pick t us vs ≡ others slot (pick t xs ys)
  unfolding pick
  others-pick true xs ys e f = e
  others-pick false xs ys e f = f

  -- none of them is for that slot
  pub others-differ : (xs : List A) → All (λ x. ¬ (slot x ≡ visibility_slot)) (others slot xs)
  unfolding others
  others-differ [] = tt
  others-differ (x ∷ xs) =
      all_append _ (pick (is (slot x) visibility_slot) [] (x ∷ [])) (others slot xs)
      (pick-holds (All (λ x. ¬ (slot x ≡ visibility_slot))) _ [] (x ∷ []) (λ _. tt) (λ e. (is_false (slot x) visibility_slot e, tt))) (others-differ xs)

module _ {A B : Type 0} (f : A → ℕ) (g : B → ℕ) (h : A → B) (same : (x : A) → g (h x) ≡ f x) where
  -- what a map makes of one thing, or of none
  one-mapped : (t : Bool) (x : A) → map h (pick t [] (x ∷ [])) ≡ pick t [] (h x ∷ [])
  unfolding pick
  one-mapped true x = refl
  one-mapped false x = refl

  -- what a map makes of them are those of what it makes of all, where it keeps the slots
  pub others-map : (xs : List A) → map h (others f xs) ≡ others g (map h xs)
  unfolding others
  others-map [] = refl
  others-map (x ∷ xs) =
      let t = is (f x) visibility_slot in
      map-append h (pick t [] (x ∷ [])) (others f xs)
      ∙ ap₂ (λ (l m : List B). l ++ m) (one-mapped t x ∙ ap (λ n. pick (is n visibility_slot) [] (h x ∷ [])) (sym (same x))) (others-map xs)

-- the slot that a style is for
abbrev pub decl_slot : StyleDecl → ℕ
decl_slot d = style_slot_of d.value.style

-- ---- the styles of declarations
-- what holds of each declaration of visibility holds of one whose row has that kind
visibility-only : (P : Decl → Type 0) → ((z : Bool) → P (visibility z)) → (i s : ℕ) (c : Decl) → is (get_or (decl_row i s 0 c) declaration_kind 0) visibility_kind ≡ true → P c
unfolding decl_row is
visibility-only P h i s (color c) e = never e
visibility-only P h i s (background_color c) e = never e
visibility-only P h i s (height z) e = never e
visibility-only P h i s (max_height z) e = never e
visibility-only P h i s (overflow o) e = never e
visibility-only P h i s (overflow_y o) e = never e
visibility-only P h i s (display n) e = never e
visibility-only P h i s (white_space w) e = never e
visibility-only P h i s (content t) e = never e
visibility-only P h i s (visibility z) e = h z
visibility-only P h i s (unknown n) e = never e

module _ (ds : List Declaration) where
  -- a declaration asks for the styles of other slots that it asked for, left out if it is one of visibility
  own-one : (i : Bool) (s : ℕ) (c : Decl)
      → own_styles (pick (is_visibility (record { decl = c; important = i; start = s })) [] (record { decl = c; important = i; start = s } ∷ []) ++ ds) ≡ others decl_slot (style_of i s c) ++ own_styles ds
  unfolding is_visibility declaration_row decl_row own_styles others style_of one style_slot_of pick is
  own-one i s (color c) = refl
  own-one i s (background_color c) = refl
  own-one i s (height z) = refl
  own-one i s (max_height z) = refl
  own-one i s (overflow o) = refl
  own-one i s (overflow_y o) = refl
  own-one i s (display true) = refl
  own-one i s (display false) = refl
  own-one i s (white_space w) = refl
  own-one i s (content t) = refl
  own-one i s (visibility z) = refl
  own-one i s (unknown n) = refl

  -- a test that no declaration of visibility passes is answered the same without such a one
  any-one : (p : Decl → Bool) → ((z : Bool) → p (visibility z) ≡ false) → (d : Declaration) → any_decl p (pick (is_visibility d) [] (d ∷ []) ++ ds) ≡ or (p d.decl) (any_decl p ds)
  unfolding any_decl is_visibility declaration_row
  any-one p h d =
      pick-holds (λ (l : List Declaration). any_decl p (l ++ ds) ≡ or (p d.decl) (any_decl p ds)) _ [] (d ∷ [])
      (λ e. or-gives _ _ _ (visibility-only (λ c. p c ≡ false) h (flag d.important) d.start d.decl e) refl) (λ _. refl)

  -- and the first height of zero is the same
  zero_one : (d : Declaration) → first_zero (pick (is_visibility d) [] (d ∷ []) ++ ds) ≡ pick (zero_height d.decl) d.start (first_zero ds)
  unfolding first_zero is_visibility declaration_row
  zero_one d =
      pick-holds (λ (l : List Declaration). first_zero (l ++ ds) ≡ pick (zero_height d.decl) d.start (first_zero ds)) _ [] (d ∷ [])
      (λ e. pick-false _ _ _ _ (visibility-only (λ c. zero_height c ≡ false) (λ z. unfold zero_height in refl) (flag d.important) d.start d.decl e) refl) (λ _. refl)

-- the styles that the declarations left ask for by themselves are those of other slots
own-without : (ds : List Declaration) → own_styles (without_visibility ds) ≡ others decl_slot (own_styles ds)
unfolding without_visibility own_styles
own-without [] = unfold others in refl
own-without (d ∷ ds) =
    own-one (without_visibility ds) d.important d.start d.decl
    ∙ others-both decl_slot (style_of d.important d.start d.decl) (own_styles ds) refl (own-without ds)

-- a test that no declaration of visibility passes is answered the same without them
any-without : (p : Decl → Bool) → ((z : Bool) → p (visibility z) ≡ false) → (ds : List Declaration) → any_decl p (without_visibility ds) ≡ any_decl p ds
unfolding without_visibility
any-without p h [] = refl
any-without p h (d ∷ ds) = any-one (without_visibility ds) p h d ∙ ap (or (p d.decl)) (any-without p h ds) ∙ (unfold any_decl in refl)

-- the first height of zero is the same without them
zero-without : (ds : List Declaration) → first_zero (without_visibility ds) ≡ first_zero ds
unfolding without_visibility
zero-without [] = refl
zero-without (d ∷ ds) = zero_one (without_visibility ds) d ∙ ap (pick (zero_height d.decl) d.start) (zero-without ds) ∙ (unfold first_zero in refl)

-- the display made from a height is not for that slot
display-stays : (t : Bool) (n : ℕ) → pick t (one false n style.display_none) [] ≡ others decl_slot (pick t (one false n style.display_none) [])
display-stays t n = others-pick decl_slot t (one false n style.display_none) [] (unfold one others style_slot_of pick is in refl) (unfold others in refl)

-- the styles of declarations without those of visibility are their styles for other slots
pub styles-without : (ds : List Declaration) → styles_of (without_visibility ds) ≡ others decl_slot (styles_of ds)
unfolding styles_of
styles-without ds =
    others-both decl_slot (own_styles ds) _ (own-without ds)
    (ap₂ (λ (t : Bool) (n : ℕ). pick t (one false n style.display_none) [])
    (ap₂ and (any-without zero_height (λ z. unfold zero_height in refl) ds) (any-without hides_overflow (λ z. unfold hides_overflow in refl) ds)) (zero-without ds)
    ∙ display-stays (and (any_decl zero_height ds) (any_decl hides_overflow ds)) (first_zero ds))
