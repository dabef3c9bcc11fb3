-- What one attribute says, before the author's rules and behind them.
use Prim.Native.Nat.{ℕ, ◌+◌}
use mathlib.Core.Bool.{Bool, true, false}
use mathlib.Core.List.{List, [], ◌∷◌, ◌++◌, map, append-nil}
use mathlib.Core.Path.{◌≡◌, refl, sym, ap, ◌∙◌}
use native.Mathlib.Nat.{add-zero}
use native.Mathlib.Omega.{arith}
use lib.ListN.{length, take}
use Rattle.combinators.specs.Choice.{pick, and, is}
use Rattle.combinators.specs.Word.{same_text}
use Rattle.combinators.proofs.Rules.{pick_true, pick-false}
use Rattle.combinators.proofs.Words.{same-is}
use Rattle.characters.specs.Literal.{text}
use Rattle.characters.specs.Utf8.{utf8}
use Rattle.syntax.specs.Declaration.{Colour}
use Rattle.syntax.specs.Layout.{colour_number, colour_slot, background_slot, style_slot_of, style_text_of, style_text, style_texts, number_from, value_from, numbers_from}
use Rattle.syntax.specs.Stream.{texts_many}
use Rattle.syntax.specs.Style as style
use Rattle.syntax.specs.Style.{Style, StyleDecl}
use Rattle.syntax.specs.declared.styles.Value.{Value}
use Rattle.values.specs.Layout.{Room}
use Rattle.values.specs.Words.{Found, found, missing, on_found}
use Rattle.declarations.specs.Attribute.{style_attribute, colour_attribute}
use Rattle.cascade.specs.declared.slots.Cascade.{Cascade}
use Rattle.cascade.specs.declared.slots.Cascade.TheVariants.{Crate, Book}
use Rattle.cascade.specs.Record.{Styled, from_attribute, colour_attributes, style_attributes}
use Rattle.cascade.specs.Specificity.{no_specificity, inline_specificity}
use Rattle.page.specs.Path.{Attribute}
use Rattle.page.specs.Rows.{attribute_name, attribute_value}
use Rattle.matching.specs.Matches.{is_named}
use Rattle.matching.specs.Rows.{attribute_of}
use Rattle.styles.specs.Said.{colour_styles, attribute_styles, attribute_style, attribute_says}
use Rattle.styles.specs.StyleCall.{attribute_contents, in_numbers, placed_styles}
use Rattle.styles.specs.Merged.{merged_row, late_declared}
use Rattle.styles.proofs.Merging.{merged-none}
use Rattle.attributes.specs.Merging.{ValueRoom, colour_value, colour_says, attribute_colours}

-- ---- a `style` attribute
module _ (a : Attribute) (h : is_named (text "style") a ≡ true) where
  -- its styles are those of its value
  styles-are : attribute_styles a ≡ style_attribute a.value
  unfolding attribute_styles
  styles-are = sym (pick_true _ _ _ _ h refl)

  -- a `style` attribute says the styles of its value, placed from f on
  style-says : (f : ℕ) → attribute_says (placed_styles f) a ≡ map (attribute_style true) (placed_styles f (style_attribute a.value))
  unfolding attribute_says
  style-says f = rw (h, styles-are)

  -- a `style` attribute has the contents of its value's styles
  style-contents : attribute_contents a ≡ style_texts (style_attribute a.value)
  unfolding attribute_contents
  style-contents = ap style_texts styles-are

  -- a `style` attribute names no colour
  style-colourless : attribute_colours a ≡ []
  unfolding attribute_colours is_named same_text text utf8 pick and is
  style-colourless =
      let e : a.name ≡ text "style" = same-is a.name (text "style") h in
      rw e

-- ---- any other
-- what a colour says
colour-said : (slot : Colour → Style) (k f : ℕ) (c : Found Colour) → ((x : Colour) → style_slot_of (slot x) ≡ k) → ((x : Colour) → value_from f (record { style = slot x; start = 0 }) ≡ colour_value (colour_number x))
    → map (attribute_style {A = Value} false) (placed_styles f (colour_styles slot c))
    ≡ on_found c (λ x. attribute_style false (in_numbers (record { slot = k; important = false; value = colour_value (colour_number x) })) ∷ []) []
unfolding colour_styles on_found placed_styles numbers_from
colour-said slot k f (found x) e v = rw (e x, v x)
colour-said slot k f missing e v = refl

-- a colour has no text
colour-textless : (slot : Colour → Style) (c : Found Colour) → ((x : Colour) → style_text_of (slot x) ≡ []) → style_texts (colour_styles slot c) ≡ []
unfolding colour_styles on_found style_texts texts_many style_text
colour-textless slot (found x) e = rw (e x)
colour-textless slot missing e = refl

-- by the choice between two names
by_names : {A B : Type 0} (g : A → B) (t u : Bool) (x y z : A) (x' y' z' : B) → g x ≡ x' → g y ≡ y' → g z ≡ z' → g (pick t x (pick u y z)) ≡ pick t x' (pick u y' z')
unfolding pick
by_names g true u x y z x' y' z' p q r = p
by_names g false true x y z x' y' z' p q r = q
by_names g false false x y z x' y' z' p q r = r

-- where nothing is said by either of two names, nothing is said
either-none : {A : Type 0} (t u : Bool) → pick {A = List A} t [] (pick u [] []) ≡ []
unfolding pick
either-none true u = refl
either-none false true = refl
either-none false false = refl

module _ (a : Attribute) (h : is_named (text "style") a ≡ false) where
  -- its styles are a colour or none
  other-styles : attribute_styles a
      ≡ pick (is_named (text "color") a) (colour_styles style.colour (colour_attribute a.value)) (pick (is_named (text "bgcolor") a) (colour_styles style.background (colour_attribute a.value)) [])
  unfolding attribute_styles
  other-styles = sym (pick-false _ _ _ _ h refl)

  -- any other attribute says the colour that it names, if any
  other-says : (f : ℕ) → attribute_says (placed_styles f) a ≡ attribute_colours a
  unfolding attribute_says attribute_colours colour_says placed_styles style_slot_of number_from value_from style_text_of
  other-says f =
      rw (h, other-styles)
      (by_names (λ (l : List StyleDecl). map (attribute_style {A = Value} false) (placed_styles f l)) (is_named (text "color") a) (is_named (text "bgcolor") a) _ _ _ _ _ _
      (colour-said style.colour colour_slot f (colour_attribute a.value) (λ x. refl) (λ x. refl))
      (colour-said style.background background_slot f (colour_attribute a.value) (λ x. refl) (λ x. refl))
      refl)

  -- any other attribute has no contents
  other-contents : attribute_contents a ≡ []
  unfolding attribute_contents style_text_of
  other-contents =
      rw other-styles
      (by_names style_texts (is_named (text "color") a) (is_named (text "bgcolor") a) _ _ _ [] [] []
      (colour-textless style.colour (colour_attribute a.value) (λ x. refl))
      (colour-textless style.background (colour_attribute a.value) (λ x. refl))
      no-texts
      ∙ either-none (is_named (text "color") a) (is_named (text "bgcolor") a))
    where
      -- no style has no text
      no-texts : style_texts [] ≡ []
      no-texts = unfold style_texts texts_many in refl

-- ---- its colours are no styles of a `style` attribute
-- in the book order a colour says nothing behind the author's rules
colour-not-late : (slot : ℕ) (v : List ℕ) → style_attributes (colour_says slot v) ≡ []
unfolding colour_says
colour-not-late slot v = go (colour_attribute v)
  where
    go : (c : Found Colour)
        → style_attributes (on_found c (λ x. attribute_style false (in_numbers (record { slot = slot; important = false; value = colour_value (colour_number x) })) ∷ []) []) ≡ []
    go (found x) = unfold on_found style_attributes attribute_style pick in refl
    go missing = unfold on_found style_attributes in refl

-- neither does `color` or `bgcolor`
colours-not-late : (a : Attribute) → style_attributes (attribute_colours a) ≡ []
unfolding attribute_colours
colours-not-late a =
    by_names style_attributes (is_named (text "color") a) (is_named (text "bgcolor") a) _ _ _ [] [] []
    (colour-not-late colour_slot a.value) (colour-not-late background_slot a.value) none
    ∙ either-none (is_named (text "color") a) (is_named (text "bgcolor") a)
  where
    -- no attributes have no `style` declarations
    none : style_attributes {A = Value} [] ≡ []
    none = unfold style_attributes in refl

-- before the author's rules it is said
colour-early : (slot : ℕ) (v : List ℕ) → colour_attributes (colour_says slot v) ≡ map (from_attribute false no_specificity) (colour_says slot v)
unfolding colour_says
colour-early slot v = go (colour_attribute v)
  where
    go : (c : Found Colour)
        → colour_attributes (on_found c (λ x. attribute_style false (in_numbers (record { slot = slot; important = false; value = colour_value (colour_number x) })) ∷ []) [])
        ≡ map (from_attribute false no_specificity) (on_found c (λ x. attribute_style false (in_numbers (record { slot = slot; important = false; value = colour_value (colour_number x) })) ∷ []) [])
    go (found x) = unfold on_found colour_attributes attribute_style pick in refl
    go missing = unfold on_found colour_attributes in refl

-- so is that of `color` or `bgcolor`
colours-early : (a : Attribute) → colour_attributes (attribute_colours a) ≡ map (from_attribute false no_specificity) (attribute_colours a)
unfolding attribute_colours
colours-early a =
    let t = is_named (text "color") a in
    let u = is_named (text "bgcolor") a in
    by_names colour_attributes t u _ _ _ _ _ _ (colour-early colour_slot a.value) (colour-early background_slot a.value) none
    ∙ sym (by_names (map (from_attribute false no_specificity)) t u _ _ _ _ _ _ refl refl refl)
  where
    -- no attributes declare no colours
    none : colour_attributes {A = Value} [] ≡ map (from_attribute false no_specificity) []
    none = unfold colour_attributes in refl

-- the styles of a `style` attribute say nothing there
styles-not-early : (xs : List (Styled Value)) → colour_attributes (map (attribute_style true) xs) ≡ []
unfolding colour_attributes attribute_style pick
styles-not-early [] = refl
styles-not-early (x ∷ xs) = styles-not-early xs

-- before the author's rules an attribute says its colours, wherever its contents lie
pub early-colours : (f : ℕ) (a : Attribute) → colour_attributes (attribute_says (placed_styles f) a) ≡ map (from_attribute false no_specificity) (attribute_colours a)
early-colours f a = go (is_named (text "style") a) refl
  where
    go : (t : Bool) → is_named (text "style") a ≡ t → colour_attributes (attribute_says (placed_styles f) a) ≡ map (from_attribute false no_specificity) (attribute_colours a)
    go true e = ap colour_attributes (style-says a e f) ∙ styles-not-early (placed_styles f (style_attribute a.value)) ∙ sym (ap (map (from_attribute false no_specificity)) (style-colourless a e))
    go false e = ap colour_attributes (other-says a e f) ∙ colours-early a

-- ---- `merge_late`
-- what is asked to read a value that is told otherwise
module _ (base fill : ℕ) (value v rules tokens brackets texts : List ℕ) (e : value ≡ v) (o : ValueRoom (length v) base fill rules tokens brackets texts) where
  -- there is room to read the value as a `style` attribute
  pub style-room : ValueRoom (length value) base fill rules tokens brackets texts
  style-room = rw e o

  -- room for a `style` attribute's value is room for a colour's
  pub colour-room : Room (length value) fill tokens brackets texts
  colour-room =
      let l = ap length e in
      let t = o.for-texts in
      let m = o.bits in
      record { for-tokens = omega (arith, o.for-tokens); for-brackets = omega (arith, o.for-brackets); for-texts = omega arith; bits = omega arith }

-- the name as the code has it
style-name : text "style" ≡ 0x73 ∷ 0x74 ∷ 0x79 ∷ 0x6c ∷ 0x65 ∷ []
unfolding text utf8 pick
style-name = refl

-- an attribute of a row, by its name and its value as they are read
module _ (attributes names : List ℕ) (row : ℕ) (name value : List ℕ) (en : name ≡ attribute_name attributes names row) (ev : value ≡ attribute_value attributes names row) where
  -- what it leaves: the row, the fill and the texts
  abbrev pub Late : Cascade → ℕ → ℕ → List ℕ → List ℕ → ℕ → List ℕ → List ℕ → Type 0
  Late c base fill out out' r texts texts' =
      let a = attribute_of attributes names row in
      (out' ≡ merged_row c out (late_declared c (attribute_says (placed_styles (base + fill)) a)))
      × ((r ≡ fill + length (attribute_contents a)) × (take r texts' ≡ take fill texts ++ attribute_contents a))

  -- it is the attribute of that name and that value
  whole : record { name = name; value = value } ≡ attribute_of attributes names row
  unfolding attribute_of
  whole = rw (en, ev)

  module _ (t : Bool) (e : t ≡ same_text name (0x73 ∷ 0x74 ∷ 0x79 ∷ 0x6c ∷ 0x65 ∷ [])) (c : Cascade) (base fill : ℕ) (out texts : List ℕ) where
    -- whether it is a `style`
    style-test : is_named (text "style") (attribute_of attributes names row) ≡ t
    unfolding is_named attribute_of
    style-test = rw (← en) (ap (same_text name) style-name ∙ sym e)

    -- an attribute called `style`, behind the author's rules: its styles are merged and its contents kept
    pub late-style : t ≡ true → (out' : List ℕ) (r : ℕ) (texts' : List ℕ)
        → out' ≡ merged_row c out (late_declared c (map (attribute_style true) (placed_styles (base + fill) (style_attribute value))))
        → r ≡ fill + length (style_texts (style_attribute value)) → take r texts' ≡ take fill texts ++ style_texts (style_attribute value)
        → Late c base fill out out' r texts texts'
    unfolding attribute_of
    late-style h out' r texts' p q w =
        let k = style-test ∙ h in
        let m = style-contents (attribute_of attributes names row) k in
        (rw (style-says (attribute_of attributes names row) k (base + fill), ← ev) p, (rw (m, ← ev) q, rw (m, ← ev) w))

    module _ (h : t ≡ false) where
      -- any other leaves the texts up to the fill
      other-texts : (texts' : List ℕ) → take fill texts' ≡ take fill texts
          → (fill ≡ fill + length (attribute_contents (attribute_of attributes names row))) × (take fill texts' ≡ take fill texts ++ attribute_contents (attribute_of attributes names row))
      other-texts texts' w =
          let m = other-contents (attribute_of attributes names row) (style-test ∙ h) in
          (rw m (sym (add-zero fill)), rw m (w ∙ sym (append-nil (take fill texts))))

      -- in the crate's cascade it says its colour
      pub late-colour : c ≡ Crate → (out' texts' : List ℕ)
          → out' ≡ merged_row c out (map (from_attribute false inline_specificity) (attribute_colours (record { name = name; value = value })))
          → take fill texts' ≡ take fill texts → Late c base fill out out' fill texts texts'
      unfolding late_declared
      late-colour k out' texts' p w =
          (p ∙ rw (k, other-says (attribute_of attributes names row) (style-test ∙ h) (base + fill), whole), other-texts texts' w)

      -- in the book order nothing
      pub late-nothing : c ≡ Book → Late c base fill out out fill texts texts
      unfolding late_declared
      late-nothing k = (
        sym (merged-none c out)
            ∙ rw (k, other-says (attribute_of attributes names row) (style-test ∙ h) (base + fill), colours-not-late (attribute_of attributes names row)),
        other-texts texts refl,
      )
