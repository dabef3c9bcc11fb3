-- `color` and `bgcolor`: what an attribute's value names, merged.
use Prim.Native.Nat.{ℕ, ◌*◌}
use mathlib.Core.Bool.{Bool, true, false}
use mathlib.Core.List.{List, [], ◌∷◌, map}
use mathlib.Core.Path.{◌≡◌, refl, sym, ap, ◌∙◌}
use native.Mathlib.Omega.{arith}
use lib.ListN.{length, take}
use Rattle.combinators.specs.Choice.{pick}
use Rattle.combinators.specs.Word.{same_text}
use Rattle.combinators.proofs.Wiped.{length-wiped}
use Rattle.lexer.specs.TokenRow.{token_width}
use Rattle.characters.specs.Literal.{text}
use Rattle.syntax.specs.Declaration.{Colour}
use Rattle.syntax.specs.Layout.{colour_number, colour_slot, background_slot}
use Rattle.syntax.specs.Style.{author_origin}
use Rattle.syntax.specs.declared.styles.Value.{Value}
use Rattle.values.specs.ColourAnswer.{colour_answer}
use Rattle.values.specs.Layout.{texts_of}
use Rattle.values.specs.Value.{statement_of}
use Rattle.values.specs.Words.{Entry, Found, found, missing, lookup, on_found}
use Rattle.std.proofs.Common.{Option, Some, None}
use Rattle.std.proofs.lemmas.Option.{same_Some, none-some}
use Rattle.declarations.specs.Attribute.{colour_attribute}
use Rattle.declarations.specs.Leaving.{ColourLeft, colour_left}
use Rattle.cascade.specs.declared.slots.Cascade.{Cascade}
use Rattle.cascade.specs.declared.specificity.Specificity.{Specificity}
use Rattle.cascade.specs.Record.{AttributeStyle, Declared, main_record, from_attribute}
use Rattle.cascade.specs.Row.{merge_row_by, Merged}
use Rattle.cascade.specs.Slot.{update_by}
use Rattle.matching.specs.Matches.{is_named}
use Rattle.styles.specs.Said.{attribute_style}
use Rattle.styles.specs.StyleCall.{in_numbers}
use Rattle.styles.specs.Merged.{merged_row}
use Rattle.styles.proofs.Merging.{merged-none, merged-more}
use Rattle.attributes.specs.Merging.{colour_value, colour_says, attribute_colours}
use Rattle.attributes.proofs.Fronts.{front-wiped}

-- ---- what the value of a colour attribute declares
module _ (spec : Specificity) (slot : ℕ) where
  -- what a colour's number declares
  abbrev pub number_declared : ℕ → Declared Value
  number_declared n =
      record { pseudo = main_record; slot = slot; candidate = record { weight = record { important = false; origin = author_origin; spec = spec }; value = colour_value n } }

  -- what is said where the value was read
  said : Found Colour → List (Declared Value)
  said f =
      map (from_attribute false spec)
      (on_found f (λ x. attribute_style false (in_numbers (record { slot = slot; important = false; value = colour_value (colour_number x) })) ∷ []) [])

  -- a value that names a colour declares that colour
  said-colour : (f : Found Colour) (n : ℕ) → Some n ≡ colour_answer f → said f ≡ number_declared n ∷ []
  unfolding said colour_answer on_found from_attribute attribute_style in_numbers
  said-colour (found x) n e = let q : n ≡ colour_number x = cc in rw q
  said-colour missing n e = absurd (let z : ◌≡◌ {A = ℕ} 0 1 = cc in omega arith)

  -- a value that names no colour declares nothing
  said-none : (f : Found Colour) → None ≡ colour_answer f → said f ≡ []
  unfolding said colour_answer on_found
  said-none (found x) e = absurd (let z : ◌≡◌ {A = ℕ} 0 1 = cc in omega arith)
  said-none missing e = refl

-- what `parse_color_attribute` left: its answer, and zeros where it used the stores
module _ (s tokens brackets texts : List ℕ) (fill : ℕ) {r : Option ℕ} {x b z : List ℕ}
    (e : record { answer = r; tokens = x; brackets = b; store = z } ≡ colour_left s tokens brackets texts fill) where
  -- the reader's answer is the colour that the value names
  answer-is : r ≡ colour_answer (colour_attribute s)
  unfolding colour_left
  answer-is = ap (λ (l : ColourLeft). l.answer) e

  -- nothing up to the fill
  pub texts-kept : take fill z ≡ take fill texts
  unfolding colour_left
  texts-kept =
      let u = length (texts_of (statement_of false s).tokens) in
      ap (λ (l : ColourLeft). take fill l.store) e ∙ front-wiped texts fill u

  module _ (c : Cascade) (spec : Specificity) (slot : ℕ) (out : List ℕ) where
    -- the return where a colour was found: merged into the row, it is what the attribute declares
    pub colour-merged : (n : ℕ) (out' : List ℕ) → r ≡ Some n → Merged c out out' (number_declared spec slot n) → out' ≡ merged_row c out (map (from_attribute false spec) (colour_says slot s))
    unfolding colour_says said
    colour-merged n out' q m =
        m.numbers
        ∙ sym (merged-none c (merge_row_by (update_by c) out (number_declared spec slot n)))
        ∙ sym (merged-more c out (number_declared spec slot n) [])
        ∙ sym (ap (merged_row c out) (said-colour spec slot (colour_attribute s) n (sym q ∙ answer-is)))

    -- where no colour is named the row stays as it was
    pub colour-missing : r ≡ None → out ≡ merged_row c out (map (from_attribute false spec) (colour_says slot s))
    unfolding colour_says said
    colour-missing q = sym (merged-none c out) ∙ sym (ap (merged_row c out) (said-none spec slot (colour_attribute s) (sym q ∙ answer-is)))

-- ---- a name and a value
-- the two names with their slots, as the code has them
abbrev pub colour_slots : List (Entry ℕ)
colour_slots = record { word = text "color"; means = colour_slot } ∷ record { word = text "bgcolor"; means = background_slot } ∷ []

module _ (name value : List ℕ) where
  -- an attribute declares the slot of its name, or nothing
  by-slot : attribute_colours (record { name = name; value = value }) ≡ on_found (lookup name colour_slots) (λ slot. colour_says slot value) []
  unfolding attribute_colours is_named lookup
  by-slot = go (same_text name (text "color")) (same_text name (text "bgcolor")) _ _
    where
      go : (a b : Bool) (x y : ℕ)
          → pick a (colour_says x value) (pick b (colour_says y value) []) ≡ on_found (pick a (found x) (pick b (found y) missing)) (λ slot. colour_says slot value) []
      go true b x y = unfold pick on_found in refl
      go false true x y = unfold pick on_found in refl
      go false false x y = unfold pick on_found in refl

  module _ (c : Cascade) (spec : Specificity) (out : List ℕ) (o : Option ℕ) (e : o ≡ on_found (lookup name colour_slots) Some None) where
    -- what is declared, merged into a row
    abbrev merged : List (AttributeStyle Value) → List ℕ
    merged l = merged_row c out (map (from_attribute false spec) l)

    -- an attribute that is called by one of the two declares its slot
    pub colour-named : (slot : ℕ) → o ≡ Some slot → (out' : List ℕ) → out' ≡ merged (colour_says slot value) → out' ≡ merged (attribute_colours (record { name = name; value = value }))
    unfolding on_found
    colour-named slot h out' p = p ∙ ap merged (go (lookup name colour_slots) (sym e ∙ h) ∙ sym by-slot)
      where
        go : (x : Found ℕ) → on_found x Some None ≡ Some slot → colour_says slot value ≡ on_found x (λ s. colour_says s value) []
        go (found s) q = ap (λ s. colour_says s value) (sym (same_Some _ _ q))
        go missing q = absurd (none-some _ q)

    -- an attribute of another name declares no colour
    pub other-named : o ≡ None → out ≡ merged (attribute_colours (record { name = name; value = value }))
    unfolding on_found
    other-named h = sym (merged-none c out) ∙ ap merged (go (lookup name colour_slots) (sym e ∙ h) ∙ sym by-slot)
      where
        go : (x : Found ℕ) → on_found x Some None ≡ None → [] ≡ on_found x (λ s. colour_says s value) []
        go (found s) q = absurd (none-some _ (sym q))
        go missing q = refl

-- reading a colour leaves the stores as long as they were
pub colour-long : (s tokens brackets store : List ℕ) (fill : ℕ) {a : Option ℕ} {x b z : List ℕ} → record { answer = a; tokens = x; brackets = b; store = z } ≡ colour_left s tokens brackets store fill
    → (length x ≡ length tokens) × (length b ≡ length brackets) × (length z ≡ length store)
unfolding colour_left
colour-long s tokens brackets store fill e =
    let n = length (statement_of false s).tokens in (
      ap (λ (l : ColourLeft). length l.tokens) e ∙ length-wiped 0 (token_width * n) tokens,
      ap (λ (l : ColourLeft). length l.brackets) e ∙ length-wiped 0 n brackets,
      ap (λ (l : ColourLeft). length l.store) e ∙ length-wiped fill (length (texts_of (statement_of false s).tokens)) store,
    )
