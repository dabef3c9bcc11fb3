-- A loop over the attributes of an element: any that passes, or the first of a name.
use Rattle.std.specs.Prelude.{Option, Some, None, cond, ◌||◌}
use Rattle.std.specs.List.{find, list_any, range_with_len}
use Prim.Native.Nat.{ℕ, zero, suc, ◌+◌}
use mathlib.Core.Bool.{Bool, true, false}
use mathlib.Core.List.{List, [], ◌∷◌}
use mathlib.Core.Path.{◌≡◌, refl, sym, ap, ◌∙◌}
use lib.Dec.{eqb}
use lib.Pointwise.{pointwise}
use Rattle.combinators.specs.Choice.{pick, or}
use Rattle.combinators.specs.Word.{same_text}
use Rattle.combinators.proofs.Rules.{and-gives, and-gives-false}
use Rattle.combinators.proofs.Words.{same-by}
use Rattle.characters.specs.Literal.{text}
use Rattle.characters.specs.Utf8.{utf8}
use Rattle.page.specs.Path.{Attribute}
use Rattle.page.specs.PathOf.{attributes_from}
use Rattle.page.specs.Rows.{attribute_name, attribute_value}
use Rattle.matching.specs.Matches.{any_attribute, is_named, is_class, is_id, first_is}
use Rattle.matching.specs.Rows.{attribute_of}
use Rattle.matching.specs.Texts.{has_word}

-- ---- a text that is compared is the one that is meant
pub compared : (w own meant : List ℕ) → own ≡ meant → (r : Bool) → r ≡ pointwise eqb own w → r ≡ same_text meant w
compared w own meant e r p = p ∙ same-by own w ∙ ap (λ (l : List ℕ). same_text l w) e

-- ---- one attribute: v is its value
module _ (attributes names : List ℕ) (row : ℕ) where
  -- it has a name, which is a part of the text
  pub named : (w name : List ℕ) → name ≡ attribute_name attributes names row → (r : Bool) → r ≡ pointwise eqb name w → r ≡ is_named w (attribute_of attributes names row)
  unfolding is_named attribute_of
  named w name e r p = compared w name _ e r p

  -- the bytes of the name `class`, as the code compares them
  class-name : text "class" ≡ 0x63 ∷ 0x6c ∷ 0x61 ∷ 0x73 ∷ 0x73 ∷ []
  unfolding text utf8 pick
  class-name = refl

  -- the bytes of the name `id`, as the code compares them
  id-name : text "id" ≡ 0x69 ∷ 0x64 ∷ []
  unfolding text utf8 pick
  id-name = refl

  -- it is a `class`, and its words decide
  module _ (c : List ℕ) (t : Bool) (e : t ≡ is_named (0x63 ∷ 0x6c ∷ 0x61 ∷ 0x73 ∷ 0x73 ∷ []) (attribute_of attributes names row)) where
    -- the code's test of those five bytes is the definition's test of the name `class`
    class-test : is_named (text "class") (attribute_of attributes names row) ≡ t
    class-test = ap (λ (l : List ℕ). is_named l (attribute_of attributes names row)) class-name ∙ sym e

    -- an attribute named `class` passes exactly if the asked name is one of the words of its value
    pub class-named : t ≡ true → (v : List ℕ) → v ≡ attribute_value attributes names row → (r : Bool) → r ≡ has_word c v → r ≡ is_class c (attribute_of attributes names row)
    unfolding is_class attribute_of
    class-named h v p r q = and-gives _ _ r (class-test ∙ h) (q ∙ ap (has_word c) p)

    -- an attribute of another name is no class
    pub class-other : t ≡ false → false ≡ is_class c (attribute_of attributes names row)
    unfolding is_class
    class-other h = and-gives-false _ _ (class-test ∙ h)

  -- it is an `id`, and its value decides
  module _ (c : List ℕ) (t : Bool) (e : t ≡ is_named (0x69 ∷ 0x64 ∷ []) (attribute_of attributes names row)) where
    -- the code's test of those two bytes is the definition's test of the name `id`
    id-test : is_named (text "id") (attribute_of attributes names row) ≡ t
    id-test = ap (λ (l : List ℕ). is_named l (attribute_of attributes names row)) id-name ∙ sym e

    -- an attribute named `id` passes exactly if its value is the asked text
    pub id-named : t ≡ true → (r : Bool) → r ≡ same_text (attribute_value attributes names row) c → r ≡ is_id c (attribute_of attributes names row)
    unfolding is_id attribute_of
    id-named h r q = and-gives _ _ r (id-test ∙ h) q

    -- an attribute of another name is no id
    pub id_other : t ≡ false → false ≡ is_id c (attribute_of attributes names row)
    unfolding is_id
    id_other h = and-gives-false _ _ (id-test ∙ h)

-- ---- all of them, from row `at` on
module _ (attributes names : List ℕ) where
  -- any that passes
  pub any-row : (f : Attribute → Bool) (k at : ℕ) → list_any (λ row. f (attribute_of attributes names row)) (range_with_len at k) ≡ any_attribute f (attributes_from attributes names k at)
  unfolding any_attribute attributes_from attribute_of or
  any-row f zero at = refl
  any-row f (suc k) at = go (f (attribute_of attributes names at)) (any-row f k (at + 1))
    where
      go : (t : Bool) {a b : Bool} → a ≡ b → t || a ≡ or t b
      go true e = refl
      go false e = e

  module _ (n w : List ℕ) where
    -- by the value of a row that was found
    by_value : Option ℕ → Bool
    by_value None = false
    by_value (Some row) = same_text (attribute_value attributes names row) w

    -- the first of a name
    first-row : (k at : ℕ) → by_value (find (λ row. is_named n (attribute_of attributes names row)) (range_with_len at k)) ≡ first_is n w (attributes_from attributes names k at)
    unfolding by_value first_is attributes_from attribute_of pick
    first-row zero at = refl
    first-row (suc k) at = go (is_named n (attribute_of attributes names at)) _ (first-row k (at + 1))
      where
        go : (t : Bool) (o : Option ℕ) {b : Bool} → by_value o ≡ b → by_value (cond t (Some at) o) ≡ pick t (same_text (attribute_value attributes names at) w) b
        go true o e = refl
        go false o e = e

    module _ (k at : ℕ) (o : Option ℕ) (e : o ≡ find (λ row. is_named n (attribute_of attributes names row)) (range_with_len at k)) where
      -- the value of the first decides
      pub first-answer : {row : ℕ} → o ≡ Some row → (r : Bool) → r ≡ same_text (attribute_value attributes names row) w → r ≡ first_is n w (attributes_from attributes names k at)
      unfolding by_value
      first-answer h r q = q ∙ ap by_value (sym h ∙ e) ∙ first-row k at

      -- where there is none, no value is right
      pub first_none : o ≡ None → false ≡ first_is n w (attributes_from attributes names k at)
      unfolding by_value
      first_none h = ap by_value (sym h ∙ e) ∙ first-row k at
