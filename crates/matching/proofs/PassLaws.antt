-- What a simple component asks: of an element, by its kind and texts; of the document; and which of three a component chooses.
use Prim.Native.Nat.{ℕ, ◌+◌}
use mathlib.Core.Bool.{Bool, true, false}
use mathlib.Core.List.{List, [], ◌∷◌}
use mathlib.Core.Path.{◌≡◌, refl, sym, ap, ◌∙◌}
use native.Mathlib.Omega.{arith}
use Rattle.combinators.specs.Choice.{pick, and, is}
use Rattle.combinators.specs.Part.{part}
use Rattle.combinators.specs.Word.{same_text}
use Rattle.combinators.proofs.Rules.{never, pick-holds, pick_true, pick-false, is_true, is_false, is-yes, is-no, and_yes}
use Rattle.syntax.specs.RuleLayout.{star_kind, class_kind, element_kind, hash_kind, child_kind, descendant_kind, nth_kind, attribute_kind, component_kind_at, component_first_at, component_second_at, component_from}
use Rattle.syntax.specs.Selector.{Component, star, class, element, hash, child, descendant, nth, attribute, attribute_equal}
use Rattle.syntax.specs.Signed.{signed_of}
use Rattle.page.specs.Ancestors.{place_of}
use Rattle.page.specs.Path.{Attribute, Element, Path}
use Rattle.page.specs.PathOf.{element_at}
use Rattle.page.specs.Rows.{name_of}
use Rattle.matching.specs.Matches.{any_attribute, is_class, is_id, is_named, first_is, has_class, has_id, has_attribute, attribute_is, name_is, here, on_parent, on_ancestors, step, matches}
use Rattle.matching.specs.Nth.{nth_matches}
use Rattle.matching.specs.Rows.{component_number, first_text, second_text, attributes_pass, element_passes}
use Rattle.matching.specs.Recursion.{by_combinator}

-- ---- the returns of `attributes_asked`, with the first text of a component and the attributes l of an element
module _ (store components nodes attributes text : List ℕ) (i row k : ℕ) (name : List ℕ) (en : name ≡ first_text store components i)
    (l : List Attribute) (el : l ≡ (element_at nodes attributes text row).attributes) where
  -- what is asked of the attributes
  abbrev AsksFor : Bool → Type 0
  AsksFor r = r ≡ attributes_pass k (first_text store components i) (second_text store components i) (element_at nodes attributes text row).attributes

  -- a class component asks for a class of that name
  pub class-asked : k ≡ class_kind → (r : Bool) → r ≡ any_attribute (is_class name) l → AsksFor r
  unfolding attributes_pass
  class-asked e r p = pick_true _ _ _ (is k class_kind) (is-yes _ _ e) (rw (← en, ← el) p)

  module _ (no-class : ¬ (k ≡ class_kind)) where
    -- a hash component asks for an id of that name
    pub hash-asked : k ≡ hash_kind → (r : Bool) → r ≡ any_attribute (is_id name) l → AsksFor r
    unfolding attributes_pass
    hash-asked e r p =
        pick-false _ _ _ (is k class_kind) (is-no _ _ no-class) (pick_true _ _ _ (is k hash_kind) (is-yes _ _ e) (rw (← en, ← el) p))

    module _ (no-hash : ¬ (k ≡ hash_kind)) where
      -- an attribute component asks for an attribute of that name
      pub attribute-asked : k ≡ attribute_kind → (r : Bool) → r ≡ any_attribute (is_named name) l → AsksFor r
      unfolding attributes_pass
      attribute-asked e r p =
          pick-false _ _ _ (is k class_kind) (is-no _ _ no-class)
          (pick-false _ _ _ (is k hash_kind) (is-no _ _ no-hash) (pick_true _ _ _ (is k attribute_kind) (is-yes _ _ e) (rw (← en, ← el) p)))

      -- an attribute of a value
      pub value-asked : ¬ (k ≡ attribute_kind) → (value : List ℕ) → value ≡ second_text store components i → (r : Bool)
          → r ≡ first_is name value l → AsksFor r
      unfolding attributes_pass
      value-asked no-attribute value ev r p =
          pick-false _ _ _ (is k class_kind) (is-no _ _ no-class)
          (pick-false _ _ _ (is k hash_kind) (is-no _ _ no-hash)
          (pick-false _ _ _ (is k attribute_kind) (is-no _ _ no-attribute) (rw (← en, ← ev, ← el) p)))

-- ---- the returns of `element_passes`
module _ (store components nodes attributes text : List ℕ) (i row k : ℕ) (ek : k ≡ component_number components i component_kind_at) where
  -- an element component asks for the element's name
  pub name-passes : k ≡ element_kind → (name : List ℕ) → name ≡ first_text store components i → (r : Bool) → r ≡ same_text (name_of nodes text row) name
      → r ≡ element_passes store components i (element_at nodes attributes text row)
  unfolding element_passes element_at name_is
  name-passes e name en r p =
      let no-nth : ¬ (component_number components i component_kind_at ≡ nth_kind) = λ z. absurd (omega arith) in
      pick-false _ _ _ (is (component_number components i component_kind_at) nth_kind) (is-no _ _ no-nth)
      (pick_true _ _ _ (is (component_number components i component_kind_at) element_kind) (is-yes _ _ (sym ek ∙ e))
      (p ∙ ap (same_text (name_of nodes text row)) en))

  module _ (no_name : ¬ (k ≡ element_kind)) where
    -- nth asks for the element's place among its siblings
    pub nth-passes : k ≡ nth_kind → (r : Bool)
        → r ≡ nth_matches (signed_of (component_number components i component_first_at)) (signed_of (component_number components i component_second_at)) (place_of nodes row)
        → r ≡ element_passes store components i (element_at nodes attributes text row)
    unfolding element_passes element_at
    nth-passes e r p = pick_true _ _ _ (is (component_number components i component_kind_at) nth_kind) (is-yes _ _ (sym ek ∙ e)) p

    -- every other simple component asks for the attributes
    pub attributes-passes : ¬ (k ≡ nth_kind) → (r : Bool)
        → r ≡ attributes_pass k (first_text store components i) (second_text store components i) (element_at nodes attributes text row).attributes
        → r ≡ element_passes store components i (element_at nodes attributes text row)
    unfolding element_passes
    attributes-passes no-nth r p =
        pick-false _ _ _ (is (component_number components i component_kind_at) nth_kind) (is-no _ _ (λ z. no-nth (ek ∙ z)))
        (pick-false _ _ _ (is (component_number components i component_kind_at) element_kind) (is-no _ _ (λ z. no_name (ek ∙ z)))
        (rw (← ek) p))

-- a component that is no combinator chooses the third of three
by-simple : {A : Type 0} (c : Component) → by_combinator c false false true ≡ true → (x y z : A) → by_combinator c x y z ≡ z
unfolding by_combinator
by-simple star e x y z = refl
by-simple (class c) e x y z = refl
by-simple (element n) e x y z = refl
by-simple (hash h) e x y z = refl
by-simple child e x y z = never e
by-simple descendant e x y z = never e
by-simple (nth a b) e x y z = refl
by-simple (attribute n) e x y z = refl
by-simple (attribute_equal n v) e x y z = refl

-- ---- a component by its numbers
module _ (store : List ℕ) (k f a b : ℕ) where
  -- the numbers name a combinator or star
  pub from-child : k ≡ child_kind → component_from store k f a b ≡ child
  unfolding component_from pick is
  from-child e = rw e

  -- numbers of the descendant combinator's kind are a descendant combinator
  pub from-descendant : k ≡ descendant_kind → component_from store k f a b ≡ descendant
  unfolding component_from pick is
  from-descendant e = rw e

  -- numbers of star's kind are a component that matches every path
  pub from-star : (p : Path) → k ≡ star_kind → true ≡ matches (component_from store k f a b ∷ []) p
  unfolding component_from matches step pick is
  from-star p e = rw e

  -- the document passes nothing but star
  abbrev FailsThere : Component → Type 0
  FailsThere c = false ≡ matches (c ∷ []) []

  -- numbers of any kind but star's are a component that fails on the document
  pub document-fails : ¬ (k ≡ star_kind) → FailsThere (component_from store k f a b)
  unfolding component_from matches step here on_parent on_ancestors and
  document-fails no-star =
      pick-holds FailsThere (is k star_kind) _ _ (λ e. absurd (no-star (is_true k star_kind e)))
      (λ e0. pick-holds FailsThere (is k class_kind) _ _ (λ e. refl)
      (λ e1. pick-holds FailsThere (is k element_kind) _ _ (λ e. refl)
      (λ e2. pick-holds FailsThere (is k hash_kind) _ _ (λ e. refl)
      (λ e3. pick-holds FailsThere (is k child_kind) _ _ (λ e. refl)
      (λ e4. pick-holds FailsThere (is k descendant_kind) _ _ (λ e. refl)
      (λ e5. pick-holds FailsThere (is k nth_kind) _ _ (λ e. refl)
      (λ e6. pick-holds FailsThere (is k attribute_kind) _ _ (λ e. refl) (λ e7. refl))))))))

  module _ (no-child : ¬ (k ≡ child_kind)) (no-descendant : ¬ (k ≡ descendant_kind)) where
    -- a simple component is no combinator
    abbrev Simple : Component → Type 0
    Simple c = by_combinator c false false true ≡ true

    -- numbers of neither combinator's kind are a simple component
    is-simple : Simple (component_from store k f a b)
    unfolding component_from by_combinator
    is-simple =
        pick-holds Simple (is k star_kind) _ _ (λ e. refl)
        (λ e0. pick-holds Simple (is k class_kind) _ _ (λ e. refl)
        (λ e1. pick-holds Simple (is k element_kind) _ _ (λ e. refl)
        (λ e2. pick-holds Simple (is k hash_kind) _ _ (λ e. refl)
        (λ e3. pick-holds Simple (is k child_kind) _ _ (λ e. absurd (no-child (is_true k child_kind e)))
        (λ e4. pick-holds Simple (is k descendant_kind) _ _ (λ e. absurd (no-descendant (is_true k descendant_kind e)))
        (λ e5. pick-holds Simple (is k nth_kind) _ _ (λ e. refl)
        (λ e6. pick-holds Simple (is k attribute_kind) _ _ (λ e. refl) (λ e7. refl))))))))

    -- so it chooses the third of three
    pub third-chosen : {A : Type 0} (x y z : A) → by_combinator (component_from store k f a b) x y z ≡ z
    third-chosen x y z = by-simple (component_from store k f a b) is-simple x y z

    -- of an element its own tests are asked
    module _ (no-star : ¬ (k ≡ star_kind)) (x : Element) (up : Path) where
      abbrev Asked : Bool
      Asked =
          pick (is k nth_kind) (nth_matches (signed_of a) (signed_of b) x.place)
          (pick (is k element_kind) (name_is (part store f a) x)
          (attributes_pass k (part store f a) (part store (f + a) b) x.attributes))

      abbrev Agrees : Component → Type 0
      Agrees c = Asked ≡ matches (c ∷ []) (x ∷ up)

      -- of a class kind: what is asked of the element is whether it has that class
      at-class : k ≡ class_kind → Agrees (class (part store f a))
      unfolding matches step here has_class attributes_pass pick is
      at-class e = rw e (sym (and_yes _))

      -- of an element kind: what is asked is whether the element has that name
      at-element : k ≡ element_kind → Agrees (element (part store f a))
      unfolding matches step here pick is
      at-element e = rw e (sym (and_yes _))

      -- of a hash kind: what is asked is whether the element has that id
      at-hash : k ≡ hash_kind → Agrees (hash (part store f a))
      unfolding matches step here has_id attributes_pass pick is
      at-hash e = rw e (sym (and_yes _))

      -- of an nth kind: what is asked is whether the element's place is one of those
      at-nth : k ≡ nth_kind → Agrees (nth (signed_of a) (signed_of b))
      unfolding matches step here pick is
      at-nth e = rw e (sym (and_yes _))

      -- of an attribute kind: what is asked is whether the element has an attribute of that name
      at-attribute : k ≡ attribute_kind → Agrees (attribute (part store f a))
      unfolding matches step here has_attribute attributes_pass pick is
      at-attribute e = rw e (sym (and_yes _))

      -- of any other kind: what is asked is whether the first attribute of the name has the value
      at-equal : is k class_kind ≡ false → is k element_kind ≡ false → is k hash_kind ≡ false → is k nth_kind ≡ false → is k attribute_kind ≡ false
          → Agrees (attribute_equal (part store f a) (part store (f + a) b))
      unfolding matches step here attribute_is attributes_pass pick
      at-equal e1 e2 e3 e6 e7 = rw (e6, e2, e1, e3, e7) (sym (and_yes _))

      -- whatever simple component the numbers name, what is asked of the element is whether that component matches it
      pub asked-of-element : Agrees (component_from store k f a b)
      unfolding component_from
      asked-of-element =
          pick-holds Agrees (is k star_kind) _ _ (λ e. absurd (no-star (is_true k star_kind e)))
          (λ e0. pick-holds Agrees (is k class_kind) _ _ (λ e. at-class (is_true k class_kind e))
          (λ e1. pick-holds Agrees (is k element_kind) _ _ (λ e. at-element (is_true k element_kind e))
          (λ e2. pick-holds Agrees (is k hash_kind) _ _ (λ e. at-hash (is_true k hash_kind e))
          (λ e3. pick-holds Agrees (is k child_kind) _ _ (λ e. absurd (no-child (is_true k child_kind e)))
          (λ e4. pick-holds Agrees (is k descendant_kind) _ _ (λ e. absurd (no-descendant (is_true k descendant_kind e)))
          (λ e5. pick-holds Agrees (is k nth_kind) _ _ (λ e. at-nth (is_true k nth_kind e))
          (λ e6. pick-holds Agrees (is k attribute_kind) _ _ (λ e. at-attribute (is_true k attribute_kind e))
          (λ e7. at-equal e1 e2 e3 e6 e7))))))))

  -- any component but a descendant combinator chooses the first or the third
  chosen : (t : Bool) → is k child_kind ≡ t → ¬ (k ≡ descendant_kind) → {A : Type 0} (x y : A) → by_combinator (component_from store k f a b) x y x ≡ x
  unfolding by_combinator
  chosen true e d x y = rw (from-child (is_true k child_kind e)) refl
  chosen false e d x y = third-chosen (is_false k child_kind e) d x y x

  -- so where the first choice and the third are one, any component but a descendant combinator chooses it
  pub second-passed : ¬ (k ≡ descendant_kind) → {A : Type 0} (x y : A) → by_combinator (component_from store k f a b) x y x ≡ x
  second-passed d x y = chosen (is k child_kind) refl d x y
