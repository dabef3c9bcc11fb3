-- The rows of components: a number, a text, one component more; and the specificity that they add up to.
use Prim.Native.Nat.{ℕ, zero, suc, ◌+◌, ◌*◌, ◌≤◌, ◌<◌, ◌^◌}
use mathlib.Core.Bool.{false}
use mathlib.Core.Logic.{◌⊎◌, inl, inr}
use mathlib.Core.List.{List, [], ◌∷◌, ◌++◌, reverse, reverse_aux-append}
use mathlib.Core.Path.{◌≡◌, refl, sym, ap, ◌∙◌}
use native.Mathlib.Omega.{arith}
use lib.ListN.{length, drop}
use lib.Seq.{drop-drop, get_or-drop}
use Rattle.combinators.specs.Choice.{pick, is}
use Rattle.combinators.specs.Part.{part}
use Rattle.combinators.proofs.Rules.{is_true, is_false, pick-holds, lt-or-ge}
use Rattle.syntax.specs.RuleLayout.{star_kind, class_kind, element_kind, hash_kind, child_kind, descendant_kind, nth_kind, attribute_kind, component_width, component_kind_at, component_text_at, component_first_at, component_second_at, component_from, read_component}
use Rattle.syntax.specs.Selector.{Component, star, class, element, hash, child, descendant, nth, attribute, attribute_equal}
use Rattle.syntax.specs.Stream.{Read, read_many}
use Rattle.cascade.specs.Specificity.{specificity_of, no_specificity, sum, SumFits}
use Rattle.cascade.specs.declared.specificity.Specificity.{Specificity}
use Rattle.matching.specs.Rows.{component_number, component_at, components_at, first_text, second_text}
use Rattle.matching.specs.Specificity.{added, name_added, specificity}

-- ---- texts
module _ (store components : List ℕ) (i start first : ℕ) (es : start ≡ component_number components i component_text_at) (ef : first ≡ component_number components i component_first_at) where
  -- the first text of a component
  pub first_part : (r : List ℕ) → r ≡ part store start first → r ≡ first_text store components i
  unfolding first_text
  first_part r e = rw (← es, ← ef) e

  -- the second text of a component lies behind its first
  pub second-part : (second : ℕ) → second ≡ component_number components i component_second_at → (r : List ℕ) → r ≡ part store (start + first) second
      → r ≡ second_text store components i
  unfolding second_text
  second-part second et r e = rw (← es, ← ef, ← et) e

-- ---- one component more

-- k + 1 values are k values and one
module _ {A : Type 0} (u : List ℕ → Read A) where
  -- reading k + 1 values gives the first k, and behind them the one that is read next
  read_more : (k : ℕ) (t : List ℕ) → (read_many u (suc k) t).value ≡ (read_many u k t).value ++ ((u (read_many u k t).rest).value ∷ [])
  unfolding read_many
  read_more zero t = refl
  read_more (suc k) t = ap (λ (l : List A). (u t).value ∷ l) (read_more k (u t).rest)

-- reading k components ends k rows further on
read-rest : (store : List ℕ) (k : ℕ) (t : List ℕ) → (read_many (read_component store) k t).rest ≡ drop (k * component_width) t
unfolding read_many read_component
read-rest store zero t = refl
read-rest store (suc k) t =
    let e : component_width + k * component_width ≡ suc k * component_width = omega arith in
    read-rest store k (drop component_width t) ∙ drop-drop (k * component_width) component_width t ∙ ap (λ (n : ℕ). drop n t) e

-- the component at the k-th row is read from k rows further on
read-there : (store : List ℕ) (k : ℕ) (t : List ℕ) → (read_component store (drop (k * component_width) t)).value ≡ component_at store t k
unfolding read_component component_at component_number
read-there store k t =
    rw (get_or-drop (k * component_width) t component_kind_at 0, get_or-drop (k * component_width) t component_text_at 0, get_or-drop (k * component_width) t component_first_at 0, get_or-drop (k * component_width) t component_second_at 0)

-- it stands in front of those that are read before it
pub components-more : (store components : List ℕ) (k : ℕ) → components_at store components (suc k) ≡ component_at store components k ∷ components_at store components k
unfolding components_at
components-more store components k =
    let l = (read_many (read_component store) k components).value in
    let c = (read_component store (read_many (read_component store) k components).rest).value in
    let e : c ≡ component_at store components k
    = ap (λ (t : List ℕ). (read_component store t).value) (read-rest store k components) ∙ read-there store k components in
    ap (λ (r : List Component). reverse r) (read_more (read_component store) k components) ∙ reverse_aux-append l (c ∷ []) []
    ∙ ap (λ (x : Component). x ∷ reverse l) e

-- there are none in no row
pub components-none : (store components : List ℕ) → components_at store components 0 ≡ []
unfolding components_at read_many
components-none store components = refl

-- as many as are read
pub components-length : (store components : List ℕ) (k : ℕ) → length (components_at store components k) ≡ k
components-length store components zero = ap length (components-none store components)
components-length store components (suc k) = ap length (components-more store components k) ∙ ap suc (components-length store components k)

-- ---- specificity

-- as the code's constant has it
abbrev pub nothing : Specificity
nothing = record { inline = false; id = 0; class = 0; typ = 0 }

-- what a component of kind k adds
module _ (store : List ℕ) (k f a b : ℕ) where
  -- star adds nothing to a specificity
  pub adds-star : k ≡ star_kind → nothing ≡ added (component_from store k f a b)
  unfolding component_from added no_specificity specificity_of pick is
  adds-star e = rw e

  -- an element name adds one to the element names
  adds-element : k ≡ element_kind → specificity_of 0 0 1 ≡ added (component_from store k f a b)
  unfolding component_from added pick is
  adds-element e = rw e

  -- a hash adds one to the ids
  adds-hash : k ≡ hash_kind → specificity_of 1 0 0 ≡ added (component_from store k f a b)
  unfolding component_from added pick is
  adds-hash e = rw e

  -- a child combinator adds nothing to a specificity
  pub adds-child : k ≡ child_kind → nothing ≡ added (component_from store k f a b)
  unfolding component_from added no_specificity specificity_of pick is
  adds-child e = rw e

  -- a descendant combinator adds nothing to a specificity
  pub adds-descendant : k ≡ descendant_kind → nothing ≡ added (component_from store k f a b)
  unfolding component_from added no_specificity specificity_of pick is
  adds-descendant e = rw e

  -- so no combinator does
  pub adds-combinator : child_kind ≤ k → k ≤ descendant_kind → nothing ≡ added (component_from store k f a b)
  adds-combinator h l = go (lt-or-ge child_kind k)
    where
      go : (child_kind < k) ⊎ (k ≤ child_kind) → nothing ≡ added (component_from store k f a b)
      go (inl g) = adds-descendant (omega arith)
      go (inr g) = adds-child (omega arith)

  abbrev AsClass : Component → Type 0
  AsClass c = specificity_of 0 1 0 ≡ added c

  -- a component of any other kind counts as a class
  adds-class : ¬ (k ≡ star_kind) → ¬ (k ≡ element_kind) → ¬ (k ≡ hash_kind) → ¬ (k ≡ child_kind) → ¬ (k ≡ descendant_kind) → AsClass (component_from store k f a b)
  unfolding component_from added
  adds-class no-star no-element no-hash no-child no-descendant =
      pick-holds AsClass (is k star_kind) _ _ (λ e. absurd (no-star (is_true k star_kind e)))
      (λ e0. pick-holds AsClass (is k class_kind) _ _ (λ e. refl)
      (λ e1. pick-holds AsClass (is k element_kind) _ _ (λ e. absurd (no-element (is_true k element_kind e)))
      (λ e2. pick-holds AsClass (is k hash_kind) _ _ (λ e. absurd (no-hash (is_true k hash_kind e)))
      (λ e3. pick-holds AsClass (is k child_kind) _ _ (λ e. absurd (no-child (is_true k child_kind e)))
      (λ e4. pick-holds AsClass (is k descendant_kind) _ _ (λ e. absurd (no-descendant (is_true k descendant_kind e)))
      (λ e5. pick-holds AsClass (is k nth_kind) _ _ (λ e. refl)
      (λ e6. pick-holds AsClass (is k attribute_kind) _ _ (λ e. refl) (λ e7. refl))))))))

  -- so one that is no star and no combinator adds what its kind says
  pub adds-name : ¬ (k ≡ star_kind) → ¬ (k ≡ child_kind) → ¬ (k ≡ descendant_kind) → name_added k ≡ added (component_from store k f a b)
  unfolding name_added
  adds-name no-star no-child no-descendant =
      pick-holds (λ (x : Specificity). x ≡ added (component_from store k f a b)) (is k element_kind) _ _ (λ e. adds-element (is_true k element_kind e))
      (λ no-element. pick-holds (λ (x : Specificity). x ≡ added (component_from store k f a b)) (is k hash_kind) _ _ (λ e. adds-hash (is_true k hash_kind e))
      (λ no-hash. adds-class no-star (is_false k element_kind no-element) (is_false k hash_kind no-hash) no-child no-descendant))

-- a component adds at most one to each count
pub added-few : (c : Component) → ((added c).id ≤ 1) × (((added c).class ≤ 1) × ((added c).typ ≤ 1))
unfolding added specificity_of no_specificity
added-few star = (omega arith, (omega arith, omega arith))
added-few (class c) = (omega arith, (omega arith, omega arith))
added-few (element n) = (omega arith, (omega arith, omega arith))
added-few (hash h) = (omega arith, (omega arith, omega arith))
added-few child = (omega arith, (omega arith, omega arith))
added-few descendant = (omega arith, (omega arith, omega arith))
added-few (nth a b) = (omega arith, (omega arith, omega arith))
added-few (attribute n) = (omega arith, (omega arith, omega arith))
added-few (attribute_equal n v) = (omega arith, (omega arith, omega arith))

-- r is the specificity of the first i components of n, and its counts are at most i
pub record Adding (components : List ℕ) (n i : ℕ) (r : Specificity) : Type 0 where
  pub within_count : i ≤ n
  pub total : (store : List ℕ) → r ≡ specificity (components_at store components i)
  pub ids : r.id ≤ i
  pub classes : r.class ≤ i
  pub types : r.typ ≤ i

-- before the first component the sum is nothing, in every count
pub add_begin : (components : List ℕ) (n : ℕ) → Adding components n 0 nothing
unfolding specificity no_specificity specificity_of
add_begin components n =
    record {
      within_count = omega arith;
      total = λ store. sym (ap specificity (components-none store components));
      ids = omega arith;
      classes = omega arith;
      types = omega arith;
    }

-- x is what the i-th component adds
module _ (components : List ℕ) (n i : ℕ) (r : Specificity) (v : Adding components n i r) (inside : i < n) (k : ℕ) (ek : k ≡ component_number components i component_kind_at)
    (x : Specificity) (adds : (store : List ℕ) (f a b : ℕ) → x ≡ added (component_from store k f a b)) where
  -- x is what the component that stands in the i-th row adds, with any text store
  there : (store : List ℕ) → x ≡ added (component_at store components i)
  unfolding component_at
  there store = rw (← ek) (adds store _ _ _)

  -- it is at most one in each count
  few : (x.id ≤ 1) × ((x.class ≤ 1) × (x.typ ≤ 1))
  few = rw (there []) (added-few (component_at [] components i))

  -- the sum can be taken
  pub add-fits : n < 2 ^ 32 → SumFits x r
  add-fits h =
      record {
        id-fits = omega (arith, few.0, v.ids);
        class-fits = omega (arith, few.1.0, v.classes);
        type-fits = omega (arith, few.1.1, v.types);
      }

  -- and is the specificity with that component
  summed : (store : List ℕ) → sum x r ≡ specificity (components_at store components (i + 1))
  unfolding specificity
  summed store =
      let e : suc i ≡ i + 1 = omega arith in
      ap (λ (y : Specificity). sum y r) (there store) ∙ ap (sum (added (component_at store components i))) (v.total store)
      ∙ sym (ap specificity (components-more store components i)) ∙ ap (λ (m : ℕ). specificity (components_at store components m)) e

  -- with x added, the sum is that of i + 1 components, and its counts are at most i + 1
  bounded : Adding components n (i + 1) (sum x r)
  unfolding sum
  bounded =
      record {
        within_count = omega arith;
        total = summed;
        ids = omega (arith, few.0, v.ids);
        classes = omega (arith, few.1.0, v.classes);
        types = omega (arith, few.1.1, v.types);
      }

  -- so is the sum that the code took
  pub add-more : (q : Specificity) → q ≡ sum x r → Adding components n (i + 1) q
  add-more q e = rw e bounded
