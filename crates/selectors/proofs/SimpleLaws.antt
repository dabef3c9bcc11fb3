-- Simple components: the alternatives in order, each of which leaves the store as it was where it fails.
use mathlib.Core.Path.{◌≡◌, refl, sym, ap, ◌∙◌}
use mathlib.Core.Bool.{Bool, true, false}
use mathlib.Core.List.{List, []}
use Prim.Native.Nat.{ℕ}
use native.Mathlib.Omega.{arith}
use lib.Seq.{sets}
use Rattle.std.specs.Prelude.{None, Ok}
use Rattle.combinators.specs.Choice.{pick}
use Rattle.combinators.proofs.Rules.{pick-holds}
use Rattle.lexer.specs.Name.{ident_of}
use Rattle.syntax.specs.Selector as syntax
use Rattle.syntax.specs.Selector.{child, star, descendant, element}
use Rattle.syntax.specs.RuleLayout.{component_text}
use Rattle.selectors.specs.Outcome.{Outcome, reads, fails, panics, on_outcome, parsed, or_else}
use Rattle.selectors.specs.Selector.{class_of, attr_of, hash_of, pseudo_class_of, marked, blank_of, component_of}
use Rattle.selectors.specs.Components.{first_component, next_of}
use Rattle.selectors.specs.Reading.{written}
use Rattle.selectors.specs.ComponentAnswer.{component_answer, mark_of, named_of}
use Rattle.selectors.proofs.ComponentLaws.{ComponentAnswer, Left, or-fails, or_assoc}
use Rattle.selectors.proofs.PseudoLaws.{none-textless, pseudo-textless}

-- ---- the first of two that reads or panics
-- where the first reads or panics, both together leave what it leaves
left-first : (o o' : Outcome syntax.Component) (st : List ℕ) (fill : ℕ) (r : ComponentAnswer) (z : List ℕ) → Left o st fill r z → (r ≡ Ok None → ⊥)
    → Left (or_else o o') st fill r z
unfolding or_else component_answer on_outcome
left-first (reads n c) o' st fill r z w h = w
left-first fails o' st fill r z w h = absurd (h w.0)
left-first (panics p) o' st fill r z w h = w

-- where the first alternative fails, what the second leaves is left
left-second : (o o' : Outcome syntax.Component) (st : List ℕ) (fill : ℕ) → o ≡ fails → (r : ComponentAnswer) (z : List ℕ) → Left o' st fill r z → Left (or_else o o') st fill r z
left-second o o' st fill e r z w = rw (or-fails o o' e) w

-- an answer that nothing was read: the store is as it was
not-component : (o : Outcome syntax.Component) (st : List ℕ) (fill : ℕ) (z : List ℕ) → Left o st fill (Ok None) z → (o ≡ fails) × (z ≡ st)
unfolding component_answer written on_outcome
not-component (reads n c) st fill z w = absurd (let e = w.0 in let q : ◌≡◌ {A = ℕ} 0 1 = cc in omega arith)
not-component fails st fill z w = (refl, w.1)
not-component (panics p) st fill z w = absurd (let e = w.0 in let q : ◌≡◌ {A = ℕ} 0 1 = cc in omega arith)

-- the same of an answer that is it
tried : (o : Outcome syntax.Component) (st : List ℕ) (fill : ℕ) (r : ComponentAnswer) (z : List ℕ) → Left o st fill r z → r ≡ Ok None → (o ≡ fails) × (z ≡ st)
tried o st fill r z w h = not-component o st fill z (rw h at w)

-- ---- the returns of `parse_named`
module _ (s st : List ℕ) (fill : ℕ) (r : ComponentAnswer) (z : List ℕ) (w : Left (class_of s) st fill r z) where
  -- the return where a class was read
  pub named-class : (r ≡ Ok None → ⊥) → Left (named_of s) st fill r z
  unfolding named_of
  named-class h = left-first _ _ st fill r z w h

  -- no class was read: an attribute is tried
  module _ (h : r ≡ Ok None) where
    -- the store is as it was
    pub same_class : z ≡ st
    same_class = (tried _ st fill r z w h).1

    -- where no class reads, the alternatives behind it decide
    no-class : (x : ComponentAnswer) (y : List ℕ) → Left (or_else (attr_of s) (or_else (hash_of s) (or_else (parsed 0 (ident_of s) element) (pseudo_class_of s)))) st fill x y → Left (named_of s) st fill x y
    unfolding named_of
    no-class x y v = left-second _ _ st fill (tried _ st fill r z w h).0 x y v

    module _ (r₂ : ComponentAnswer) (z₂ : List ℕ) (w₂ : Left (attr_of s) z fill r₂ z₂) where
      -- what the next one left, from the first store
      from-attr : Left (attr_of s) st fill r₂ z₂
      from-attr = rw same_class at w₂

      -- the return where an attribute was read
      pub named-attr : (r₂ ≡ Ok None → ⊥) → Left (named_of s) st fill r₂ z₂
      named-attr k = no-class r₂ z₂ (left-first _ _ st fill r₂ z₂ from-attr k)

      -- no attribute was read: a hash is tried
      module _ (h₂ : r₂ ≡ Ok None) where
        -- the store is as it was
        pub same-attr : z₂ ≡ st
        same-attr = (tried _ st fill r₂ z₂ from-attr h₂).1

        -- where no attribute reads either, the alternatives behind it decide
        no-attr : (x : ComponentAnswer) (y : List ℕ) → Left (or_else (hash_of s) (or_else (parsed 0 (ident_of s) element) (pseudo_class_of s))) st fill x y → Left (named_of s) st fill x y
        no-attr x y v = no-class x y (left-second _ _ st fill (tried _ st fill r₂ z₂ from-attr h₂).0 x y v)

        module _ (r₃ : ComponentAnswer) (z₃ : List ℕ) (w₃ : Left (hash_of s) z₂ fill r₃ z₃) where
          -- the same of the next one
          from-hash : Left (hash_of s) st fill r₃ z₃
          from-hash = rw same-attr at w₃

          -- the return where a hash was read
          pub named-hash : (r₃ ≡ Ok None → ⊥) → Left (named_of s) st fill r₃ z₃
          named-hash k = no-attr r₃ z₃ (left-first _ _ st fill r₃ z₃ from-hash k)

          -- no hash was read: a type selector is tried
          module _ (h₃ : r₃ ≡ Ok None) where
            -- the store is as it was
            same-hash : z₃ ≡ st
            same-hash = (tried _ st fill r₃ z₃ from-hash h₃).1

            -- where no hash reads either, the alternatives behind it decide
            no-hash : (x : ComponentAnswer) (y : List ℕ) → Left (or_else (parsed 0 (ident_of s) element) (pseudo_class_of s)) st fill x y → Left (named_of s) st fill x y
            no-hash x y v = no-attr x y (left-second _ _ st fill (tried _ st fill r₃ z₃ from-hash h₃).0 x y v)

            module _ (r₄ : ComponentAnswer) (z₄ : List ℕ) (w₄ : Left (parsed 0 (ident_of s) element) z₃ fill r₄ z₄) where
              -- the same of the next one
              from-element : Left (parsed 0 (ident_of s) element) st fill r₄ z₄
              from-element = rw same-hash at w₄

              -- the return where an element was read
              pub named-element : (r₄ ≡ Ok None → ⊥) → Left (named_of s) st fill r₄ z₄
              named-element k = no-hash r₄ z₄ (left-first _ _ st fill r₄ z₄ from-element k)

              -- no type selector was read: a pseudo-class is tried
              module _ (h₄ : r₄ ≡ Ok None) where
                -- the store is as it was
                pub same-element : z₄ ≡ st
                same-element = (tried _ st fill r₄ z₄ from-element h₄).1

                -- the return where a pseudo-class was tried, as the last alternative
                pub named-pseudo : (x : ComponentAnswer) (y : List ℕ) → (x ≡ component_answer (pseudo_class_of s)) × (y ≡ z₄) → Left (named_of s) st fill x y
                named-pseudo x y v =
                    no-hash x y (left-second _ _ st fill (tried _ st fill r₄ z₄ from-element h₄).0 x y (v.0, v.1 ∙ same-element ∙ sym (ap (sets st fill) (pseudo-textless s))))

-- ---- the returns of `parse_simple_selector_component`
-- the two groups of alternatives are all
component-is : (s : List ℕ) → or_else (mark_of s) (named_of s) ≡ component_of s
unfolding mark_of named_of component_of
component-is s =
    or_assoc _ _ _ ∙ ap (or_else (marked s _ child)) (or_assoc _ _ _)

-- the text of a mark is empty
or-textless : (o o' : Outcome syntax.Component) → written component_text o ≡ [] → written component_text o' ≡ [] → written component_text (or_else o o') ≡ []
unfolding or_else
or-textless (reads n c) o' e f = e
or-textless fails o' e f = f
or-textless (panics p) o' e f = e

-- a component without a text writes none
bare-textless : (n : ℕ) (c : syntax.Component) → component_text c ≡ [] → written component_text (reads n c) ≡ []
unfolding written on_outcome
bare-textless n c e = e

-- `>`, `*` and white space have no text
bare : (component_text child ≡ []) × (component_text star ≡ []) × (component_text descendant ≡ [])
unfolding component_text
bare = (refl, refl, refl)

-- `>` and `*` write no text
marked-textless : (s : List ℕ) (mark : ℕ) (c : syntax.Component) → component_text c ≡ [] → written component_text (marked s mark c) ≡ []
unfolding marked
marked-textless s mark c e = pick-holds (λ (o : Outcome syntax.Component). written component_text o ≡ []) _ _ _ (λ _. bare-textless _ c e) (λ _. none-textless)

-- white space writes no text
blank-textless : (s : List ℕ) → written component_text (blank_of s) ≡ []
unfolding blank_of
blank-textless s = pick-holds (λ (o : Outcome syntax.Component). written component_text o ≡ []) _ _ _ (λ _. bare-textless _ descendant bare.2) (λ _. none-textless)

-- none of the three writes a text
mark-textless : (s : List ℕ) → written component_text (mark_of s) ≡ []
unfolding mark_of
mark-textless s = or-textless _ _ (marked-textless s _ child bare.0) (or-textless _ _ (marked-textless s _ star bare.1) (blank-textless s))

module _ (s st : List ℕ) (fill : ℕ) (r : ComponentAnswer) (er : r ≡ component_answer (mark_of s)) where
  -- a mark leaves the store as it is
  mark-left : Left (mark_of s) st fill r st
  mark-left = (er, sym (ap (sets st fill) (mark-textless s)))

  -- the return where one of the three was read
  pub simple-mark : (r ≡ Ok None → ⊥) → Left (component_of s) st fill r st
  simple-mark h = rw (← component-is s) (left-first _ _ st fill r st mark-left h)

  -- none: what stands behind it
  pub simple-named : r ≡ Ok None → (x : ComponentAnswer) (z : List ℕ) → Left (named_of s) st fill x z → Left (component_of s) st fill x z
  simple-named h x z v = rw (← component-is s) (left-second _ _ st fill (tried _ st fill r st mark-left h).0 x z v)

-- ---- the returns of `parse_next`
module _ (start : Bool) (s st : List ℕ) (fill : ℕ) where
  -- behind the start of a selector the next component is any component
  pub next-any : start ≡ false → (x : ComponentAnswer) (z : List ℕ) → Left (component_of s) st fill x z → Left (next_of start s) st fill x z
  unfolding next_of pick
  next-any n x z v = rw n v

  module _ (h : start ≡ true) (r : ComponentAnswer) (z : List ℕ) (w : Left (parsed 0 (ident_of s) element) st fill r z) where
    -- at the start of a selector a type selector that reads or panics is the next component
    pub next-element : (r ≡ Ok None → ⊥) → Left (next_of start s) st fill r z
    unfolding next_of first_component pick
    next-element k = rw h (left-first _ _ st fill r z w k)

    -- no type selector was read: any component is tried
    module _ (e : r ≡ Ok None) where
      -- where no type selector was read the store is as it was
      pub next-same : z ≡ st
      next-same = (tried _ st fill r z w e).1

      -- where none was read, what the reader of any component leaves is left
      pub next-other : (x : ComponentAnswer) (y : List ℕ) → Left (component_of s) z fill x y → Left (next_of start s) st fill x y
      unfolding next_of first_component pick
      next-other x y v = rw h (left-second _ _ st fill (tried _ st fill r z w e).0 x y (rw next-same at v))
