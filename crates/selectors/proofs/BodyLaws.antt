-- The components of a selector as the code reads them: a first one, and more behind it; a blank at either end is dropped.
use mathlib.Core.Path.{◌≡◌, refl, sym, ap, ◌∙◌}
use mathlib.Core.Bool.{Bool, true, false}
use mathlib.Core.List.{List, [], ◌∷◌, ◌++◌, reverse, reverse-append, reverse-reverse}
use Prim.Native.Nat.{ℕ, zero, suc, ◌+◌}
use native.Mathlib.Omega.{arith}
use lib.ListN.{length, drop, length-drop}
use Rattle.combinators.specs.Choice.{pick, is}
use Rattle.combinators.specs.Parsed.{Parsed, ok, err, on_parsed}
use Rattle.combinators.proofs.Rules.{is-no, pick_true}
use Rattle.lexer.specs.Name.{ident_of}
use Rattle.syntax.specs.Selector.{Component, star, class, element, hash, child, descendant, nth, attribute, attribute_equal}
use Rattle.selectors.specs.Outcome.{Outcome, reads, fails, panics, on_outcome, behind, parsed, or_else}
use Rattle.selectors.specs.Selector.{component_of, components_of, components_from, some_of, with_element_of, without_element_of, body_of, without_blank}
use Rattle.selectors.specs.Components.{first_component, started_of, kept_of}
use Rattle.selectors.proofs.AllLaws.{reads-no, panics-no, behind-never, then_never}
use Rattle.selectors.proofs.ComponentEnds.{component-some, none_left, enough_turns}
use Rattle.selectors.proofs.ComponentLaws.{or-fails}

-- ---- a blank at the start
-- whether a component is a blank
unfoldable pub is_descendant : Component → Bool
is_descendant descendant = true
is_descendant _ = false

-- of components with a first one, that first one is dropped where it is a blank
pub blank-first : (c : Component) (cs : List Component) → without_blank (c ∷ cs) ≡ pick (is_descendant c) cs (c ∷ cs)
unfolding without_blank is_descendant pick
blank-first star cs = refl
blank-first (class t) cs = refl
blank-first (element t) cs = refl
blank-first (hash t) cs = refl
blank-first child cs = refl
blank-first descendant cs = refl
blank-first (nth a b) cs = refl
blank-first (attribute n) cs = refl
blank-first (attribute_equal n v) cs = refl

-- of no components none is dropped
pub first-none : without_blank [] ≡ []
unfolding without_blank
first-none = refl

-- what is kept of a component: nothing of a blank at the start, and else the component
pub kept-is : (start : Bool) (c : Component) → kept_of start c ≡ pick start (pick (is_descendant c) [] (c ∷ [])) (c ∷ [])
unfolding kept_of
kept-is start c = ap (λ (cs : List Component). pick start cs (c ∷ [])) (blank-first c [])

-- what is kept of a first component
kept-first : (c : Component) → kept_of true c ≡ pick (is_descendant c) [] (c ∷ [])
kept-first c = kept-is true c ∙ sym (pick_true _ _ _ _ refl refl)

-- a component or none stands in front of others
in_front : (b : Bool) (c : Component) (cs : List Component) → pick b cs (c ∷ cs) ≡ pick b [] (c ∷ []) ++ cs
unfolding pick
in_front true c cs = refl
in_front false c cs = refl

-- what is kept of a first component stands in front of the others
pub without-first : (c : Component) (cs : List Component) → without_blank (c ∷ cs) ≡ kept_of true c ++ cs
without-first c cs = blank-first c cs ∙ in_front (is_descendant c) c cs ∙ ap (λ (xs : List Component). xs ++ cs) (sym (kept-first c))

-- ---- a blank at the end
-- components without a blank at the end
unfoldable pub without_last : List Component → List Component
without_last cs = reverse (without_blank (reverse cs))

-- one component or none is the same from either end
reverse-one : (b : Bool) (c : Component) → reverse (pick b [] (c ∷ [])) ≡ pick b [] (c ∷ [])
unfolding pick
reverse-one true c = refl
reverse-one false c = refl

-- of components with a last one, that last one is dropped where it is a blank
pub blank-last : (xs : List Component) (c : Component) → without_last (xs ++ c ∷ []) ≡ xs ++ pick (is_descendant c) [] (c ∷ [])
unfolding without_last
blank-last xs c =
    ap (λ (cs : List Component). reverse (without_blank cs)) (reverse-append xs (c ∷ []))
    ∙ ap reverse (without-first c (reverse xs))
    ∙ reverse-append (kept_of true c) (reverse xs)
    ∙ rw (kept-first c, reverse-one (is_descendant c) c, reverse-reverse xs)

-- of no components none is dropped at the end
pub no_end : without_last [] ≡ []
unfolding without_last without_blank
no_end = refl

-- ---- reading components never fails: where none reads there are none
-- reading components, in any number of turns, reads or panics
pub never-fail : (l : ℕ) (t : List ℕ) → components_of l t ≡ fails → ⊥
unfolding components_of
never-fail zero t e = reads-no e
never-fail (suc l) t e = then_never (component_of t) _ (reads 0 []) _ (λ n c. behind-never n _ _ (never-fail l (drop n t))) reads-no e

-- ---- the first component, and more behind it
unfoldable pub first_behind : Outcome Component → (ℕ → Outcome (List Component)) → Outcome (List Component)
first_behind o more = on_outcome o (λ n c. behind n (more n) (λ cs. kept_of true c ++ cs)) fails (λ p. panics p)

-- a reading behind nothing, without a blank at the start
behind-first : (n : ℕ) (o : Outcome (List Component)) (c : Component) → behind 0 (behind n o (λ cs. c ∷ cs)) without_blank ≡ behind n o (λ cs. kept_of true c ++ cs)
unfolding behind on_outcome
behind-first n (reads m cs) c =
    let e : 0 + (n + m) ≡ n + m = omega arith in
    rw (e, without-first c cs)
behind-first n fails c = refl
behind-first n (panics p) c =
    let e : 0 + (n + p) ≡ n + p = omega arith in
    rw e

-- an alternative that never fails is the choice
or-never : {A : Type 0} (o p : Outcome A) → (o ≡ fails → ⊥) → or_else o p ≡ o
unfolding or_else
or-never (reads n a) p h = refl
or-never fails p h = absurd (h refl)
or-never (panics q) p h = refl

-- components with a first one are some components
some_more : (n : ℕ) (o : Outcome (List Component)) (c : Component) → some_of (behind n o (λ cs. c ∷ cs)) ≡ behind n o (λ cs. c ∷ cs)
unfolding some_of behind on_outcome pick
some_more n (reads m cs) c = rw (is-no (suc (length cs)) 0 (λ e. absurd (omega arith)))
some_more n fails c = refl
some_more n (panics p) c = refl

-- components without a type selector: the first and those behind it
without-read : (t : List ℕ) (n : ℕ) (c : Component) → component_of t ≡ reads n c → without_element_of t ≡ behind n (components_from (drop n t)) (λ cs. c ∷ cs)
unfolding without_element_of components_from components_of on_outcome
without-read [] n c e = absurd (reads-no (sym e ∙ none_left))
without-read (x ∷ t) n c e =
    let h = component-some (x ∷ t) n c e in
    let q = enough_turns (length t) (length (drop n (x ∷ t))) (drop n (x ∷ t)) (omega (arith, length-drop n (x ∷ t))) (omega arith) in
    rw (e, q) (some_more n (components_of (length (drop n (x ∷ t))) (drop n (x ∷ t))) c)

-- where no component reads there is no selector without a type selector
without-none : (t : List ℕ) → component_of t ≡ fails → without_element_of t ≡ fails
unfolding without_element_of components_from components_of some_of on_outcome pick is
without-none [] e = refl
without-none (x ∷ t) e = rw e

-- the crate panics in the first
without-panic : (t : List ℕ) (p : ℕ) → component_of t ≡ panics p → without_element_of t ≡ panics p
unfolding without_element_of components_from components_of some_of on_outcome
without-panic [] p e = absurd (panics-no (sym e ∙ none_left))
without-panic (x ∷ t) p e = rw e

-- where nothing reads, nothing reads without a blank at the start
nothing-behind : behind {A = List Component} 0 fails without_blank ≡ fails
unfolding behind on_outcome
nothing-behind = refl

-- where the crate panics, it panics without a blank at the start at the same byte
panic-behind : (p : ℕ) → behind {A = List Component} 0 (panics p) without_blank ≡ panics p
unfolding behind on_outcome
panic-behind p =
    let e : 0 + p ≡ p = omega arith in
    rw e

-- an element is no blank: as the first component it is kept in front of those behind it
element-behind : (n : ℕ) (name : List ℕ) (more : ℕ → Outcome (List Component))
    → behind n (more n) (λ cs. kept_of true (element name) ++ cs) ≡ first_behind (reads n (element name)) more
unfolding first_behind on_outcome
element-behind n name more = refl

-- components without a type selector are the first one that reads, and those behind it
by_first : (t : List ℕ) (o : Outcome Component) → component_of t ≡ o → behind 0 (without_element_of t) without_blank ≡ first_behind o (λ n. components_from (drop n t))
unfolding first_behind on_outcome
by_first t (reads n c) e = ap (λ (o : Outcome (List Component)). behind 0 o without_blank) (without-read t n c e) ∙ behind-first n (components_from (drop n t)) c
by_first t fails e = ap (λ (o : Outcome (List Component)). behind 0 o without_blank) (without-none t e) ∙ nothing-behind
by_first t (panics p) e = ap (λ (o : Outcome (List Component)). behind 0 o without_blank) (without-panic t p e) ∙ panic-behind p

-- nor does it fail behind a first component
never-behind : (n : ℕ) (t : List ℕ) (c : Component) → behind n (components_from t) (λ cs. c ∷ cs) ≡ fails → ⊥
unfolding components_from
never-behind n t c e = behind-never n (components_of (length t) t) (λ cs. c ∷ cs) (never-fail (length t) t) e

-- a type selector is the first component
first-name : (t : List ℕ) (n : ℕ) (name : List ℕ) → ident_of t ≡ ok n name → first_component t ≡ reads n (element name)
unfolding first_component parsed or_else
first-name t n name e =
    let z : 0 + n ≡ n = omega arith in
    rw (e, z)

-- or else any component is
first-other : (t : List ℕ) → ident_of t ≡ err → first_component t ≡ component_of t
unfolding first_component parsed or_else
first-other t e = rw e

-- a selector that begins with a type selector is it and the components behind it
with-name : (t : List ℕ) (n : ℕ) (name : List ℕ) → ident_of t ≡ ok n name → with_element_of t ≡ behind n (components_from (drop n t)) (λ cs. element name ∷ cs)
unfolding with_element_of on_parsed
with-name t n name e = rw e

-- without a name there is no selector with a type selector
with_none : (t : List ℕ) → ident_of t ≡ err → with_element_of t ≡ fails
unfolding with_element_of on_parsed
with_none t e = rw e

-- by whether there is a type selector
by_name : (t : List ℕ) (p : Parsed (List ℕ)) → ident_of t ≡ p → started_of t ≡ first_behind (first_component t) (λ n. components_from (drop n t))
unfolding started_of body_of
by_name t (ok n name) e =
    rw (
      with-name t n name e,
      or-never (behind n (components_from (drop n t)) (λ cs. element name ∷ cs)) (without_element_of t) (never-behind n (drop n t) (element name)),
      first-name t n name e,
    )
    (behind-first n (components_from (drop n t)) (element name) ∙ element-behind n name (λ m. components_from (drop m t)))
by_name t err e = rw (with_none t e, or-fails {A = List Component} fails (without_element_of t) refl, first-other t e) (by_first t (component_of t) refl)

-- a selector's components are the first one, without which it does not read, and those behind it
pub started : (t : List ℕ) → started_of t ≡ first_behind (first_component t) (λ n. components_from (drop n t))
started t = by_name t (ident_of t) refl
