-- The small functions of selectors.
use mathlib.Core.Path.{◌≡◌, refl, sym, ◌∙◌}
use mathlib.Core.Bool.{Bool, true, false}
use mathlib.Core.List.{List, [], ◌∷◌}
use Prim.Native.Nat.{ℕ, ◌+◌, ◌-◌, ◌*◌}
use lib.ListN.{get_or}
use Rattle.combinators.specs.Choice.{pick, is}
use Rattle.combinators.specs.Store.{wiped}
use Rattle.combinators.specs.Word.{starts_with}
use Rattle.combinators.proofs.Rules.{pick_true, pick-false, is-yes, is-no, is-yes-of, is-no-of}
use Rattle.characters.specs.Literal.{text}
use Rattle.characters.specs.Utf8.{utf8, continuation}
use Rattle.syntax.specs.RuleLayout.{component_width, component_kind_at, descendant_kind}
use Rattle.syntax.specs.Selector.{PseudoElement, none, before, after}
use Rattle.selectors.specs.Components.{blank_last}
use Rattle.selectors.specs.Selector.{pseudo_of, pseudo_taken}

-- ---- `drop_blank`: a blank at the end is dropped
module _ (rules : List ℕ) (place count : ℕ) where
  -- with no component, none is a blank at the end
  none_last : count ≡ 0 → blank_last rules place count ≡ false
  unfolding blank_last
  none_last e = sym (pick_true _ _ _ _ (is-yes count 0 e) refl)

  -- nothing is dropped of none
  pub dropped-none : count ≡ 0
      → (count ≡ pick (blank_last rules place count) (count - 1) count) × (rules ≡ pick (blank_last rules place count) (wiped (place + component_width * (count - 1)) component_width rules) rules)
  dropped-none e = (pick-false _ _ _ _ (none_last e) refl, pick-false _ _ _ _ (none_last e) refl)

  module _ (n : count ≡ 0 → ⊥) where
    -- where there is some component, the last is a blank exactly if the kind in its row is
    last-is : blank_last rules place count ≡ is (get_or rules (place + component_width * (count - 1) + component_kind_at) 0) descendant_kind
    unfolding blank_last
    last-is = sym (pick-false _ _ _ _ (is-no count 0 n) refl)

    -- a blank at the end is wiped
    pub dropped-blank : (k : ℕ) (rules' : List ℕ) → k ≡ get_or rules (place + component_width * (count - 1) + component_kind_at) 0 → k ≡ descendant_kind
        → rules' ≡ wiped (place + component_width * (count - 1)) component_width rules
        → (count - 1 ≡ pick (blank_last rules place count) (count - 1) count) × (rules' ≡ pick (blank_last rules place count) (wiped (place + component_width * (count - 1)) component_width rules) rules)
    dropped-blank k rules' e d w =
        let t = last-is ∙ is-yes-of k _ descendant_kind e d in
        (pick_true _ _ _ _ t refl, pick_true _ _ _ _ t w)

    -- any other component at the end stays
    pub dropped-not : (k : ℕ) → k ≡ get_or rules (place + component_width * (count - 1) + component_kind_at) 0 → (k ≡ descendant_kind → ⊥)
        → (count ≡ pick (blank_last rules place count) (count - 1) count) × (rules ≡ pick (blank_last rules place count) (wiped (place + component_width * (count - 1)) component_width rules) rules)
    dropped-not k e d =
        let t = last-is ∙ is-no-of k _ descendant_kind e d in
        (pick-false _ _ _ _ t refl, pick-false _ _ _ _ t refl)

-- ---- `parse_pseudo_element`
-- as it is written
abbrev pub before_bytes : List ℕ
before_bytes = 0x3a ∷ 0x3a ∷ 0x62 ∷ 0x65 ∷ 0x66 ∷ 0x6f ∷ 0x72 ∷ 0x65 ∷ []

abbrev pub after_bytes : List ℕ
after_bytes = 0x3a ∷ 0x3a ∷ 0x61 ∷ 0x66 ∷ 0x74 ∷ 0x65 ∷ 0x72 ∷ []

-- the bytes of `::before`, as the code compares them
before_text : text "::before" ≡ before_bytes
unfolding text utf8 continuation pick
before_text = refl

-- the bytes of `::after`, as the code compares them
after_text : text "::after" ≡ after_bytes
unfolding text utf8 continuation pick
after_text = refl

module _ (s : List ℕ) where
  -- a text that begins with `::before` has that pseudo element
  before-is : starts_with before_bytes s ≡ true → pseudo_of s ≡ before
  unfolding pseudo_of
  before-is e = rw before_text (sym (pick_true _ _ _ _ e refl))

  -- a text that begins with `::after` has that one
  after_is : starts_with before_bytes s ≡ false → starts_with after_bytes s ≡ true → pseudo_of s ≡ after
  unfolding pseudo_of
  after_is e h = rw (before_text, after_text) (sym (pick-false _ _ _ _ e (pick_true _ _ _ _ h refl)))

  -- a text that begins with neither has none
  none_is : starts_with before_bytes s ≡ false → starts_with after_bytes s ≡ false → pseudo_of s ≡ none
  unfolding pseudo_of
  none_is e h = rw (before_text, after_text) (sym (pick-false _ _ _ _ e (pick-false _ _ _ _ h refl)))

module _ (p : PseudoElement) where
  -- `::before` takes eight bytes
  taken-before : p ≡ before → ◌≡◌ {A = ℕ} 8 (pseudo_taken p)
  unfolding pseudo_taken
  taken-before e = rw (e, before_text)

  -- `::after` takes seven bytes
  taken-after : p ≡ after → ◌≡◌ {A = ℕ} 7 (pseudo_taken p)
  unfolding pseudo_taken
  taken-after e = rw (e, after_text)

  -- no pseudo element takes no bytes
  taken_none : p ≡ none → ◌≡◌ {A = ℕ} 0 (pseudo_taken p)
  unfolding pseudo_taken
  taken_none e = rw e

module _ (s : List ℕ) (b : Bool) (e : b ≡ starts_with before_bytes s) where
  -- `::before` takes eight bytes
  pub pseudo-before : b ≡ true → (◌≡◌ {A = ℕ} 8 (pseudo_taken (pseudo_of s))) × (before ≡ pseudo_of s)
  pseudo-before t =
      let q : pseudo_of s ≡ before = before-is s (sym e ∙ t) in
      (taken-before _ q, sym q)

  module _ (h : b ≡ false) (a : Bool) (i : a ≡ starts_with after_bytes s) where
    -- `::after` takes seven bytes
    pub pseudo-after : a ≡ true → (◌≡◌ {A = ℕ} 7 (pseudo_taken (pseudo_of s))) × (after ≡ pseudo_of s)
    pseudo-after t =
        let q : pseudo_of s ≡ after = after_is s (sym e ∙ h) (sym i ∙ t) in
        (taken-after _ q, sym q)

    -- anything else takes none
    pub pseudo-none : a ≡ false → (◌≡◌ {A = ℕ} 0 (pseudo_taken (pseudo_of s))) × (none ≡ pseudo_of s)
    pseudo-none t =
        let q : pseudo_of s ≡ none = none_is s (sym e ∙ h) (sym i ∙ t) in
        (taken_none _ q, sym q)
