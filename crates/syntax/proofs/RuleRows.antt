-- The view of what was written is what was meant, for components, selectors and rules.
use mathlib.Core.Path.{◌≡◌, refl, ap, ◌∙◌}
use mathlib.Core.List.{List, [], ◌∷◌, ◌++◌, map-id, reverse, reverse-reverse, append_assoc}
use Prim.Native.Nat.{ℕ, ◌+◌}
use native.Mathlib.Omega.{arith}
use lib.ListN.{length, length-reverse}
use Rattle.combinators.specs.Choice.{pick, is}
use Rattle.combinators.specs.All.{All}
use Rattle.syntax.specs.Layout.{declaration_rows, declaration_texts}
use Rattle.syntax.specs.RuleLayout.{component_kind, component_first, component_second, component_text, component_row, component_from, read_component, component_rows, component_texts, pseudo_number, pseudo_from, selector_text, selector_row, read_selector, selector_rows, selector_texts, rule_text, rule_row, read_rule, rule_rows, rule_texts, rules_at}
use Rattle.syntax.specs.Selector.{Component, star, class, element, hash, child, descendant, nth, attribute, attribute_equal, PseudoElement, none, before, after, Selector, RuleSet}
use Rattle.syntax.specs.Stream.{Read, read_many, texts_many}
use Rattle.syntax.proofs.Back.{DeclarationsFit, declarations-read}
use Rattle.syntax.proofs.SignedBack.{signed_back}
use Rattle.syntax.proofs.Streams.{Held, held-left, held-right, held-part, many-back}

-- the number of a pseudo element
pub pseudo-back : (p : PseudoElement) → pseudo_from (pseudo_number p) ≡ p
unfolding pseudo_from pseudo_number pick is
pseudo-back none = refl
pseudo-back before = refl
pseudo-back after = refl

-- where nothing is asked, every list will do
every : {A : Type 0} (xs : List A) → All (λ _. Unit) xs
every [] = tt
every (x ∷ xs) = (tt, every xs)

module _ (store : List ℕ) where
  -- ---- components
  -- a component is read back where its texts are held
  pub component-back : (f : ℕ) (c : Component) (t : List ℕ) → Held store f (component_text c) → read_component store (component_row f c ++ t) ≡ record { value = c; rest = t }
  unfolding read_component component_row component_text component_kind component_first component_second component_from pick is
  component-back f star t h = refl
  component-back f (class n) t h = rw (held-part store f n h)
  component-back f (element n) t h = rw (held-part store f n h)
  component-back f (hash n) t h = rw (held-part store f n h)
  component-back f child t h = refl
  component-back f descendant t h = refl
  component-back f (nth a b) t h = rw (signed_back a, signed_back b)
  component-back f (attribute n) t h = rw (held-part store f n h)
  component-back f (attribute_equal n v) t h =
      rw (held-part store f n (held-left store f n v h), held-part store (f + length n) v (held-right store f n v h))

  -- so are components, in reading order
  pub components-back : (cs : List Component) (f : ℕ) (t : List ℕ) → Held store f (component_texts cs)
      → read_many (read_component store) (length cs) (component_rows f cs ++ t) ≡ record { value = cs; rest = t }
  unfolding component_rows component_texts
  components-back cs f t h =
      many-back store component_row component_text (read_component store) (λ c. c) (λ _. Unit) (f + length (texts_many component_text cs)) (λ f c t _ h _. component-back f c t h) cs f t (every cs) h (omega arith)
      ∙ rw (map-id cs)

  -- ---- selectors
  -- a selector, which lists its components the other way round
  pub selector-back : (f : ℕ) (s : Selector) (t : List ℕ) → Held store f (selector_text s) → read_selector store (selector_row f s ++ t) ≡ record { value = s; rest = t }
  unfolding read_selector selector_row selector_text
  selector-back f s t h =
      rw (← length-reverse s.components, components-back (reverse s.components) f t h, pseudo-back s.pseudo, reverse-reverse s.components)

  -- the rows of selectors, with their texts in the store, read back as the selectors
  pub selectors-back : (ss : List Selector) (f : ℕ) (t : List ℕ) → Held store f (selector_texts ss)
      → read_many (read_selector store) (length ss) (selector_rows f ss ++ t) ≡ record { value = ss; rest = t }
  unfolding selector_rows selector_texts
  selectors-back ss f t h =
      many-back store selector_row selector_text (read_selector store) (λ s. s) (λ _. Unit) (f + length (texts_many selector_text ss)) (λ f s t _ h _. selector-back f s t h) ss f t (every ss) h (omega arith)
      ∙ rw (map-id ss)

  -- ---- rules
  -- a rule, whose declarations' texts lie behind those of its selectors
  pub rule-back : (f : ℕ) (r : RuleSet) (t : List ℕ) → DeclarationsFit r.declarations → Held store f (rule_text r) → read_rule store (rule_row f r ++ t) ≡ record { value = r; rest = t }
  unfolding read_rule rule_row rule_text
  rule-back f r t u h =
      let ss = r.selectors in
      let ds = r.declarations in
      let g = f + length (selector_texts ss) in
      rw (
        append_assoc (selector_rows f ss) (declaration_rows g ds) t,
        selectors-back ss f (declaration_rows g ds ++ t) (held-left store f (selector_texts ss) (declaration_texts ds) h),
        declarations-read store ds g t u (held-right store f (selector_texts ss) (declaration_texts ds) h),
      )

-- the colours of every rule are of bytes
abbrev pub RulesFit : List RuleSet → Type 0
RulesFit rs = All (λ r. DeclarationsFit r.declarations) rs

module _ (store : List ℕ) where
  -- rules, and what stands behind them is left
  pub rules-read : (rs : List RuleSet) (f : ℕ) (t : List ℕ) → RulesFit rs → Held store f (rule_texts rs)
      → read_many (read_rule store) (length rs) (rule_rows f rs ++ t) ≡ record { value = rs; rest = t }
  unfolding rule_rows rule_texts
  rules-read rs f t u h =
      many-back store rule_row rule_text (read_rule store) (λ r. r) (λ r. DeclarationsFit r.declarations) (f + length (texts_many rule_text rs)) (λ f r t u h _. rule-back store f r t u h) rs f t u h (omega arith)
      ∙ rw (map-id rs)

  -- rules that were written behind f bytes of text are read back, whatever stands behind them
  pub rules-back : (rs : List RuleSet) (f : ℕ) (t : List ℕ) → RulesFit rs → Held store f (rule_texts rs) → rules_at (rule_rows f rs ++ t) store (length rs) ≡ rs
  unfolding rules_at
  rules-back rs f t u h = ap (λ (r : Read (List RuleSet)). r.value) (rules-read rs f t u h)
