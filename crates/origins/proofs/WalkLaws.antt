-- Values that are read one behind the other, and the returns and turns of the functions that pass over them.
use mathlib.Core.Path.{◌≡◌, refl, sym, ap, ◌∙◌}
use mathlib.Core.List.{List, [], ◌∷◌, ◌++◌}
use Prim.Native.Nat.{ℕ, zero, suc, ◌+◌, ◌*◌, ◌-◌, ◌≤◌, ◌<◌, min}
use native.Mathlib.Nat.{mul-zero, mul-suc}
use native.Mathlib.Omega.{arith}
use lib.ListN.{length, get_or, drop}
use lib.Seq.{get_or-drop, drop-drop}
use Rattle.combinators.specs.Choice.{pick, is}
use Rattle.combinators.proofs.Rules.{pick-false, is-no}
use Rattle.syntax.specs.Layout.{declaration_width, read_declaration}
use Rattle.syntax.specs.RuleLayout.{component_width, selector_components, selector_pseudo, selector_head, pseudo_number, pseudo_from, rule_head, rule_selectors, rule_declarations, read_component, read_selector, read_rule}
use Rattle.syntax.specs.Stream.{Read, read_many}
use Rattle.declarations.proofs.StyleLaws.{read_behind}
use Rattle.origins.specs.Rules.{selectors_read}

-- ---- values one behind the other
module _ {A : Type 0} (u : List ℕ → Read A) where
  -- as many are read as are asked for
  pub many-length : (k : ℕ) (t : List ℕ) → length (read_many u k t).value ≡ k
  unfolding read_many
  many-length zero t = refl
  many-length (suc k) t = ap suc (many-length k (u t).rest)

  -- values whose rows all have one width
  module _ (w : ℕ) (h : (t : List ℕ) → (u t).rest ≡ drop w t) where
    -- behind k values lies what is k widths further
    pub many-rest : (k : ℕ) (t : List ℕ) → (read_many u k t).rest ≡ drop (w * k) t
    unfolding read_many
    many-rest zero t = rw (mul-zero w)
    many-rest (suc k) t =
        let e : w + w * k ≡ w * suc k = omega (arith, mul-suc w k) in
        many-rest k (u t).rest ∙ ap (drop (w * k)) (h t) ∙ drop-drop (w * k) w t ∙ ap (λ n. drop n t) e

    -- k + 1 values are the first k, and the one that is read k widths further
    pub many-next : (k : ℕ) (t : List ℕ) → (read_many u (k + 1) t).value ≡ (read_many u k t).value ++ ((u (drop (w * k) t)).value ∷ [])
    unfolding read_many
    many-next k t =
        ap (λ (r : Read (List A)). r.value) (read_behind u k 1 t) ∙ ap (λ (x : List ℕ). (read_many u k t).value ++ ((u x).value ∷ [])) (many-rest k t)

-- behind k components lies what is k rows further
pub component-rest : (texts : List ℕ) (k : ℕ) (t : List ℕ) → (read_many (read_component texts) k t).rest ≡ drop (component_width * k) t
unfolding read_component
component-rest texts k t = many-rest (read_component texts) component_width (λ _. refl) k t

-- behind k declarations lies what is k rows further
pub declaration-rest : (texts : List ℕ) (k : ℕ) (t : List ℕ) → (read_many (read_declaration texts) k t).rest ≡ drop (declaration_width * k) t
unfolding read_declaration
declaration-rest texts k t = many-rest (read_declaration texts) declaration_width (λ _. refl) k t

-- ---- places behind a declaration, a selector and a rule
module _ (rows : List ℕ) (at : ℕ) where
  -- head and components further lies what is behind the selector
  pub behind-selector : (n place : ℕ) → n ≡ get_or rows (at + selector_components) 0 → drop place rows ≡ drop (at + (selector_head + component_width * n)) rows
      → (texts : List ℕ) → drop place rows ≡ (read_selector texts (drop at rows)).rest
  unfolding read_selector
  behind-selector n place e p texts =
      p ∙ sym (drop-drop (selector_head + component_width * n) at rows)
      ∙ sym (drop-drop (component_width * n) selector_head (drop at rows))
      ∙ ap (λ (k : ℕ). drop (component_width * k) (drop selector_head (drop at rows))) (e ∙ sym (get_or-drop at rows selector_components 0))
      ∙ sym (component-rest texts (get_or (drop at rows) selector_components 0) (drop selector_head (drop at rows)))

  -- behind the selectors of a rule
  pub behind-selectors : (n first place : ℕ) → n ≡ get_or rows (at + rule_selectors) 0 → drop first rows ≡ drop (at + rule_head) rows
      → ((texts : List ℕ) → drop place rows ≡ (read_many (read_selector texts) n (drop first rows)).rest)
      → (texts : List ℕ) → drop place rows ≡ (selectors_read texts (drop at rows)).rest
  unfolding selectors_read
  behind-selectors n first place e f p texts =
      p texts ∙ rw (e, f, get_or-drop at rows rule_selectors 0, drop-drop rule_head at rows)

  -- behind its selectors, and its declarations' rows further, lies what is behind the rule
  pub behind-rule : (n declarations place : ℕ) → n ≡ get_or rows (at + rule_declarations) 0
      → ((texts : List ℕ) → drop declarations rows ≡ (selectors_read texts (drop at rows)).rest) → drop place rows ≡ drop (declarations + declaration_width * n) rows
      → (texts : List ℕ) → drop place rows ≡ (read_rule texts (drop at rows)).rest
  unfolding read_rule selectors_read
  behind-rule n declarations place e d p texts =
      p ∙ sym (drop-drop (declaration_width * n) declarations rows)
      ∙ sym (declaration-rest texts n (drop declarations rows))
      ∙ rw (d texts, e, get_or-drop at rows rule_declarations 0)

-- ---- pseudo elements
-- a number above that of `::after` stands for it
pseudo-least : (n : ℕ) → min n 2 ≡ pseudo_number (pseudo_from n)
unfolding pseudo_number pseudo_from pick is
pseudo-least zero = refl
pseudo-least (suc zero) = refl
pseudo-least (suc (suc n)) =
    let e : min (suc (suc n)) 2 ≡ 2 = omega arith in
    e ∙ ap pseudo_number (pick-false _ _ _ _ (is-no (suc (suc n)) 0 (λ h. absurd (omega arith))) (pick-false _ _ _ _ (is-no (suc (suc n)) 1 (λ h. absurd (omega arith))) refl))

-- that of the selector at a place
pub pseudo-there : (rows : List ℕ) (at n : ℕ) → n ≡ get_or rows (at + selector_pseudo) 0 → min n 2 ≡ pseudo_number (pseudo_from (get_or (drop at rows) selector_pseudo 0))
pseudo-there rows at n e = pseudo-least n ∙ rw (e, get_or-drop at rows selector_pseudo 0)

-- ---- a loop that passes over values, whatever the texts
module _ {A : Type 0} (u : List ℕ → List ℕ → Read A) (rows : List ℕ) (count at : ℕ) where
  -- what is left to pass over is what was to be passed over
  abbrev pub Passing : ℕ → ℕ → Type 0
  Passing left place = (texts : List ℕ) → (read_many (u texts) left (drop place rows)).rest ≡ (read_many (u texts) count (drop at rows)).rest

  -- passing over one, and then one fewer from behind it, ends where passing over all from here ends
  one-behind : (texts : List ℕ) (left place next : ℕ) → 0 < left → drop next rows ≡ (u texts (drop place rows)).rest
      → (read_many (u texts) (left - 1) (drop next rows)).rest ≡ (read_many (u texts) left (drop place rows)).rest
  unfolding read_many
  one-behind texts zero place next h e = absurd (omega arith)
  one-behind texts (suc k) place next h e = let q : suc k - 1 ≡ k = omega arith in rw (q, e)

  -- with none left to pass over, what is left lies here
  none-behind : (texts : List ℕ) (left place : ℕ) → left ≤ 0 → drop place rows ≡ (read_many (u texts) left (drop place rows)).rest
  unfolding read_many
  none-behind texts zero place h = refl
  none-behind texts (suc k) place h = absurd (omega arith)

  module _ (left place : ℕ) (c : Passing left place) where
    -- with one value passed over, the others are left from behind it
    pub passing-more : 0 < left → (next : ℕ) → ((texts : List ℕ) → drop next rows ≡ (u texts (drop place rows)).rest) → Passing (left - 1) next
    passing-more h next e texts = one-behind texts left place next h (e texts) ∙ c texts

    -- with none left, what lies here is what lies behind all of them
    pub passing-done : left ≤ 0 → (texts : List ℕ) → drop place rows ≡ (read_many (u texts) count (drop at rows)).rest
    passing-done h texts = none-behind texts left place h ∙ c texts

  -- the same of a count of those that were passed
  pub passing-next : (i place : ℕ) → Passing (count - i) place → i < count → (next : ℕ) → ((texts : List ℕ) → drop next rows ≡ (u texts (drop place rows)).rest) → Passing (count - (i + 1)) next
  passing-next i place c h next e =
      let q : count - (i + 1) ≡ count - i - 1 = omega arith in
      rw q (passing-more (count - i) place c (omega arith) next e)
