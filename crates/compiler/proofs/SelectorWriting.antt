-- Returns and turns of the functions that write a selector.
use mathlib.Core.Path.{◌≡◌, refl, sym, ap, ◌∙◌}
use mathlib.Core.List.{List, [], ◌∷◌, ◌++◌, reverse, reverse-append}
use Prim.Native.Nat.{ℕ, ◌+◌, ◌*◌, ◌-◌, ◌≤◌, ◌<◌}
use native.Mathlib.Omega.{arith}
use lib.ListN.{length, get_or, drop, length-reverse}
use lib.Seq.{get_or-drop, drop-drop}
use Rattle.combinators.specs.Store.{Store, emits}
use Rattle.combinators.proofs.Emitted.{emits_none, onto, then}
use Rattle.syntax.specs.RuleLayout.{component_width, component_kind_at, component_text_at, component_first_at, component_second_at, component_from, read_component, selector_head, selector_components, selector_pseudo, pseudo_number, pseudo_from, read_selector}
use Rattle.syntax.specs.Selector.{Component}
use Rattle.syntax.specs.Stream.{read_many, texts_many}
use Rattle.syntax.specs.Style.{StyleDecl}
use Rattle.origins.proofs.WalkLaws.{many-length, many-next}
use Rattle.compiled.specs.Component.{component_bytes}
use Rattle.compiled.specs.Sheet.{head_bytes, styles_bytes, selector_bytes}
use Rattle.compiler.specs.Selectors.{compiled_selector}
use Rattle.compiler.specs.Writing.{styled_bytes}

-- ---- components
-- the numbers of a component's row are the component that is read there
pub component-at : (rows : List ℕ) (at : ℕ) (texts : List ℕ) (k f a b : ℕ) → k ≡ get_or rows (at + component_kind_at) 0 → f ≡ get_or rows (at + component_text_at) 0
    → a ≡ get_or rows (at + component_first_at) 0 → b ≡ get_or rows (at + component_second_at) 0 → (o₀ o₁ : Store ℕ)
    → o₁ ≡ emits o₀ (component_bytes (component_from texts k f a b)) → o₁ ≡ emits o₀ (component_bytes (read_component texts (drop at rows)).value)
unfolding read_component
component-at rows at texts k f a b ek ef ea eb o₀ o₁ p =
    p ∙ rw (
      ek,
      ef,
      ea,
      eb,
      get_or-drop at rows component_kind_at 0,
      get_or-drop at rows component_text_at 0,
      get_or-drop at rows component_first_at 0,
      get_or-drop at rows component_second_at 0,
    )

-- turns of `emit_components`, which counts down
module _ (rows : List ℕ) (at count : ℕ) (texts : List ℕ) (o₀ : Store ℕ) where
  -- the bytes of the first n, the last of them first
  abbrev pub backwards : ℕ → List ℕ
  backwards n = texts_many component_bytes (reverse (read_many (read_component texts) n (drop at rows)).value)

  -- what is left to write of them is what was to be written
  pub record Returning (n : ℕ) (o : Store ℕ) : Type 0 where
    pub left : emits o (backwards n) ≡ emits o₀ (backwards count)

  -- the bytes of n components, the last first, are those of the n-th and then of the n - 1 before it
  last-first : (n place : ℕ) → 0 < n → drop place rows ≡ drop (at + component_width * (n - 1)) rows
      → backwards n ≡ component_bytes (read_component texts (drop place rows)).value ++ backwards (n - 1)
  unfolding texts_many read_component
  last-first n place h e =
      let u = read_component texts in
      let t = drop at rows in
      let q : n ≡ n - 1 + 1 = omega arith in
      let d : drop (component_width * (n - 1)) t ≡ drop place rows = drop-drop (component_width * (n - 1)) at rows ∙ sym e in
      let v : (read_many u n t).value ≡ (read_many u (n - 1) t).value ++ ((u (drop place rows)).value ∷ []) =
      ap (λ (m : ℕ). (read_many u m t).value) q ∙ many-next u component_width (λ _. refl) (n - 1) t
      ∙ ap (λ (x : List ℕ). (read_many u (n - 1) t).value ++ ((u x).value ∷ [])) d in
      ap (λ (cs : List Component). texts_many component_bytes (reverse cs)) v
      ∙ ap (texts_many component_bytes) (reverse-append (read_many u (n - 1) t).value ((u (drop place rows)).value ∷ []))

  -- no components have no bytes
  none_left : (n : ℕ) → n ≤ 0 → backwards n ≡ []
  unfolding texts_many read_many
  none_left n h = let q : n ≡ 0 = omega arith in rw q

  module _ (n : ℕ) (o : Store ℕ) (c : Returning n o) where
    -- a turn: the component before the last one written is written
    pub returning-more : 0 < n → (place : ℕ) → drop place rows ≡ drop (at + component_width * (n - 1)) rows → (o₁ : Store ℕ)
        → o₁ ≡ emits o (component_bytes (read_component texts (drop place rows)).value) → Returning (n - 1) o₁
    returning-more h place d o₁ e = record { left = onto _ _ _ _ e ∙ sym (ap (emits o) (last-first n place h d)) ∙ c.left }

    -- with none left the components are written, the last first
    pub returning-done : n ≤ 0 → o ≡ emits o₀ (backwards count)
    returning-done h = sym (ap (emits o) (none_left n h) ∙ emits_none _) ∙ c.left

-- ---- the bytes of a selector at a place
module _ (rows : List ℕ) (at origin : ℕ) (o₀ o₁ : Store ℕ) where
  -- what stands before the components of one at a place
  abbrev pub head_at : List ℕ
  head_at = head_bytes origin (pseudo_number (pseudo_from (get_or (drop at rows) selector_pseudo 0))) (get_or (drop at rows) selector_components 0)

  -- head, components and styles, one behind the other, are the bytes of the selector
  pub selector-written : o₁ ≡ emits o₀ head_at → (n first : ℕ) → n ≡ get_or rows (at + selector_components) 0 → drop first rows ≡ drop (at + selector_head) rows
      → (texts : List ℕ) (o₂ o₃ : Store ℕ) → o₂ ≡ emits o₁ (texts_many component_bytes (reverse (read_many (read_component texts) n (drop first rows)).value))
      → (ds : List StyleDecl) → o₃ ≡ emits o₂ (styles_bytes ds) → o₃ ≡ emits o₀ (styled_bytes origin ds (read_selector texts (drop at rows)).value)
  unfolding styled_bytes selector_bytes compiled_selector read_selector
  selector-written p n first en ef texts o₂ o₃ q ds r =
      let t = drop at rows in
      let m = get_or t selector_components 0 in
      let cs = (read_many (read_component texts) m (drop selector_head t)).value in
      let d : (read_many (read_component texts) n (drop first rows)).value ≡ cs =
      rw (en, ef, get_or-drop at rows selector_components 0, drop-drop selector_head at rows) in
      let l : m ≡ length (reverse cs) = sym (length-reverse cs ∙ many-length (read_component texts) m (drop selector_head t)) in
      then o₀ o₁ o₃ _ _ (p ∙ ap (λ (k : ℕ). emits o₀ (head_bytes origin (pseudo_number (pseudo_from (get_or t selector_pseudo 0))) k)) l)
      (then o₁ o₂ o₃ _ _ (q ∙ ap (λ (xs : List Component). emits o₁ (texts_many component_bytes (reverse xs))) d) r)
