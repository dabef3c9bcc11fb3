-- What the document is told: the loop that stores the block of each selector that has a style.
use Prim.Native.Nat.{ℕ, zero, suc, ◌-◌, ◌≤◌, ◌<◌}
use mathlib.Core.Path.{◌≡◌, refl, sym, ap, subst, ◌∙◌}
use mathlib.Core.Bool.{Bool, true, false}
use mathlib.Core.List.{List}
use native.Mathlib.Omega.{arith}
use borrow.Author.Tests.{lt-ltb}
use lib.Dec.{ltb}
use lib.ListN.{length}
use Rattle.combinators.specs.Choice.{pick, is}
use Rattle.combinators.proofs.Rules.{pick_true, pick-false, is-yes, is-no}
use Rattle.syntax.specs.Style.{agent_origin, StyleDecl}
use Rattle.compiled.specs.Answer.{read_answer, selector_answer}
use Rattle.compiled.specs.Decoded.{Decoded, read, on_decoded}
use Rattle.compiled.specs.Sheet.{compiled_limit, CompiledSelector, selector_at}
use Rattle.std.specs.Prelude.{MatchResult}
use Rattle.std.proofs.Common.{Result, Ok, Err}
use Rattle.compiled.specs.declared.places.Fault.{Fault}
use Rattle.compiled.specs.declared.places.Read.{Read}
use Rattle.compiled.specs.Style.{style_at}
use Rattle.compiled.proofs.Answers.{answer_read, answer-fault, selector-read, selector-fault}
use Rattle.compiled.proofs.Bounds.{reaches_end, selector-reaches}
use Rattle.segments.specs.Placed.{has_style}
use Rattle.segments.specs.Document.{styled_from, leftmost_at, fresh_from, style_count_at, SelectorsRead}
use Rattle.segments.specs.Pass.{block_set}
use Rattle.visits.specs.Telling.{has_style_at, TellLent}
use Rattle.segments.proofs.SheetLaws.{style-count, has-style}
use Rattle.visits.proofs.CodeStyledLaws.{selectors-behind}

-- ---- the returns of `has_style`
-- a count that is not 0
some : (n : ℕ) → ltb 0 n ≡ pick (is n 0) false true
some zero = pick_true _ _ _ _ (is-yes 0 0 refl) refl
some (suc n) = pick-false _ _ _ _ (is-no (suc n) 0 (λ e. omega arith)) (lt-ltb 0 (suc n) (omega arith))

module _ (code : List ℕ) (at : ℕ) (r : Result (Read ℕ) Fault) (er : r ≡ read_answer (style_count_at code at)) where
  -- a selector has a style exactly if the count that was read is above 0
  pub styled-count : (x : Read ℕ) → r ≡ Ok x → ltb 0 x.value ≡ has_style_at code at
  unfolding has_style_at on_decoded
  styled-count x q = rw (answer_read (style_count_at code at) r er x q) (some x.value)

  -- where no count reads, it has none
  pub styled-fault : (f : Fault) → r ≡ Err f → false ≡ has_style_at code at
  unfolding has_style_at on_decoded
  styled-fault f q = rw (answer-fault (style_count_at code at) r er f q)

  -- so it is by whichever was told
  pub styled-told : (b : Bool) (P : Read ℕ → Type 0) → ((x : Read ℕ) → P x → b ≡ ltb 0 x.value) → MatchResult r P (λ _. b ≡ false) → b ≡ has_style_at code at
  styled-told b P told m = go r refl m
    where
      go : (q : Result (Read ℕ) Fault) → r ≡ q → MatchResult q P (λ _. b ≡ false) → b ≡ has_style_at code at
      go (Ok x) q t = told x t ∙ styled-count x q
      go (Err f) q t = t ∙ styled-fault f q

-- ---- the returns of `put_styled`
module _ (code s₀ : List ℕ) (p behind left : ℕ) (b : Bool) (eb : b ≡ has_style_at code p) where
  -- what is left: the block of the selector if it has a style, else the part as it was
  abbrev Styled : List ℕ → Type 0
  Styled s = s ≡ pick (has_style_at code p) (block_set (leftmost_at code p) (styled_from code left behind) p s₀) s₀

  -- a selector that has a style gets its block, with the place of the next that has one
  pub styled-put : b ≡ true → (next : ℕ) → next ≡ styled_from code left behind → (s₁ : List ℕ) → s₁ ≡ block_set (leftmost_at code p) next p s₀ → Styled s₁
  unfolding pick
  styled-put t next en s₁ e = rw (← eb, t, ← en) e

  -- a selector without a style gets no block: the part stays
  pub styled-bare : b ≡ false → Styled s₀
  unfolding pick
  styled-bare t = rw (← eb, t)

-- ---- the loop of `tell_document`
pub record Telling (code part₀ : List ℕ) (count at : ℕ) (part : List ℕ) (left i : ℕ) : Type 0 where
  pub whole : fresh_from code left i part ≡ fresh_from code count at part₀
  pub lent : TellLent code left i

-- whether a selector that is read has a style
has-style-at : (code : List ℕ) (i n : ℕ) (s : CompiledSelector StyleDecl) → selector_at (style_at code) code agent_origin i ≡ read n s → has_style_at code i ≡ has_style s.styles
unfolding has_style_at on_decoded
has-style-at code i n s e = let c = style-count code i n s e in rw c.told (sym (has-style s.styles))

module _ (code part₀ : List ℕ) (count at : ℕ) (part : List ℕ) (left i : ℕ) (v : Telling code part₀ count at part left i) where
  -- where no selector is left, the document is told of all
  pub tell-end : left ≤ 0 → part ≡ fresh_from code count at part₀
  tell-end h =
      let d : 0 ≡ left = omega arith in
      let e : part ≡ fresh_from code 0 i part = unfold fresh_from in refl in
      e ∙ ap (λ (k : ℕ). fresh_from code k i part) d ∙ v.whole

  module _ (h : 0 < left) (r : Result (Read ℕ) Fault) (er : r ≡ selector_answer (selector_at (style_at code) code agent_origin i)) where
    -- those behind one of them
    others : ℕ → CompiledSelector StyleDecl → List ℕ
    others n s = fresh_from code (left - 1) n (pick (has_style s.styles) (block_set (leftmost_at code i) (styled_from code (left - 1) n) i part) part)

    -- what the selectors that are left come to, by the first of them
    tell-step : on_decoded (selector_at (style_at code) code agent_origin i) others (λ _. part) ≡ fresh_from code count at part₀
    unfolding others
    tell-step =
        let d : suc (left - 1) ≡ left = omega arith in
        let e : on_decoded (selector_at (style_at code) code agent_origin i) others (λ _. part) ≡ fresh_from code (suc (left - 1)) i part = unfold fresh_from in refl in
        e ∙ ap (λ (k : ℕ). fresh_from code k i part) d ∙ v.whole

    -- where no selector reads, the rest is told nothing and the part is as it has to be
    pub tell-fault : (f : Fault) → r ≡ Err f → part ≡ fresh_from code count at part₀
    tell-fault f q =
        let e : part ≡ on_decoded (selector_at (style_at code) code agent_origin i) others (λ _. part) = unfold on_decoded in rw (selector-fault (selector_at (style_at code) code agent_origin i) r er f q) in
        e ∙ tell-step

    -- one that was read
    tell-read : (n : ℕ) (s : CompiledSelector StyleDecl) → selector_at (style_at code) code agent_origin i ≡ read n s → others n s ≡ fresh_from code count at part₀
    unfolding on_decoded
    tell-read n s e = ap (λ (d : Decoded (CompiledSelector StyleDecl)). on_decoded d others (λ _. part)) (sym e) ∙ tell-step

    module _ (x : Read ℕ) (q : r ≡ Ok x) where
      -- what is asked for to store its block
      pub tell-lent : (i ≤ compiled_limit) × SelectorsRead code (left - 1) x.next
      tell-lent =
          let w = selector-read (selector_at (style_at code) code agent_origin i) r er x q in
          let d : left ≡ suc (left - 1) = omega arith in
          let l = reaches_end (length code) i 4 x.next w.0 (selector_at (style_at code) code agent_origin i) (selector-reaches code agent_origin i) w.1 in (
            omega (arith, l.0, l.1, v.lent.few_bytes),
            selectors-behind code (left - 1) i (subst (λ (k : ℕ). SelectorsRead code k i) d v.lent.reads) x.next w.0 w.1,
          )

      -- a selector is told, and the loop goes on behind it with one fewer left
      pub tell-more : (part₁ : List ℕ) → part₁ ≡ pick (has_style_at code i) (block_set (leftmost_at code i) (styled_from code (left - 1) x.next) i part) part
          → Telling code part₀ count at part₁ (left - 1) x.next
      tell-more part₁ e₁ =
          let w = selector-read (selector_at (style_at code) code agent_origin i) r er x q in
          let block = block_set (leftmost_at code i) (styled_from code (left - 1) x.next) i part in
          let o : fresh_from code (left - 1) x.next part₁ ≡ others x.next w.0 =
          unfold others in ap (fresh_from code (left - 1) x.next) (e₁ ∙ ap (λ (b : Bool). pick b block part) (has-style-at code i x.next w.0 w.1)) in
          record { whole = o ∙ tell-read x.next w.0 w.1; lent = record { few_bytes = v.lent.few_bytes; reads = tell-lent.1 } }
