-- The first selector that has a style, as code finds it: by the count of its styles, which stands behind its components.
use Prim.Native.Nat.{ℕ, suc, ◌-◌, ◌≤◌, ◌<◌}
use mathlib.Core.Path.{◌≡◌, refl, sym, ap, ◌∙◌}
use mathlib.Core.List.{List}
use native.Mathlib.Omega.{arith}
use lib.ListN.{length}
use Rattle.combinators.specs.Choice.{pick, is}
use Rattle.combinators.proofs.Rules.{is-yes, is-no}
use Rattle.syntax.specs.Style.{agent_origin, StyleDecl}
use Rattle.compiled.specs.Answer.{read_answer, place_answer}
use Rattle.compiled.specs.Component.{component_at}
use Rattle.compiled.specs.Decoded.{read, on_decoded, counted}
use Rattle.compiled.specs.Number.{number_at}
use Rattle.compiled.specs.Sheet.{CompiledSelector, head_at, selector_at, decode}
use Rattle.std.specs.Option.{IfSome, unwrap_or}
use Rattle.std.proofs.Common.{Option, Some, None, Result, Ok, Err}
use Rattle.compiled.specs.declared.places.Fault.{Fault}
use Rattle.compiled.specs.declared.places.Read.{Read}
use Rattle.compiled.specs.declared.sheets.Head.{Head}
use Rattle.compiled.specs.Style.{style_at}
use Rattle.compiled.proofs.Answers.{answer_read, answer-fault, then_answer, then-answer, place_read, place-fault}
use Rattle.compiled.proofs.Bounds.{Reaches, reaches_end, reaches_then, number-reaches, components-reach, head-reaches}
use Rattle.compiled.proofs.Following.{then-read, then-fault}
use Rattle.compiled.proofs.Walking.{selectors-first, sheet-steps}
use Rattle.segments.specs.Before.{no_place}
use Rattle.segments.specs.Document.{styled_from, style_count_at, first_styled, SelectorsRead}
use Rattle.segments.proofs.SheetLaws.{selector-lower, first-styled}

-- ---- the returns of `style_count`
module _ (code : List ℕ) (at : ℕ) (r : Result (Read Head) Fault) (er : r ≡ read_answer (head_at code agent_origin at)) where
  -- there is no selector
  pub count-headless : (f : Fault) → r ≡ Err f → Err f ≡ read_answer (style_count_at code at)
  unfolding style_count_at
  count-headless f q = then-answer (head_at code agent_origin at) _ r er f q

  module _ (x : Read Head) (q : r ≡ Ok x) (p : Result ℕ Fault) (ep : p ≡ place_answer (counted (component_at code) x.value.count x.next)) where
    -- the count, or a fault in it
    pub count-told : (m : ℕ) → p ≡ Ok m → (a : Result (Read ℕ) Fault) → a ≡ read_answer (number_at code m) → a ≡ read_answer (style_count_at code at)
    unfolding style_count_at
    count-told m h a e =
        let w = place_read (counted (component_at code) x.value.count x.next) p ep m h in
        then_answer (head_at code agent_origin at) _ r er x q a (e ∙ ap read_answer (sym (then-read (counted (component_at code) x.value.count x.next) (λ k _. number_at code k) m w.0 w.1)))

    -- where a component does not read, the answer is that fault
    pub count-fault : (f : Fault) → p ≡ Err f → Err f ≡ read_answer (style_count_at code at)
    unfolding style_count_at read_answer
    count-fault f h =
        then_answer (head_at code agent_origin at) _ r er x q (Err f)
        (ap read_answer (sym (then-fault (counted (component_at code) x.value.count x.next) (λ k _. number_at code k) f.place (place-fault (counted (component_at code) x.value.count x.next) p ep f h))))

-- ---- where a selector stands whose styles are counted
-- head, components and the count of styles take at least four bytes, and end within the bytes
count-reaches : (code : List ℕ) (i : ℕ) → Reaches 4 (length code) i (style_count_at code i)
unfolding style_count_at
count-reaches code i =
    reaches_then (length code) (head_at code agent_origin i) _ 3 1 i (head-reaches code agent_origin i)
    (λ n h l. reaches_then (length code) (counted (component_at code) h.count n) _ 0 1 n (components-reach code h.count n l) (λ m _ _. number-reaches code m))

-- ---- the loop of `first_styled`
-- the selectors that are left have the same first one
abbrev pub Finding : List ℕ → ℕ → ℕ → ℕ → ℕ → Type 0
Finding code count at left i = first_styled code left i ≡ first_styled code count at

module _ (code : List ℕ) (count at left i : ℕ) (v : Finding code count at left i) where
  -- what is answered: the place of the first selector that has a style, which is within the bytes, or none
  abbrev Found : Option ℕ → Type 0
  Found o = (unwrap_or o no_place ≡ styled_from code count at) × IfSome o (λ p. p ≤ length code)

  -- of what the walk finds that reads no styles
  found_as : SelectorsRead code count at → (o : Option ℕ) → unwrap_or o no_place ≡ first_styled code left i → IfSome o (λ p. p ≤ length code) → Found o
  found_as s o e l = (e ∙ v ∙ first-styled code count s.least at s.end s.selectors s.origin s.told, l)

  -- where no selector is left, the answer is no place
  pub find-end : SelectorsRead code count at → left ≤ 0 → Found None
  find-end s h =
      let d : 0 ≡ left = omega arith in
      let e : no_place ≡ first_styled code 0 i = unfold first_styled in refl in
      found_as s None (e ∙ ap (λ (k : ℕ). first_styled code k i) d) tt

  module _ (h : 0 < left) (r : Result (Read ℕ) Fault) (er : r ≡ read_answer (style_count_at code i)) where
    -- the first of those that are left is by the styles of this one: it, or the first behind it
    find-step : on_decoded (style_count_at code i) (λ n styles. pick (is styles 0) (first_styled code (left - 1) n) i) (λ _. no_place) ≡ first_styled code left i
    find-step =
        let d : suc (left - 1) ≡ left = omega arith in
        let e : on_decoded (style_count_at code i) (λ n styles. pick (is styles 0) (first_styled code (left - 1) n) i) (λ _. no_place) ≡ first_styled code (suc (left - 1)) i =
        unfold first_styled in refl in
        e ∙ ap (λ (k : ℕ). first_styled code k i) d

    -- where no count of styles reads, the answer is no place
    pub find-fault : SelectorsRead code count at → (f : Fault) → r ≡ Err f → Found None
    find-fault s f q =
        let e : no_place ≡ on_decoded (style_count_at code i) (λ n styles. pick (is styles 0) (first_styled code (left - 1) n) i) (λ _. no_place) =
        unfold on_decoded in rw (answer-fault (style_count_at code i) r er f q) in
        found_as s None (e ∙ find-step) tt

    module _ (x : Read ℕ) (q : r ≡ Ok x) where
      -- it has so many styles
      find-count : pick (is x.value 0) (first_styled code (left - 1) x.next) i ≡ first_styled code left i
      find-count =
          let e : pick (is x.value 0) (first_styled code (left - 1) x.next) i
          ≡ on_decoded (style_count_at code i) (λ n styles. pick (is styles 0) (first_styled code (left - 1) n) i) (λ _. no_place) =
          unfold on_decoded in rw (answer_read (style_count_at code i) r er x q) in
          e ∙ find-step

      -- a selector of one style or more is the first
      pub find-styled : SelectorsRead code count at → 0 < x.value → Found (Some i)
      find-styled s p =
          let e : i ≡ pick (is x.value 0) (first_styled code (left - 1) x.next) i = unfold pick in rw (is-no x.value 0 (λ z. omega arith)) in
          let l = reaches_end (length code) i 4 x.next x.value (style_count_at code i) (count-reaches code i) (answer_read (style_count_at code i) r er x q) in
          let a = l.0 in
          let b = l.1 in
          found_as s (Some i) (e ∙ find-count) (omega arith)

      -- none: the next one stands behind their count
      pub find-bare : x.value ≤ 0 → Finding code count at (left - 1) x.next
      find-bare p =
          let e : first_styled code (left - 1) x.next ≡ pick (is x.value 0) (first_styled code (left - 1) x.next) i = unfold pick in rw (is-yes x.value 0 (omega arith)) in
          e ∙ find-count ∙ v

-- ---- the selectors of a sheet are read behind their count
-- where a sheet is decoded, its selectors are read from behind the count, as many as it says
pub sheet-selectors : (code : List ℕ) (m : ℕ) (ss : List (CompiledSelector StyleDecl)) → decode code ≡ read m ss → (n k : ℕ) → number_at code 0 ≡ read n k → SelectorsRead code k n
sheet-selectors code m ss e n k q =
    let w = sheet-steps code m ss e in
    let r : read n k ≡ read w.behind-count w.count = sym q ∙ w.count-read in
    let a : n ≡ w.behind-count = cc in
    let b : k ≡ w.count = cc in
    record { least = agent_origin; end = m; selectors = ss; origin = omega arith; told = rw (a, b) w.selectors-read }

-- and those behind one of them
pub selectors-behind : (code : List ℕ) (k i : ℕ) → SelectorsRead code (suc k) i → (n : ℕ) (s : CompiledSelector StyleDecl) → selector_at (style_at code) code agent_origin i ≡ read n s → SelectorsRead code k n
selectors-behind code k i v n s e =
    let w = selectors-first code k v.least i v.end v.selectors v.told in
    let a = selector-lower code v.least i w.place w.selector v.origin w.first in
    let r : read n s ≡ read w.place w.selector = sym e ∙ a.0 in
    let d : n ≡ w.place = cc in
    record { least = w.selector.origin; end = v.end; selectors = w.others; origin = a.1; told = rw d w.rest }
