-- The returns and turns of the functions that merge the styles of a selector.
use mathlib.Core.Path.{◌≡◌, refl, sym, ap, ◌∙◌}
use mathlib.Core.Bool.{true, false}
use mathlib.Core.List.{List, [], ◌∷◌, ◌++◌}
use mathlib.Core.Logic.{inl, inr}
use Prim.Native.Nat.{ℕ, ◌-◌, ◌≤◌, ◌<◌}
use native.Mathlib.Omega.{arith}
use Rattle.syntax.specs.declared.styles.StyleNumbers.{StyleNumbers}
use Rattle.syntax.specs.declared.styles.Value.{Value}
use Rattle.cascade.specs.declared.slots.Cascade.TheVariants.{Crate}
use Rattle.cascade.specs.declared.specificity.Specificity.{Specificity}
use Rattle.cascade.specs.Record.{Styled, from_rule}
use Rattle.cascade.specs.Row.{Merged}
use Rattle.styles.specs.Merged.{merged_row}
use Rattle.styles.specs.Said.{rule_style}
use Rattle.styles.specs.StyleCall.{in_numbers}
use Rattle.styles.proofs.Merging.{merged-none, merged-more, Merging, merging-begin, merging-more, merging-done}
use Rattle.compiled.specs.Decoded.{read, fault, on_decoded, counted}
use Rattle.compiled.specs.Number.{number_at}
use Rattle.compiled.specs.Style.{style_numbers_at, style_at}
use Rattle.compiled.specs.Sheet.{styles_at}
use Rattle.compiled.specs.Answer.{read_answer, place_answer}
use Rattle.std.proofs.Common.{Result, Ok, Err}
use Rattle.compiled.specs.declared.places.Fault.{Fault}
use Rattle.compiled.specs.declared.places.Read.{Read}
use Rattle.std.specs.Result.{is_ok}
use Rattle.combinators.proofs.Rules.{never}
use Rattle.compiled.proofs.Answers.{answer_read, answer-fault, place_read, place-fault}
use Rattle.compiled.proofs.Following.{then-read, then-fault, mapped-read, mapped-fault}
use Rattle.runner.specs.Walked.{walked_style_at}
use Rattle.runner.proofs.WalkedReads.{styles-place}
use Rattle.stepping.specs.Reading.{listed}
use Rattle.stepping.specs.Merging.{styles_declare, CountedLent}
use Rattle.stepping.proofs.ReadingLaws.{listed-is, listed-none, one-read, one_none, counted_next, counted-there}

-- ---- turns of `merge_counted`
module _ (code : List ℕ) (count at origin pseudo : ℕ) (spec : Specificity) (row₀ : List ℕ) where
  -- all that is to be read
  abbrev all : List (Styled Value)
  all = listed (counted (walked_style_at code) count at)

  -- those that are left to read
  abbrev left_at : ℕ → ℕ → List (Styled Value)
  left_at left i = listed (counted (walked_style_at code) left i)

  -- what is left to read and merge is what was to be
  pub record StylesMerging (left i : ℕ) (row : List ℕ) : Type 0 where
    pub lent : CountedLent code i left
    pub merging : Merging Crate row₀ (styles_declare origin pseudo spec all) row (styles_declare origin pseudo spec (left_at left i))

  -- nothing is merged yet
  pub styles-begin : CountedLent code at count → StylesMerging count at row₀
  styles-begin l = record { lent = l; merging = merging-begin Crate row₀ _ }

  -- one style is merged
  style-merged : (row z : List ℕ) (x : StyleNumbers) → Merged Crate row z (record { pseudo = pseudo; slot = x.slot; candidate = record { weight = record { important = x.important; origin = origin; spec = spec }; value = x.value } })
      → z ≡ merged_row Crate row (styles_declare origin pseudo spec (in_numbers x ∷ []))
  unfolding styles_declare from_rule rule_style in_numbers
  style-merged row z x m = m.numbers ∙ sym (merged-more Crate row (from_rule origin (rule_style pseudo spec (in_numbers x))) [] ∙ merged-none Crate _)

  -- what styles declare is what the first declares, then what the others do
  one-declared : (others rest : List (Styled Value)) (x : Styled Value) → others ≡ x ∷ rest
      → styles_declare origin pseudo spec others ≡ styles_declare origin pseudo spec (x ∷ []) ++ styles_declare origin pseudo spec rest
  unfolding styles_declare
  one-declared others rest x e = rw e

  -- no style declares nothing
  none-declared : (others : List (Styled Value)) → others ≡ [] → styles_declare origin pseudo spec others ≡ []
  unfolding styles_declare
  none-declared others e = rw e

  module _ (left i : ℕ) (row : List ℕ) (m : StylesMerging left i row) where
    -- a style that is read is the first of those that are left, and of the others there is none, or all of them read
    first-left : 0 < left → (n : ℕ) (x : Styled Value) → walked_style_at code i ≡ read n x → (left_at left i ≡ x ∷ left_at (left - 1) n) × CountedLent code n (left - 1)
    first-left h n x u = go m.lent
      where
        go : CountedLent code i left → (left_at left i ≡ x ∷ left_at (left - 1) n) × CountedLent code n (left - 1)
        go (inl few) =
            let one : left ≡ 1 = omega arith in
            let none : left - 1 ≡ 0 = omega arith in
            let end : [] ≡ left_at 0 n = unfold counted listed on_decoded in refl in (
              ap (λ (k : ℕ). left_at k i) one ∙ one-read (walked_style_at code) i n x u ∙ ap (λ (l : List (Styled Value)). x ∷ l) (end ∙ ap (λ (k : ℕ). left_at k n) (sym none)),
              inl (omega arith),
            )
        go (inr r) =
            let w = counted_next (walked_style_at code) left i r.end r.value r.told n x h u in
            (listed-is _ r.end r.value r.told ∙ w.2 ∙ ap (λ (l : List (Styled Value)). x ∷ l) (sym (listed-is _ r.end w.0 w.1)), inr (record { end = r.end; value = w.0; told = w.1 }))

    -- a style is merged
    pub styles-more : 0 < left → (r : Result (Read StyleNumbers) Fault) → r ≡ read_answer (style_numbers_at code i) → (x : Read StyleNumbers) → r ≡ Ok x → (z : List ℕ)
        → Merged Crate row z (record { pseudo = pseudo; slot = x.value.slot; candidate = record { weight = record { important = x.value.important; origin = origin; spec = spec }; value = x.value.value } })
        → StylesMerging (left - 1) x.next z
    styles-more h r e x p z d =
        let u = mapped-read in_numbers (style_numbers_at code i) x.next x.value (answer_read (style_numbers_at code i) r e x p) in
        let w = first-left h x.next (in_numbers x.value) u in
        record {
          lent = w.1;
          merging = merging-more Crate row₀ _ row _ m.merging _ _ (one-declared _ _ (in_numbers x.value) w.0) z (style-merged row z x.value d);
        }

    -- the only one does not read: nothing is declared, and where all of them read this cannot be
    pub styles-fault : 0 < left → (r : Result (Read StyleNumbers) Fault) → r ≡ read_answer (style_numbers_at code i) → (f : Fault) → r ≡ Err f
        → row ≡ merged_row Crate row₀ (styles_declare origin pseudo spec all)
    styles-fault h r e f q = merging-done Crate row₀ _ row _ m.merging (none-declared _ (go m.lent))
      where
        u : walked_style_at code i ≡ fault f.place
        u = mapped-fault in_numbers (style_numbers_at code i) f.place (answer-fault (style_numbers_at code i) r e f q)

        go : CountedLent code i left → left_at left i ≡ []
        go (inl few) = let one : left ≡ 1 = omega arith in ap (λ (k : ℕ). left_at k i) one ∙ one_none (walked_style_at code) i f.place u
        go (inr l) = absurd (counted-there (walked_style_at code) left i l.end l.value l.told f.place h u)

    -- when none is left, all styles of the selector are merged into the row
    pub styles-done : left ≤ 0 → row ≡ merged_row Crate row₀ (styles_declare origin pseudo spec all)
    styles-done h =
        let d : left ≡ 0 = omega arith in
        let end : left_at 0 i ≡ [] = unfold counted listed on_decoded in refl in
        merging-done Crate row₀ _ row _ m.merging (none-declared _ (ap (λ (k : ℕ). left_at k i) d ∙ end))

-- ---- where nothing is read, nothing is merged
-- no styles, merged into a row, leave it as it is
pub unmerged : (origin pseudo : ℕ) (spec : Specificity) (row : List ℕ) (xs : List (Styled Value)) → xs ≡ [] → row ≡ merged_row Crate row (styles_declare origin pseudo spec xs)
unfolding styles_declare
unmerged origin pseudo spec row xs e = rw e (sym (merged-none Crate row))

-- ---- returns of `merge_styles`
module _ (code : List ℕ) (at : ℕ) (r : Result (Read ℕ) Fault) (e : r ≡ read_answer (number_at code at)) where
  -- there is no count
  pub count_none : (f : Fault) → r ≡ Err f → (origin pseudo : ℕ) (spec : Specificity) (row : List ℕ)
      → row ≡ merged_row Crate row (styles_declare origin pseudo spec (listed (styles_at (walked_style_at code) code at)))
  unfolding styles_at
  count_none f q origin pseudo spec row = unmerged origin pseudo spec row _ (listed-none _ f.place (then-fault (number_at code at) _ f.place (answer-fault (number_at code at) r e f q)))

  module _ (x : Read ℕ) (p : r ≡ Ok x) where
    -- behind the count that was read, as many styles are read
    styles-behind : styles_at (walked_style_at code) code at ≡ counted (walked_style_at code) x.value x.next
    unfolding styles_at
    styles-behind = then-read (number_at code at) (λ n count. counted (walked_style_at code) count n) x.next x.value (answer_read (number_at code at) r e x p)

    -- what merging those styles leaves is what merging the styles at the place leaves, their count read with them
    pub styles-merged : (origin pseudo : ℕ) (spec : Specificity) (row z : List ℕ)
        → z ≡ merged_row Crate row (styles_declare origin pseudo spec (listed (counted (walked_style_at code) x.value x.next))) → z ≡ merged_row Crate row (styles_declare origin pseudo spec (listed (styles_at (walked_style_at code) code at)))
    styles-merged origin pseudo spec row z h = rw styles-behind h

    -- of one there is no more than one
    pub one-lent : x.value ≡ 1 → CountedLent code x.next x.value
    one-lent one = inl (omega arith)

    module _ (d : Result ℕ Fault) (ed : d ≡ place_answer (styles_at (style_at code) code at)) where
      -- all of them read
      pub counted-lent : is_ok d ≡ true → CountedLent code x.next x.value
      counted-lent hd = go d refl hd
        where
          go : (b : Result ℕ Fault) → d ≡ b → is_ok b ≡ true → CountedLent code x.next x.value
          go (Ok m) k h =
              let w = place_read (styles_at (walked_style_at code) code at) d (ed ∙ styles-place code at) m k in
              inr (record { end = m; value = w.0; told = sym styles-behind ∙ w.1 })
          go (Err f) k h = never h

      -- where one of the styles does not read, the row stays: none is declared
      pub styles-none : is_ok d ≡ false → (origin pseudo : ℕ) (spec : Specificity) (row : List ℕ)
          → row ≡ merged_row Crate row (styles_declare origin pseudo spec (listed (styles_at (walked_style_at code) code at)))
      styles-none hd origin pseudo spec row = go d refl hd
        where
          go : (b : Result ℕ Fault) → d ≡ b → is_ok b ≡ false → row ≡ merged_row Crate row (styles_declare origin pseudo spec (listed (styles_at (walked_style_at code) code at)))
          go (Ok m) k h = never (sym h)
          go (Err f) k h = unmerged origin pseudo spec row _ (listed-none _ f.place (place-fault (styles_at (walked_style_at code) code at) d (ed ∙ styles-place code at) f k))
