-- What the selectors that are found declare: one of them, by what is read at its place.
use mathlib.Core.Path.{◌≡◌, refl, sym, ap, ◌∙◌}
use mathlib.Core.List.{List, [], ◌∷◌, append-nil}
use Prim.Native.Nat.{ℕ}
use Rattle.syntax.specs.Style.{agent_origin}
use Rattle.syntax.specs.declared.styles.Value.{Value}
use Rattle.syntax.specs.RuleLayout.{pseudo_number, pseudo_from}
use Rattle.cascade.specs.declared.slots.Cascade.TheVariants.{Crate}
use Rattle.cascade.specs.declared.specificity.Specificity.{Specificity}
use Rattle.cascade.specs.Record.{Styled}
use Rattle.matching.specs.Specificity.{specificity}
use Rattle.styles.specs.Merged.{merged_row}
use Rattle.styles.proofs.Merging.{merged-none}
use Rattle.compiled.specs.Decoded.{Decoded, read, fault, on_decoded, counted}
use Rattle.compiled.specs.Component.{component_at}
use Rattle.compiled.specs.Sheet.{head_at, CompiledSelector, selector_at, styles_at}
use Rattle.compiled.specs.declared.sheets.Head.{Head}
use Rattle.compiled.specs.Answer.{read_answer}
use Rattle.std.proofs.Common.{Result, Ok, Err}
use Rattle.compiled.specs.declared.places.Fault.{Fault}
use Rattle.compiled.specs.declared.places.Read.{Read}
use Rattle.compiled.proofs.Walking.{Source, head-pseudo}
use Rattle.compiled.proofs.Answers.{answer_read, answer-fault}
use Rattle.compiled.proofs.Following.{then-read, then-fault, mapped-fault, selector-made}
use Rattle.segments.specs.Down.{read_in}
use Rattle.runner.specs.PageRows.{selectors_declare}
use Rattle.runner.specs.Run.{found_at}
use Rattle.runner.specs.Walked.{walked_style_at}
use Rattle.stepping.specs.Reading.{listed, weights_at}
use Rattle.stepping.specs.Merging.{styles_declare}
use Rattle.stepping.proofs.ReadingLaws.{listed-is, listed-none}
use Rattle.stepping.proofs.WeightLaws.{weights-read, weights-fault}
use Rattle.stepping.proofs.StyleLaws.{unmerged}

-- ---- what is merged of one selector
module _ (code : List ℕ) (p : ℕ) (row : List ℕ) where
  -- what is merged of it
  abbrev pub FoundMerged : List ℕ → Type 0
  FoundMerged z = z ≡ merged_row Crate row (selectors_declare (found_at code (p ∷ [])))

  -- where none reads, nothing
  none_found : (q : ℕ) → selector_at (walked_style_at code) code agent_origin p ≡ fault q → FoundMerged row
  unfolding read_in selectors_declare on_decoded
  none_found q e = rw e (sym (merged-none Crate row))

  -- what one declares that reads
  one_found : (n : ℕ) (s : CompiledSelector (Styled Value)) → selector_at (walked_style_at code) code agent_origin p ≡ read n s → (z : List ℕ)
      → z ≡ merged_row Crate row (styles_declare s.origin (pseudo_number s.pseudo) (specificity s.components) s.styles) → FoundMerged z
  unfolding read_in selectors_declare on_decoded styles_declare
  one_found n s e z m = m ∙ ap (merged_row Crate row) (rw e (sym (append-nil _)))

-- ---- returns of `merge_found`
module _ (code : List ℕ) (p : ℕ) (r : Result (Read Head) Fault) (er : r ≡ read_answer (head_at code agent_origin p)) where
  -- where no head is read at the place, the row stays: no selector is found there
  pub head-none : (f : Fault) → r ≡ Err f → (row : List ℕ) → FoundMerged code p row row
  unfolding selector_at
  head-none f e row = none_found code p row f.place (then-fault (head_at code agent_origin p) _ f.place (answer-fault _ r er f e))

  module _ (x : Read Head) (h : r ≡ Ok x) (c : Result (Read Specificity) Fault) (ec : c ≡ weights_at code x.value.count x.next) where
    -- the head that is read
    head : head_at code agent_origin p ≡ read x.next x.value
    head = answer_read _ r er x h

    -- a component is not there
    pub components-none : (f : Fault) → c ≡ Err f → (row : List ℕ) → FoundMerged code p row row
    unfolding selector_at
    components-none f e row =
        none_found code p row f.place
        (then-read (head_at code agent_origin p) _ x.next x.value head ∙ then-fault (counted (component_at code) x.value.count x.next) _ f.place (weights-fault code x.next x.value.count c ec f e))

    module _ (y : Read Specificity) (hc : c ≡ Ok y) where
      -- the components are there, and how specific they are
      components-read : Source specificity (counted (component_at code) x.value.count x.next) y.next y.value
      components-read = weights-read code x.next x.value.count c ec y hc

      -- where its styles are there, the selector is
      selector-read : (k : ℕ) (xs : List (Styled Value)) → styles_at (walked_style_at code) code y.next ≡ read k xs
          → selector_at (walked_style_at code) code agent_origin p ≡ read k (record { origin = x.value.origin; pseudo = pseudo_from x.value.pseudo; components = components-read.value; styles = xs })
      selector-read k xs e =
          selector-made (walked_style_at code) code agent_origin p x.next y.next k x.value components-read.value xs head components-read.first e

      -- where one is not, it is not
      selector-none : (q : ℕ) → styles_at (walked_style_at code) code y.next ≡ fault q → selector_at (walked_style_at code) code agent_origin p ≡ fault q
      unfolding selector_at
      selector-none q e =
          let v = components-read in
          then-read (head_at code agent_origin p) _ x.next x.value head
          ∙ then-read (counted (component_at code) x.value.count x.next) _ y.next v.value v.first
          ∙ mapped-fault _ (styles_at (walked_style_at code) code y.next) q e

      -- its styles are merged, or nothing
      pub found-merged : (row z : List ℕ) → z ≡ merged_row Crate row (styles_declare x.value.origin x.value.pseudo y.value (listed (styles_at (walked_style_at code) code y.next))) → FoundMerged code p row z
      found-merged row z e = go (styles_at (walked_style_at code) code y.next) refl
        where
          go : (d : Decoded (List (Styled Value))) → styles_at (walked_style_at code) code y.next ≡ d → FoundMerged code p row z
          go (read k xs) q =
              one_found code p row k _ (selector-read k xs q) z
              (e ∙ ap (λ (w : Specificity). merged_row Crate row (styles_declare x.value.origin x.value.pseudo w (listed (styles_at (walked_style_at code) code y.next)))) components-read.made
              ∙ ap (λ ys. merged_row Crate row (styles_declare x.value.origin x.value.pseudo (specificity components-read.value) ys)) (listed-is _ k xs q)
              ∙ ap (λ (o : ℕ). merged_row Crate row (styles_declare x.value.origin o (specificity components-read.value) xs)) (sym (head-pseudo code agent_origin p x.next x.value head)))
          go (fault k) q = e ∙ sym (unmerged x.value.origin x.value.pseudo y.value row _ (listed-none _ k q)) ∙ none_found code p row k (selector-none k q)
