-- The selectors at a row: the blocks go to the own part, and at an element what those declare that match is merged one after the other.
use Prim.Native.Nat.{ℕ, suc, ◌+◌, ◌-◌, ◌≤◌, ◌<◌}
use mathlib.Core.Path.{◌≡◌, refl, sym, ap, subst, ◌∙◌}
use mathlib.Core.Bool.{Bool, true, false}
use mathlib.Core.List.{List, [], ◌∷◌, ◌++◌, append-nil}
use native.Mathlib.Omega.{arith}
use lib.ListN.{length}
use Rattle.combinators.specs.Choice.{pick}
use Rattle.combinators.specs.Refusal.{no_refusal}
use Rattle.syntax.specs.Style.{agent_origin}
use Rattle.syntax.specs.declared.styles.Value.{Value}
use Rattle.cascade.specs.declared.slots.Cascade.TheVariants.{Crate}
use Rattle.cascade.specs.Record.{Declared, Styled}
use Rattle.page.specs.Path.{Element, Path}
use Rattle.styles.specs.Merged.{merged_row}
use Rattle.styles.proofs.Merging.{merged-none, Merging, merging-begin, merging-more, merging-done}
use Rattle.compiled.specs.Answer.{read_answer, bytes_refusal}
use Rattle.compiled.specs.Decoded.{on_decoded}
use Rattle.compiled.specs.Number.{number_at}
use Rattle.compiled.specs.Sheet.{compiled_limit, CompiledSelector, selector_at}
use Rattle.std.proofs.Common.{Option, Some, None, Result, Ok, Err}
use Rattle.compiled.specs.declared.places.Fault.{Fault}
use Rattle.compiled.specs.declared.places.Read.{Read}
use Rattle.compiled.proofs.Answers.{answer_read, answer-fault}
use Rattle.compiled.proofs.Walking.{sheet-steps}
use Rattle.segments.specs.Before.{no_place}
use Rattle.segments.specs.Document.{styled_from, fresh_from, SelectorsRead}
use Rattle.segments.specs.Down.{pass_at, fresh_in, read_in}
use Rattle.segments.specs.Parts.{pair_limit}
use Rattle.segments.specs.Pass.{Passed, matched_here, block_set, pass_from}
use Rattle.segments.specs.Sweep.{pair_at}
use Rattle.segments.specs.Visits.{to_next, Visited, visit_at}
use Rattle.hints.specs.Skipping.{FewLeft, left_to_pass}
use Rattle.hints.specs.declared.skipping.Skipped.{Skipped}
use Rattle.visits.proofs.CodePassLaws as pass
use Rattle.visits.proofs.CodePassLaws.{Passing, pass-turn}
use Rattle.visits.proofs.CodeStyledLaws.{sheet-selectors}
use Rattle.segments.proofs.PassLaws.{pass-none}
use Rattle.runner.specs.PageRows.{selectors_declare}
use Rattle.runner.specs.Run.{found_at}
use Rattle.runner.specs.Walked.{walked_style_at}
use Rattle.runner.proofs.FoundLaws.{declared-append, decoded}
use Rattle.stepping.proofs.ReadingLaws.{no-fault}

-- ---- what the selectors at places declare
module _ (code : List ℕ) where
  abbrev declared_at : List ℕ → List (Declared Value)
  declared_at ps = selectors_declare (found_at code ps)

  -- what selectors at places declare is what the first declares, then what the others do
  first-declared : (p : ℕ) (ps : List ℕ) → declared_at (p ∷ ps) ≡ declared_at (p ∷ []) ++ declared_at ps
  unfolding read_in
  first-declared p ps =
      let one : List (CompiledSelector (Styled Value)) = on_decoded (selector_at (walked_style_at code) code agent_origin p) (λ _ s. s ∷ []) (λ _. []) in
      declared-append one (found_at code ps) ∙ ap (λ (x : List (CompiledSelector (Styled Value))). selectors_declare x ++ declared_at ps) (sym (append-nil one))

  -- one that may match, then the others
  here-declared : (v : Visited) (p : ℕ) (ps : List ℕ) → declared_at (matched_here v p ++ ps) ≡ declared_at (matched_here v p) ++ declared_at ps
  unfolding matched_here
  here-declared v p ps = go v.matched
    where
      go : (b : Bool) → declared_at (pick b (p ∷ []) [] ++ ps) ≡ declared_at (pick b (p ∷ []) []) ++ declared_at ps
      go true = unfold pick in first-declared p ps
      go false = unfold pick read_in selectors_declare in refl

-- a row into which those of a pass are merged
abbrev pub merged : List ℕ → List ℕ → Passed → List ℕ
merged code out r = merged_row Crate out (declared_at code r.matched)

-- and where none matches, it stays
pub merged-nothing : (code out own : List ℕ) → out ≡ merged code out (record { part = own; matched = [] })
unfolding read_in selectors_declare
merged-nothing code out own = sym (merged-none Crate out)

-- ---- returns of `visit_found`
module _ (code out : List ℕ) (v : Visited) (p : ℕ) (m : Bool) (em : m ≡ v.matched) where
  -- where the selector matches, its styles are merged
  pub visit-matched : m ≡ true → (z : List ℕ) → z ≡ merged_row Crate out (declared_at code (p ∷ [])) → z ≡ merged_row Crate out (declared_at code (matched_here v p))
  unfolding matched_here pick
  visit-matched t z k = rw (← em, t) k

  -- where it does not, it has none here
  pub visit-passed : m ≡ false → out ≡ merged_row Crate out (declared_at code (matched_here v p))
  unfolding matched_here pick read_in selectors_declare
  visit-passed f = rw (← em, f) (sym (merged-none Crate out))

-- ---- the loop of `pass_found`
module _ (code : List ℕ) (row : Path) (above : List ℕ) where
  -- what at most k selectors from the one at p on declare, by the own part
  abbrev declared_from : List ℕ → ℕ → ℕ → List (Declared Value)
  declared_from own k p = declared_at code (pass_from code row above k p own).matched

  -- what is left to pass and merge is what was to be
  pub record Finding (own₀ out₀ : List ℕ) (first count : ℕ) (own out : List ℕ) (p left : ℕ) : Type 0 where
    pub passing : Passing code row above own₀ first count own p left
    pub merging : Merging Crate out₀ (declared_from own₀ count first) out (declared_from own left p)

  -- none is passed yet
  pub find-begin : (own out : List ℕ) (first count : ℕ) → length above ≤ length own → first ≤ compiled_limit → Finding own out first count own out first count
  find-begin own out first count l n = record { passing = record { whole = refl; room = l; near = n }; merging = merging-begin Crate out _ }

  module _ (own₀ out₀ : List ℕ) (first count : ℕ) (own out : List ℕ) (p left : ℕ) (v : Finding own₀ out₀ first count own out p left) where
    -- some are passed over, none of which matches
    pub find-skip : (own₁ : List ℕ) (p₁ left₁ : ℕ) → pass_from code row above left₁ p₁ own₁ ≡ pass_from code row above left p own → length own₁ ≡ length own → p₁ ≤ compiled_limit
        → Finding own₀ out₀ first count own₁ out p₁ left₁
    find-skip own₁ p₁ left₁ s l n =
        record {
          passing = record { whole = ap (λ (r : Passed). r.part) s ∙ v.passing.whole; room = omega (arith, l, v.passing.room); near = n };
          merging = subst (Merging Crate out₀ (declared_from own₀ count first) out) (ap (λ (r : Passed). declared_at code r.matched) (sym s)) v.merging;
        }

    -- what the visited selector declares was merged: the loop goes on at the next, with one fewer left
    pub find-more : 0 < left → ¬ (p ≡ no_place) → (next : ℕ) → next ≡ pair_at above (p + to_next) → next < pair_limit
        → (own₁ : List ℕ) → own₁ ≡ block_set (visit_at code row above p) (pair_at above (p + to_next)) p own
        → (out₁ : List ℕ) → out₁ ≡ merged_row Crate out (declared_at code (matched_here (visit_at code row above p) p))
        → Finding own₀ out₀ first count own₁ out₁ next (left - 1)
    find-more h z next en small own₁ es out₁ eo =
        let seen : Visited = visit_at code row above p in
        -- the first declares, then the others
        let on : declared_from own left p ≡ declared_at code (matched_here seen p) ++ declared_from own₁ (left - 1) next =
        ap (λ (r : Passed). declared_at code r.matched) (pass-turn code row above own p left h z next en own₁ es) ∙ here-declared code seen p _ in
        record {
          passing = pass.pass-more code row above own₀ first count own p left v.passing h z next en small own₁ es;
          merging = merging-more Crate out₀ _ out _ v.merging _ _ on out₁ eo;
        }

-- ---- by what is left behind those that are passed over at an element
module _ (code above : List ℕ) (e : Element) (own₀ out₀ : List ℕ) (first count : ℕ) (own out : List ℕ) (p left : ℕ) (v : Finding code (e ∷ []) above own₀ out₀ first count own out p left)
    (own₁ : List ℕ) (r : Option Skipped) (s : left_to_pass code e above own₁ r ≡ pass_from code (e ∷ []) above left p own) where
  -- some are left
  pub find-left : (x : Skipped) → r ≡ Some x → length own₁ ≡ length own → FewLeft left x → Finding code (e ∷ []) above own₀ out₀ first count own₁ out x.place (suc x.behind)
  unfolding left_to_pass
  find-left x q l f = find-skip code (e ∷ []) above own₀ out₀ first count own out p left v own₁ x.place (suc x.behind) (rw q at s) l f.near

  -- where none is left, part and row are those behind all of them
  pub find-over : r ≡ None → (own₁ ≡ (pass_from code (e ∷ []) above count first own₀).part) × (out ≡ merged code out₀ (pass_from code (e ∷ []) above count first own₀))
  unfolding left_to_pass
  find-over q =
      let t : record { part = own₁; matched = [] } ≡ pass_from code (e ∷ []) above left p own = rw q at s in
      let z : declared_at code [] ≡ [] = unfold read_in selectors_declare in refl in
      (ap (λ (x : Passed). x.part) t ∙ v.passing.whole, merging-done Crate out₀ _ out _ v.merging (ap (λ (x : Passed). declared_at code x.matched) (sym t) ∙ z))

-- ---- the selectors of a sheet
module _ (code : List ℕ) (sheet : bytes_refusal code ≡ no_refusal) (r : Result (Read ℕ) Fault) (er : r ≡ read_answer (number_at code 0)) where
  -- there is a count
  pub count-there : (f : Fault) → r ≡ Err f → ⊥
  count-there f q =
      let d = decoded code sheet in
      no-fault (number_at code 0) _ f.place _ (sheet-steps code d.0 d.1 d.2).count-read (answer-fault (number_at code 0) r er f q)

  -- behind the count that was read, as many selectors read
  pub selectors-there : (x : Read ℕ) → r ≡ Ok x → SelectorsRead code x.value x.next
  selectors-there x h = let d = decoded code sheet in sheet-selectors code d.0 d.1 d.2 x.next x.value (answer_read (number_at code 0) r er x h)

  -- the pass from the first that has a style on is the pass over the whole sheet
  pub passes-all : (x : Read ℕ) → r ≡ Ok x → (first : ℕ) → first ≡ styled_from code x.value x.next → (row : Path) (above own : List ℕ)
      → pass_from code row above x.value first own ≡ pass_at code row above own
  unfolding pass_at on_decoded
  passes-all x h first ef row above own = rw (answer_read (number_at code 0) r er x h, ← ef)

  -- where none has a style, nothing is passed
  pub passes-none : (x : Read ℕ) → r ≡ Ok x → (first : ℕ) → first ≡ styled_from code x.value x.next → first ≡ no_place → (row : Path) (above own : List ℕ)
      → record { part = own; matched = [] } ≡ pass_at code row above own
  passes-none x h first ef z row above own =
      sym (pass-none code above row x.value own) ∙ ap (λ (p : ℕ). pass_from code row above x.value p own) (sym z) ∙ passes-all x h first ef row above own

  -- what the selectors behind the count are told is what the document is told
  pub tells-all : (x : Read ℕ) → r ≡ Ok x → (part : List ℕ) → fresh_from code x.value x.next part ≡ fresh_in code part
  unfolding fresh_in on_decoded
  tells-all x h part = rw (answer_read (number_at code 0) r er x h)
