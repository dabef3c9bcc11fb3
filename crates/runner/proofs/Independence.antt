-- What a step does not depend on. The row that it writes and its texts depend of the state on nothing but its parent's part, and so does what it stores in both parts: the parent's part is then
-- the same, and of every byte of the own part it holds that it is the same or as it was. What the document stores in its own part depends on nothing that the state held.
use Prim.Native.Nat.{ℕ, suc, ◌+◌, ◌≤◌, ◌<◌}
use mathlib.Core.Path.{◌≡◌, refl, ap, ap₂, sym, ◌∙◌}
use mathlib.Core.List.{List, [], ◌∷◌, ◌++◌}
use native.Mathlib.Omega.{arith}
use native.Mathlib.Nat.{suc-mul}
use lib.ListN.{length, take}
use lib.Seq.{sets, length-sets}
use Rattle.combinators.specs.Part.{part}
use Rattle.combinators.proofs.Rules.{pick-false, is-no}
use Rattle.page.specs.Path.{Element}
use Rattle.page.specs.Rows.{other_kind}
use Rattle.compiled.specs.Sheet.{compiled_limit}
use Rattle.segments.specs.Sweep.{pair_at, pair_bytes}
use Rattle.segments.specs.Pass.{Passed}
use Rattle.segments.specs.Down.{pass_at, fresh_in}
use Rattle.segments.proofs.DownLaws.{fresh_in_lem}
use Rattle.segments.proofs.FreeLaws.{pass-at-once, matched-at-free, pass-at-long, Alike, sets-alike, pass-at-alike}
use Rattle.styles.specs.StyleCall.{inline_contents}
use Rattle.styles.specs.declared.settings.Settings.{Settings}
use Rattle.runner.specs.State.{part_width, part_place, part_of, raised, opened}
use Rattle.runner.specs.Run.{Handed, Stepped, found_at, row_below, document_step, element_step, open_step, step_on}
use Rattle.runner.proofs.StateParts.{part_pair, raised-part, raised-behind, opened-part, length-raised}
use Rattle.runner.proofs.OpenParts.{part-long, opened-above}

-- ---- a step below a row of the depth d, in two states that agree on that row's part
module _ (code : List ℕ) (some : 0 < length code) (settings : Settings) (x : Handed) (d : ℕ) (parent state state' texts : List ℕ)
    (room : part_place code (suc d) + part_width code ≤ length state) (room' : part_place code (suc d) + part_width code ≤ length state') (same : part_of code d state ≡ part_of code d state') where
  abbrev at : ℕ
  at = part_place code d

  -- the element, by the state
  abbrev element_in : List ℕ → Element
  element_in l = record { name = x.name; attributes = x.attributes; place = pair_at l at + 1 }

  -- its parent's part with the raised count, and its pass
  abbrev above_in : List ℕ → List ℕ
  above_in l = part_of code d (raised l at)

  abbrev passed_in : List ℕ → Passed
  passed_in l = pass_at code (element_in l ∷ []) (above_in l) (part_of code (suc d) (raised l at))

  -- the count is that of the part
  count-in : (l : List ℕ) → pair_at l at ≡ pair_at (part_of code d l) 0
  unfolding part_of
  count-in l = sym (part_pair l at (part_width code) (omega arith))

  -- the same in both
  count_same : pair_at state at ≡ pair_at state' at
  count_same = count-in state ∙ ap (λ (p : List ℕ). pair_at p 0) same ∙ sym (count-in state')

  -- so the element is the same
  element-same : element_in state ≡ element_in state'
  element-same = ap (λ (n : ℕ). record { name = x.name; attributes = x.attributes; place = n + 1 }) count_same

  -- and so is the parent's part with the raised count
  above_same : above_in state ≡ above_in state'
  unfolding part_of
  above_same =
      raised-part state at (part_width code)
      ∙ ap₂ (λ (p : List ℕ) (n : ℕ). sets p 0 (pair_bytes (n + 1))) same count_same
      ∙ sym (raised-part state' at (part_width code))

  -- by which the own part is not changed
  own-kept : (l : List ℕ) → part_of code (suc d) (raised l at) ≡ part_of code (suc d) l
  unfolding part_of part
  own-kept l =
      let z : part_place code (suc d) ≡ at + part_width code = suc-mul d (part_width code) in
      rw z (ap (take (part_width code)) (raised-behind l at (part_width code) (omega arith)))

  -- the same selectors match
  matched-same : (passed_in state).matched ≡ (passed_in state').matched
  matched-same =
      ap₂ (λ (e : Element) (p : List ℕ). (pass_at code (e ∷ []) p (part_of code (suc d) (raised state at))).matched) element-same above_same
      ∙ matched-at-free code (element_in state' ∷ []) (above_in state') _ _

  -- and the same bytes are stored
  passed-alike : (m : ℕ) → Alike m (part_of code (suc d) state) (part_of code (suc d) state') (passed_in state).part (passed_in state').part
  passed-alike m =
      let l = part-long code state (suc d) room in
      let l' = part-long code state' (suc d) room' in
      rw (own-kept state, own-kept state', element-same, above_same)
      (pass-at-alike m (part_of code (suc d) state) (part_of code (suc d) state') code (element_in state' ∷ []) (above_in state') (l ∙ sym l'))

  -- what a step leaves in each
  abbrev step_in : List ℕ → Stepped
  step_in l = step_on code settings x (suc d) parent l texts

  abbrev left_in : List ℕ → List ℕ
  left_in l = opened (raised l at) (part_place code (suc d)) (passed_in l).part

  module _ (l : List ℕ) (r : part_place code (suc d) + part_width code ≤ length l) where
    -- the own part has room
    raised-room : part_place code (suc d) + part_width code ≤ length (raised l at)
    raised-room = let z = length-raised l at in omega arith

    -- its pass leaves it as long
    passed-long : length (passed_in l).part ≡ part_width code
    passed-long = pass-at-long code (element_in l ∷ []) (above_in l) _ ∙ part-long code (raised l at) (suc d) raised-room

    -- it is what the pass left, with the count 0
    own-part : part_of code (suc d) (left_in l) ≡ sets (passed_in l).part 0 (pair_bytes 0)
    unfolding part_of
    own-part = opened-part (raised l at) (part_place code (suc d)) (part_width code) (passed_in l).part passed-long raised-room

    -- and the parent's part is as it was raised
    above-part : part_of code d (left_in l) ≡ above_in l
    above-part = opened-above code some (raised l at) (suc d) raised-room (passed_in l).part passed-long d (omega arith)

  -- at a row that is not other content, the step is that of an element with its place
  step_in_lem : (l : List ℕ) → ¬ (x.kind ≡ other_kind) → step_in l ≡ element_step code settings (element_in l) d parent l texts
  unfolding step_on open_step
  step_in_lem l n = sym (pick-false _ _ _ _ (is-no _ _ n) refl)

  module _ (open_row : ¬ (x.kind ≡ other_kind)) where
    -- the same style row and texts
    pub step-state-free : ((step_in state).row ≡ (step_in state').row) × ((step_in state).texts ≡ (step_in state').texts)
    unfolding element_step
    step-state-free =
        let e = step_in_lem state open_row in
        let e' = step_in_lem state' open_row in (
          ap (λ (s : Stepped). s.row) e
              ∙ ap₂ (λ (a : Element) (b : List ℕ). row_below parent (found_at code b) settings (length code + length texts) a) element-same matched-same
              ∙ sym (ap (λ (s : Stepped). s.row) e'),
          ap (λ (s : Stepped). s.texts) e ∙ ap (λ (a : Element). texts ++ inline_contents settings a) element-same ∙ sym (ap (λ (s : Stepped). s.texts) e'),
        )

    -- what it leaves in each
    left_in_lem : (l : List ℕ) → (step_in l).state ≡ left_in l
    unfolding element_step
    left_in_lem l = ap (λ (s : Stepped). s.state) (step_in_lem l open_row)

    -- the same part of its parent, and in its own part the same bytes stored
    pub step-parts-free : (part_of code d (step_in state).state ≡ part_of code d (step_in state').state)
        × ((m : ℕ) → Alike m (part_of code (suc d) state) (part_of code (suc d) state') (part_of code (suc d) (step_in state).state) (part_of code (suc d) (step_in state').state))
    step-parts-free = (
      ap (part_of code d) (left_in_lem state) ∙ above-part state room ∙ above_same ∙ sym (above-part state' room') ∙ sym (ap (part_of code d) (left_in_lem state')),
      λ m. rw (left_in_lem state, left_in_lem state', own-part state room, own-part state' room')
          (sets-alike m (part_of code (suc d) state) (part_of code (suc d) state') (pair_bytes 0) (passed_in state).part (passed_in state').part 0 (passed-long state room ∙ sym (passed-long state' room')) (passed-alike m)),
    )

-- ---- the document's step, in whatever two states
module _ (code : List ℕ) (few : length code ≤ compiled_limit) (some : 0 < length code) (settings : Settings) (x : Handed) (open_row : ¬ (x.kind ≡ other_kind)) (parent texts : List ℕ) where
  abbrev document_in : List ℕ → Stepped
  document_in l = step_on code settings x 0 parent l texts

  abbrev fresh_of : List ℕ → List ℕ
  fresh_of l = fresh_in code (part_of code 1 l)

  abbrev stored_in : List ℕ → List ℕ → List ℕ
  stored_in fresh l = (pass_at code [] fresh (part_of code 0 l)).part

  module _ (l : List ℕ) (r : part_place code 0 + part_width code ≤ length l) where
    -- as wide as every part
    stored-long : (fresh : List ℕ) → length (stored_in fresh l) ≡ part_width code
    stored-long fresh = pass-at-long code [] fresh (part_of code 0 l) ∙ part-long code l 0 r

    -- its own part is what its pass left, with the count 0
    document-part : part_of code 0 (document_in l).state ≡ sets (stored_in (fresh_of l) l) 0 (pair_bytes 0)
    unfolding step_on open_step document_step part_of
    document-part =
        let e : document_in l ≡ document_step code l texts = sym (pick-false _ _ _ _ (is-no _ _ open_row) refl) in
        let z = length-sets l (part_place code 1) (fresh_of l) in
        ap (λ (s : Stepped). part_of code 0 s.state) e
        ∙ opened-part (sets l (part_place code 1) (fresh_of l)) (part_place code 0) (part_width code) (stored_in (fresh_of l) l) (stored-long (fresh_of l)) (omega arith)

  -- in its own part the same bytes are stored
  pub document-part-free : (state state' : List ℕ) → part_place code 1 + part_width code ≤ length state → part_place code 1 + part_width code ≤ length state' → (m : ℕ)
      → Alike m (part_of code 0 state) (part_of code 0 state') (part_of code 0 (document_in state).state) (part_of code 0 (document_in state').state)
  document-part-free state state' r r' m =
      let z = suc-mul 0 (part_width code) in
      let r₀ : part_place code 0 + part_width code ≤ length state = omega arith in
      let r₀' : part_place code 0 + part_width code ≤ length state' = omega arith in
      let w = part-long code state 1 r in
      let w' = part-long code state' 1 r' in
      let once = pass-at-once code few (fresh_of state) (fresh_of state') [] (part_of code 0 state) (fresh_in_lem code few (part_of code 1 state) (omega arith)) (fresh_in_lem code few (part_of code 1 state') (omega arith)) in
      let long = stored-long state r₀ (fresh_of state') ∙ sym (stored-long state' r₀' (fresh_of state')) in
      rw (document-part state r₀ ∙ ap (λ (p : Passed). sets p.part 0 (pair_bytes 0)) once, document-part state' r₀')
      (sets-alike m (part_of code 0 state) (part_of code 0 state') (pair_bytes 0) (stored_in (fresh_of state') state) (stored_in (fresh_of state') state') 0 long
      (pass-at-alike m (part_of code 0 state) (part_of code 0 state') code [] (fresh_of state') (part-long code state 0 r₀ ∙ sym (part-long code state' 0 r₀'))))
