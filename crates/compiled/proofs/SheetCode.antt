-- The returns of the readers of selectors and of the check of a sheet.
use mathlib.Core.Path.{◌≡◌, refl, sym, ap, ◌∙◌}
use mathlib.Core.Bool.{true}
use mathlib.Core.List.{List, ◌∷◌}
use Prim.Native.Nat.{ℕ, zero, suc, ◌+◌, ◌-◌, ◌≤◌, ◌<◌}
use native.Mathlib.Nat.{add-zero}
use native.Mathlib.Omega.{arith}
use lib.ListN.{length, take, drop, get_or}
use lib.Seq.{get_or-drop}
use Rattle.std.proofs.lemmas.List.{get_or-take}
use Rattle.combinators.specs.Choice.{within, pick, is}
use Rattle.combinators.specs.Refusal.{no_refusal, refused_at, bad_bytes}
use Rattle.combinators.proofs.Rules.{pick_true, pick-false, is-yes, is-no, within-true}
use Rattle.syntax.specs.RuleLayout.{pseudo_number, pseudo_from}
use Rattle.syntax.specs.Selector.{none, after, Component}
use Rattle.syntax.specs.Style.{agent_origin, author_origin, StyleDecl}
use Rattle.compiled.specs.Decoded.{Decoded, read, fault, on_decoded, mapped, counted, and_then}
use Rattle.compiled.specs.Number.{group_values, number_at, ranged_at}
use Rattle.compiled.specs.Component.{component_at}
use Rattle.std.proofs.Common.{Result, Ok, Err}
use Rattle.compiled.specs.Sheet.{CompiledSelector, head_at, styles_at, selector_at, selectors_at, whole_at, decode, decode_by}
use Rattle.compiled.specs.Answer.{read_answer, read_within, place_answer, selector_answer, check_answer, refusal_of, bytes_refusal, check_within}
use Rattle.compiled.specs.declared.places.Fault.{Fault}
use Rattle.compiled.specs.declared.places.Read.{Read}
use Rattle.compiled.specs.declared.sheets.Head.{Head}
use Rattle.compiled.specs.Style.{style_at}
use Rattle.compiled.proofs.Answers.{got, failed, answer_read, answer-fault, answer-within, then_answer, then-answer, mapped_answer, mapped-answer, place-mapped, place_read, place-fault, selector-read, selector-fault}
use Rattle.compiled.proofs.Bounds.{Reaches, head-reaches, sheet-reaches}
use Rattle.compiled.proofs.Following.{then-read, then-fault, mapped-read, mapped-fault}
use Rattle.compiled.proofs.NumberReading.{reading-one, ranged-in}
use Rattle.compiled.proofs.Walking.{steps}

-- ---- the numbers before the components
module _ (s : List ℕ) (at least : ℕ) where
  -- an answer that is what the bytes say lies within them
  pub bounded : (q : Result (Read Head) Fault) → q ≡ read_answer (head_at s least at) → (q ≡ read_answer (head_at s least at)) × read_within (length s) q
  bounded q e = answer-within (head_at s least at) q e 3 (length s) at (head-reaches s least at)

  -- read one behind the other
  module _ (r : Result (Read ℕ) Fault) (e : r ≡ read_answer (ranged_at s at least author_origin)) where
    module _ (o : Read ℕ) (p : r ≡ Ok o) (r₁ : Result (Read ℕ) Fault) (e₁ : r₁ ≡ read_answer (ranged_at s o.next (pseudo_number none) (pseudo_number after))) where
      module _ (x : Read ℕ) (p₁ : r₁ ≡ Ok x) (r₂ : Result (Read ℕ) Fault) (e₂ : r₂ ≡ read_answer (number_at s x.next)) where
        pub whole-head : (y : Read ℕ) → r₂ ≡ Ok y → got y.next (record { origin = o.value; pseudo = x.value; count = y.value }) ≡ read_answer (head_at s least at)
        unfolding head_at
        whole-head y p₂ = then_answer _ _ r e o p _ (then_answer _ _ r₁ e₁ x p₁ _ (mapped_answer (λ k. record { origin = o.value; pseudo = x.value; count = k }) (number_at s x.next) r₂ e₂ y p₂))

        pub count-fault : (f : Fault) → r₂ ≡ Err f → Err f ≡ read_answer (head_at s least at)
        unfolding head_at
        count-fault f p₂ = then_answer _ _ r e o p _ (then_answer _ _ r₁ e₁ x p₁ _ (mapped-answer (λ k. record { origin = o.value; pseudo = x.value; count = k }) (number_at s x.next) r₂ e₂ f p₂))

      pub pseudo-fault : (f : Fault) → r₁ ≡ Err f → Err f ≡ read_answer (head_at s least at)
      unfolding head_at
      pseudo-fault f p₁ = then_answer _ _ r e o p _ (then-answer _ _ r₁ e₁ f p₁)

    pub origin-fault : (f : Fault) → r ≡ Err f → Err f ≡ read_answer (head_at s least at)
    unfolding head_at
    origin-fault f p = then-answer _ _ r e f p

-- ---- `read_head`, of one byte for each number
module _ (s : List ℕ) (at least : ℕ) (l : at < length s) (room : 3 ≤ length s - at) (origin pseudo count : ℕ)
    (eo : origin ≡ get_or s at 0) (ep : pseudo ≡ get_or s (at + 1) 0) (ec : count ≡ get_or s (at + 2) 0) where
  -- each is read by itself
  short-head : least ≤ origin → origin ≤ author_origin → pseudo ≤ pseudo_number after → count < group_values
      → (got (at + 3) (record { origin = origin; pseudo = pseudo; count = count }) ≡ read_answer (head_at s least at))
      × read_within {A = Head} (length s) (got (at + 3) (record { origin = origin; pseudo = pseudo; count = count }))
  unfolding pseudo_number
  short-head h₀ h₁ h₂ h₃ =
      let two : at + 1 + 1 ≡ at + 2 = omega arith in
      let three : at + 1 + 1 + 1 ≡ at + 3 = omega arith in
      let o : Read ℕ = record { next = at + 1; value = origin } in
      let x : Read ℕ = record { next = at + 1 + 1; value = pseudo } in
      let y : Read ℕ = record { next = at + 1 + 1 + 1; value = count } in
      let p = (ranged-in s at least author_origin _ (reading-one s at origin eo l (omega (arith, h₁)) _ refl).0 o refl h₀ h₁).0 in
      let q = (ranged-in s (at + 1) (pseudo_number none) (pseudo_number after) _ (reading-one s (at + 1) pseudo ep (omega (arith, room)) (omega (arith, h₂)) _ refl).0 x refl (omega arith) h₂).0 in
      let c = (reading-one s (at + 1 + 1) count (ec ∙ ap (λ (i : ℕ). get_or s i 0) (sym two)) (omega (arith, room)) h₃ _ refl).0 in
      bounded s at least _ (same three ∙ whole-head s at least (Ok o) p o refl (Ok x) q x refl (Ok y) c y refl)
    where
      same : {m n : ℕ} → m ≡ n → ◌≡◌ {A = Result (Read Head) Fault} (got n (record { origin = origin; pseudo = pseudo; count = count })) (got m (record { origin = origin; pseudo = pseudo; count = count }))
      same p = rw p

-- the same of the bytes t from there on
module _ (s t : List ℕ) (at least : ℕ) (e : t ≡ take (length s - at) (drop at s)) (k : length t + at ≡ length s) (room : 3 ≤ length t) where
  byte_there : (i : ℕ) → i < length t → get_or t i 0 ≡ get_or s (at + i) 0
  byte_there i l = ap (λ (x : List ℕ). get_or x i 0) e ∙ get_or-take (length s - at) (drop at s) i 0 (omega arith) ∙ get_or-drop at s i 0

  pub short_head : (origin pseudo count : ℕ) → origin ≡ get_or t 0 0 → pseudo ≡ get_or t 1 0 → count ≡ get_or t 2 0
      → within origin least author_origin ≡ true → pseudo ≤ pseudo_number after → count < group_values
      → (got (at + 3) (record { origin = origin; pseudo = pseudo; count = count }) ≡ read_answer (head_at s least at))
      × read_within {A = Head} (length s) (got (at + 3) (record { origin = origin; pseudo = pseudo; count = count }))
  short_head origin pseudo count eo ep ec h l g =
      let w = within-true origin least author_origin h in
      let first : get_or s (at + 0) 0 ≡ get_or s at 0 = ap (λ (i : ℕ). get_or s i 0) (add-zero at) in
      short-head s at least (omega (arith, room)) (omega (arith, room)) origin pseudo count (eo ∙ byte_there 0 (omega (arith, room)) ∙ first) (ep ∙ byte_there 1 (omega (arith, room)))
      (ec ∙ byte_there 2 (omega (arith, room))) w.0 w.1 l g

-- ---- `skip_parts`: components, then styles
-- what is passed over
abbrev parts_at : List ℕ → ℕ → ℕ → Decoded (List StyleDecl)
parts_at s count at = and_then (counted (component_at s) count at) (λ n cs. styles_at (style_at s) s n)

-- a fault in either is one, whatever is made of what is read
behind-fault : {A B C : Type 0} (d : Decoded A) (g : ℕ → Decoded B) (f : A → B → C) (p : ℕ) → and_then d (λ n a. g n) ≡ fault p → and_then d (λ n a. mapped (f a) (g n)) ≡ fault p
unfolding and_then
behind-fault (read n a) g f p e = mapped-fault (f a) (g n) p e
behind-fault (fault q) g f p e = let h : q ≡ p = cc in rw h

module _ (s : List ℕ) (at count : ℕ) (r : Result ℕ Fault) (e : r ≡ place_answer (counted (component_at s) count at)) where
  -- with the components passed, the selector is what its styles make of it
  pub parts-skipped : (n : ℕ) → r ≡ Ok n → (q : Result ℕ Fault) → q ≡ place_answer (styles_at (style_at s) s n) → q ≡ place_answer (parts_at s count at)
  parts-skipped n p q h =
      let w = place_read (counted (component_at s) count at) r e n p in
      h ∙ sym (ap place_answer (then-read (counted (component_at s) count at) (λ n cs. styles_at (style_at s) s n) n w.0 w.1))

  -- where a component has a fault, it is that of the parts
  pub parts-fault : (f : Fault) → r ≡ Err f → Err f ≡ place_answer (parts_at s count at)
  unfolding place_answer
  parts-fault f q =
      ap place_answer
      (sym (then-fault (counted (component_at s) count at) (λ n cs. styles_at (style_at s) s n) f.place
      (place-fault (counted (component_at s) count at) r e f q)))

-- ---- `skip_selector`
-- a selector of these parts
abbrev made : Head → List Component → List StyleDecl → CompiledSelector StyleDecl
made h cs ds = record { origin = h.origin; pseudo = pseudo_from h.pseudo; components = cs; styles = ds }

module _ (s : List ℕ) (at least : ℕ) (r : Result (Read Head) Fault) (e : r ≡ read_answer (head_at s least at)) where
  module _ (x : Read Head) (p : r ≡ Ok x) where
    -- with its head read, a selector is what stands behind it
    behind : selector_at (style_at s) s least at ≡ and_then (counted (component_at s) x.value.count x.next) (λ n cs. mapped (made x.value cs) (styles_at (style_at s) s n))
    unfolding selector_at
    behind = then-read (head_at s least at) _ x.next _ (answer_read (head_at s least at) r e x p)

    -- its parts are passed over
    pub selector-skipped : (q : Result ℕ Fault) → q ≡ place_answer (parts_at s x.value.count x.next) → (m : ℕ)
        → q ≡ Ok m → got m x.value.origin ≡ selector_answer (selector_at (style_at s) s least at)
    unfolding selector_answer read_answer mapped
    selector-skipped q h m k =
        let w = place_read (parts_at s x.value.count x.next) q h m k in
        let c = steps (counted (component_at s) x.value.count x.next) (λ n cs. styles_at (style_at s) s n) m w.0 w.1 in
        ap selector_answer (sym (behind ∙ then-read (counted (component_at s) x.value.count x.next) _ c.place c.value c.first ∙ mapped-read (made x.value c.value) _ m w.0 c.rest))

    -- there is a fault in them
    pub selector-parts-fault : (q : Result ℕ Fault) → q ≡ place_answer (parts_at s x.value.count x.next) → (f : Fault)
        → q ≡ Err f → Err f ≡ selector_answer (selector_at (style_at s) s least at)
    unfolding selector_answer read_answer mapped
    selector-parts-fault q h f l =
        ap selector_answer (sym (behind ∙ behind-fault (counted (component_at s) x.value.count x.next) (styles_at (style_at s) s) (made x.value) f.place (place-fault (parts_at s x.value.count x.next) q h f l)))

  -- a fault in the head is that of the selector
  pub selector-head-fault : (f : Fault) → r ≡ Err f → Err f ≡ selector_answer (selector_at (style_at s) s least at)
  unfolding selector_at selector_answer read_answer mapped
  selector-head-fault f q =
      ap selector_answer (sym (then-fault (head_at s least at) (λ n h. and_then (counted (component_at s) h.count n) (λ m cs. mapped (made h cs) (styles_at (style_at s) s m))) f.place (answer-fault (head_at s least at) r e f q)))

-- ---- `skip_selectors`: one selector behind the other, by origins that do not go down
module _ (s : List ℕ) where
  -- what is left to pass over at i, behind a selector of the origin `before`, is what was to be passed over
  abbrev pub Selecting : ℕ → ℕ → ℕ → ℕ → ℕ → ℕ → Type 0
  Selecting count least at left before i = place_answer (selectors_at (style_at s) s left before i) ≡ place_answer (selectors_at (style_at s) s count least at)

  -- passing over one selector, and then over the others of its origin or a later one, ends where passing over all ends
  one_more : (left before i n : ℕ) (x : CompiledSelector StyleDecl) → 0 < left → selector_at (style_at s) s before i ≡ read n x
      → place_answer (selectors_at (style_at s) s (left - 1) x.origin n) ≡ place_answer (selectors_at (style_at s) s left before i)
  unfolding selectors_at
  one_more zero before i n x h e = absurd (omega arith)
  one_more (suc k) before i n x h e =
      let q : suc k - 1 ≡ k = omega arith in
      rw q (sym (ap place_answer (then-read (selector_at (style_at s) s before i) _ n x e) ∙ place-mapped _ (selectors_at (style_at s) s k x.origin n)))

  -- a fault of the first selector is that of all
  one-fault : (left before i : ℕ) (f : Fault) → 0 < left → selector_at (style_at s) s before i ≡ fault f.place → Err f ≡ place_answer (selectors_at (style_at s) s left before i)
  unfolding selectors_at place_answer
  one-fault zero before i f h e = absurd (omega arith)
  one-fault (suc k) before i f h e =
      ap place_answer (sym (then-fault (selector_at (style_at s) s before i) (λ n x. mapped (λ r. x ∷ r) (selectors_at (style_at s) s k x.origin n)) f.place e))

  -- with no selector left, passing over them ends here
  all_done : (left before i : ℕ) → left ≤ 0 → Ok i ≡ place_answer (selectors_at (style_at s) s left before i)
  unfolding selectors_at place_answer
  all_done zero before i h = refl
  all_done (suc k) before i h = absurd (omega arith)

  module _ (count least at done : ℕ) (last : Read ℕ) (c : Selecting count least at (count - done) last.value last.next) where
    -- with one selector passed over, the others are left from behind it, of its origin or a later one
    pub selecting-more : done < count → (r : Result (Read ℕ) Fault) → r ≡ selector_answer (selector_at (style_at s) s last.value last.next) → (x : Read ℕ) → r ≡ Ok x
        → Selecting count least at (count - (done + 1)) x.value x.next
    selecting-more h r e x p =
        let w = selector-read (selector_at (style_at s) s last.value last.next) r e x p in
        let q : count - (done + 1) ≡ count - done - 1 = omega arith in
        rw q (ap (λ (o : ℕ). place_answer (selectors_at (style_at s) s (count - done - 1) o x.next)) (sym w.2) ∙ one_more (count - done) last.value last.next x.next w.0 (omega arith) w.1 ∙ c)

    -- a fault in the next selector is that of all
    pub selecting-fault : done < count → (r : Result (Read ℕ) Fault) → r ≡ selector_answer (selector_at (style_at s) s last.value last.next) → (f : Fault) → r ≡ Err f
        → Err f ≡ place_answer (selectors_at (style_at s) s count least at)
    selecting-fault h r e f q = one-fault (count - done) last.value last.next f (omega arith) (selector-fault (selector_at (style_at s) s last.value last.next) r e f q) ∙ c

    -- with no selector left, passing over all of them ends here
    pub selecting_done : count ≤ done → Ok last.next ≡ place_answer (selectors_at (style_at s) s count least at)
    selecting_done h = all_done (count - done) last.value last.next (omega arith) ∙ c

-- ---- the check of a whole sheet: its bytes end where its selectors do
module _ (s : List ℕ) (at count : ℕ) (r : Result ℕ Fault) (e : r ≡ place_answer (selectors_at (style_at s) s count agent_origin at)) where
  -- the bytes end with the selectors
  pub whole-sheet : (n : ℕ) → r ≡ Ok n → n ≡ length s → Ok tt ≡ check_answer (whole_at (style_at s) s count at)
  unfolding whole_at check_answer
  whole-sheet n p h =
      let w = place_read (selectors_at (style_at s) s count agent_origin at) r e n p in
      ap check_answer (sym (then-read (selectors_at (style_at s) s count agent_origin at) _ n w.0 w.1 ∙ sym (pick_true (read n w.0) _ _ _ (is-yes _ _ h) refl)))

  -- bytes that are left over behind the selectors are a fault where these end
  pub whole-left : (n : ℕ) → r ≡ Ok n → ¬ (n ≡ length s) → failed n ≡ check_answer (whole_at (style_at s) s count at)
  unfolding whole_at check_answer
  whole-left n p h =
      let w = place_read (selectors_at (style_at s) s count agent_origin at) r e n p in
      ap check_answer (sym (then-read (selectors_at (style_at s) s count agent_origin at) _ n w.0 w.1 ∙ sym (pick-false (fault n) _ _ _ (is-no _ _ h) refl)))

  -- a selector has a fault
  pub whole-fault : (f : Fault) → r ≡ Err f → Err f ≡ check_answer (whole_at (style_at s) s count at)
  unfolding whole_at check_answer
  whole-fault f q =
      ap check_answer (sym (then-fault (selectors_at (style_at s) s count agent_origin at) (λ n ss. pick (is n (length s)) (read n ss) (fault n)) f.place (place-fault (selectors_at (style_at s) s count agent_origin at) r e f q)))

module _ (s : List ℕ) where
  -- what is answered on a whole sheet lies within the bytes
  check-within : (d : Decoded (List (CompiledSelector StyleDecl))) → Reaches 1 (length s) 0 d → check_within (length s) (check_answer d)
  unfolding check_answer check_within Reaches
  check-within (read n ss) h = tt
  check-within (fault p) h = h (omega arith)

  -- the answer refuses exactly where nothing was decoded, at the byte of the fault
  refusal_is : (d : Decoded (List (CompiledSelector StyleDecl))) → refusal_of (check_answer d) ≡ on_decoded d (λ _ _. no_refusal) (λ p. refused_at bad_bytes p)
  unfolding check_answer refusal_of on_decoded
  refusal_is (read n ss) = refl
  refusal_is (fault p) = refl

  -- an answer that is what the bytes say refuses as the definition does, and lies within them
  checked : (q : Result Unit Fault) → q ≡ check_answer (decode s) → (refusal_of q ≡ bytes_refusal s) × check_within (length s) q
  unfolding bytes_refusal
  checked q e = (ap refusal_of e ∙ refusal_is (decode s), rw e (check-within (decode s) (sheet-reaches s)))

  module _ (r : Result (Read ℕ) Fault) (e : r ≡ read_answer (number_at s 0)) where
    -- behind the count of selectors
    pub sheet-checked : (x : Read ℕ) → r ≡ Ok x → (q : Result Unit Fault) → q ≡ check_answer (whole_at (style_at s) s x.value x.next)
        → (refusal_of q ≡ bytes_refusal s) × check_within (length s) q
    unfolding decode decode_by
    sheet-checked x p q h = checked q (h ∙ ap check_answer (sym (then-read (number_at s 0) (λ m k. whole_at (style_at s) s k m) x.next x.value (answer_read _ r e x p))))

    -- where no count was read, the bytes are refused at its fault
    pub sheet-fault : (f : Fault) → r ≡ Err f → (q : Result Unit Fault) → q ≡ Err f → (refusal_of q ≡ bytes_refusal s) × check_within (length s) q
    unfolding decode decode_by check_answer
    sheet-fault f p q h = checked q (h ∙ ap check_answer (sym (then-fault (number_at s 0) (λ m k. whole_at (style_at s) s k m) f.place (answer-fault _ r e f p))))
