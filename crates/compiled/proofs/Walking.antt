-- What a pass over compiled bytes knows: one component and one style from a reader's answer, the first of so many values, the parts of a selector
-- and of a sheet, and that every component takes a byte.
use mathlib.Core.Path.{◌≡◌, refl, sym, ap, ◌∙◌}
use mathlib.Core.List.{List, [], ◌∷◌}
use Prim.Native.Nat.{ℕ, zero, suc, ◌+◌, ◌≤◌}
use native.Mathlib.Omega.{arith}
use lib.ListN.{length}
use Rattle.combinators.specs.Choice.{is, pick, within}
use Rattle.combinators.proofs.Rules.{pick-holds, is_true, within-true}
use Rattle.syntax.specs.RuleLayout.{pseudo_from, pseudo_number}
use Rattle.syntax.specs.Selector.{Component, none, after}
use Rattle.syntax.specs.Style.{agent_origin, StyleDecl, author_origin}
use Rattle.compiled.specs.Decoded.{Decoded, read, fault, and_then, mapped, counted}
use Rattle.compiled.specs.Number.{number_at, ranged_at}
use Rattle.compiled.specs.Component.{written_at, component_in, component_at}
use Rattle.compiled.specs.declared.components.Written.{Written}
use Rattle.compiled.specs.Sheet.{CompiledSelector, head_at, styles_at, selector_at, selectors_at, whole_at, decode, decode_by}
use Rattle.compiled.specs.declared.sheets.Head.{Head}
use Rattle.compiled.specs.Answer.{read_answer}
use Rattle.compiled.specs.declared.places.Fault.{Fault}
use Rattle.compiled.specs.declared.places.Read.{Read}
use Rattle.std.proofs.Common.{Result, Ok, Err}
use Rattle.compiled.specs.Style.{style_at}
use Rattle.compiled.proofs.Answers.{answer_read, answer-fault}
use Rattle.compiled.proofs.Following.{mapped-read, mapped-fault}
use Rattle.compiled.proofs.Bounds.{reaches_end, component-reaches}

-- ---- one component
-- what was read of a component's bytes is the component, with its texts cut from them
pub component-written : (s : List ℕ) (at n : ℕ) (w : Written) → written_at s at ≡ read n w → component_at s at ≡ read n (component_in s w)
unfolding component_at
component-written s at n w e = mapped-read (component_in s) (written_at s at) n w e

module _ (s : List ℕ) (at : ℕ) (r : Result (Read Written) Fault) (e : r ≡ read_answer (written_at s at)) where
  -- the component is the one that the answer says, with its texts cut from the bytes
  pub at_component : (x : Read Written) → r ≡ Ok x → component_at s at ≡ read x.next (component_in s x.value)
  at_component x p = component-written s at x.next x.value (answer_read (written_at s at) r e x p)

  -- an answer with a fault says that no component was read
  pub at-fault : (f : Fault) → r ≡ Err f → component_at s at ≡ fault f.place
  unfolding component_at
  at-fault f p = mapped-fault (component_in s) (written_at s at) f.place (answer-fault (written_at s at) r e f p)

-- ---- what was read in two steps
-- the steps of a reading that succeeded
pub record Steps {A B : Type 0} (d : Decoded A) (f : ℕ → A → Decoded B) (m : ℕ) (b : B) : Type 0 where
  pub place : ℕ
  pub value : A
  pub first : d ≡ read place value
  pub rest : f place value ≡ read m b

-- where two readings one behind the other succeed, the first read a value, and the second went on from it
pub steps : {A B : Type 0} (d : Decoded A) (f : ℕ → A → Decoded B) (m : ℕ) (b : B) → and_then d f ≡ read m b → Steps d f m b
unfolding and_then
steps (read n a) f m b e = record { place = n; value = a; first = refl; rest = e }
steps (fault p) f m b e = absurd (let z : ◌≡◌ {A = ℕ} 0 1 = cc in omega arith)

-- what was read before f made it
pub record Source {A B : Type 0} (f : A → B) (d : Decoded A) (m : ℕ) (b : B) : Type 0 where
  pub value : A
  pub first : d ≡ read m value
  pub made : b ≡ f value

-- where f of a reading was read, a value was read that f makes it of
pub source : {A B : Type 0} (f : A → B) (d : Decoded A) (m : ℕ) (b : B) → mapped f d ≡ read m b → Source f d m b
unfolding mapped
source f (read n a) m b e =
    let p : n ≡ m = cc in
    record { value = a; first = rw p; made = cc }
source f (fault p) m b e = absurd (let z : ◌≡◌ {A = ℕ} 0 1 = cc in omega arith)

-- ---- so many values
module _ {A : Type 0} (u : ℕ → Decoded A) where
  -- the first of them, and the others
  pub record First (k i m : ℕ) (xs : List A) : Type 0 where
    pub place : ℕ
    pub value : A
    pub others : List A
    pub first : u i ≡ read place value
    pub rest : counted u k place ≡ read m others
    pub split : xs ≡ value ∷ others

  -- where k + 1 values were read, there is a first one, and k others behind it
  pub counted-first : (k i m : ℕ) (xs : List A) → counted u (suc k) i ≡ read m xs → First k i m xs
  unfolding counted
  counted-first k i m xs e =
      let w = steps (u i) (λ n a. mapped (λ r. a ∷ r) (counted u k n)) m xs e in
      let v = source (λ r. w.value ∷ r) (counted u k w.place) m xs w.rest in
      record { place = w.place; value = w.value; others = v.value; first = w.first; rest = v.first; split = v.made }

  -- no value read ends where it began
  pub counted_none : (i m : ℕ) (xs : List A) → counted u 0 i ≡ read m xs → (m ≡ i) × (xs ≡ [])
  unfolding counted
  counted_none i m xs e = (cc, cc)

  -- there are as many as were asked for
  pub counted-length : (k i m : ℕ) (xs : List A) → counted u k i ≡ read m xs → length xs ≡ k
  counted-length zero i m xs e = ap length (counted_none i m xs e).1
  counted-length (suc k) i m xs e =
      let w = counted-first k i m xs e in
      ap length w.split ∙ ap suc (counted-length k w.place m w.others w.rest)

-- every component takes a byte
pub components-long : (t : List ℕ) (k i m : ℕ) (cs : List Component) → counted (component_at t) k i ≡ read m cs → i + length cs ≤ m
components-long t zero i m cs e =
    let w = counted_none (component_at t) i m cs e in
    omega (arith, ap length w.1)
components-long t (suc k) i m cs e =
    let w = counted-first (component_at t) k i m cs e in
    omega (
      arith,
      ap length w.split,
      components-long t k w.place m w.others w.rest,
      (reaches_end (length t) i 1 w.place w.value (component_at t i) (component-reaches t i) w.first).0,
    )

-- ---- the numbers before a selector's components
-- a number that is read from a range lies in it
pub ranged-within : (t : List ℕ) (i least most n v : ℕ) → ranged_at t i least most ≡ read n v → (least ≤ v) × (v ≤ most)
unfolding ranged_at
ranged-within t i least most n v e =
    let w = steps (number_at t i) (λ m x. pick (within x least most) (read m x) (fault i)) n v e in
    pick-holds (λ d. d ≡ read n v → (least ≤ v) × (v ≤ most)) (within w.value least most) (read w.place w.value) (fault i)
    (λ h q. let p : w.value ≡ v = cc in rw (← p) (within-true w.value least most h)) (λ _ q. absurd (let z : ◌≡◌ {A = ℕ} 0 1 = cc in omega arith)) w.rest

-- a number up to that of `::after` is the number of the pseudo element that it stands for
pseudo-numbered : (n : ℕ) → n ≤ 2 → pseudo_number (pseudo_from n) ≡ n
unfolding pseudo_number pseudo_from pick is
pseudo-numbered zero l = refl
pseudo-numbered (suc zero) l = refl
pseudo-numbered (suc (suc zero)) l = refl
pseudo-numbered (suc (suc (suc n))) l = absurd (omega arith)

-- so is that of a head
pub head-pseudo : (t : List ℕ) (least i n : ℕ) (h : Head) → head_at t least i ≡ read n h → pseudo_number (pseudo_from h.pseudo) ≡ h.pseudo
unfolding head_at
head-pseudo t least i n h e =
    let o = steps (ranged_at t i least author_origin) _ n h e in
    let p = steps (ranged_at t o.place (pseudo_number none) (pseudo_number after)) _ n h o.rest in
    let c = source _ (number_at t p.place) n h p.rest in
    let same : h.pseudo ≡ p.value = ap (λ (x : Head). x.pseudo) c.made in
    let most : p.value ≤ pseudo_number after = (ranged-within t o.place _ _ p.place p.value p.first).1 in
    rw same (pseudo-numbered p.value (unfold pseudo_number in most))

-- ---- the parts of a selector
pub record SelectorSteps (t : List ℕ) (least i m : ℕ) (s : CompiledSelector StyleDecl) : Type 0 where
  pub head : Head
  pub behind-head : ℕ
  pub behind-components : ℕ
  pub head_read : head_at t least i ≡ read behind-head head
  pub components-read : counted (component_at t) head.count behind-head ≡ read behind-components s.components
  pub styles-read : styles_at (style_at t) t behind-components ≡ read m s.styles
  pub origin : s.origin ≡ head.origin
  pub pseudo : s.pseudo ≡ pseudo_from head.pseudo

-- where a selector was read, its head, its components and its styles were, one behind the other
pub selector-steps : (t : List ℕ) (least i m : ℕ) (s : CompiledSelector StyleDecl) → selector_at (style_at t) t least i ≡ read m s → SelectorSteps t least i m s
unfolding selector_at
selector-steps t least i m s e =
    let a = steps (head_at t least i) _ m s e in
    let c = steps (counted (component_at t) a.value.count a.place) _ m s a.rest in
    let d = source _ (styles_at (style_at t) t c.place) m s c.rest in
    let p : s.components ≡ c.value = ap (λ (x : CompiledSelector StyleDecl). x.components) d.made in
    let q : s.styles ≡ d.value = ap (λ (x : CompiledSelector StyleDecl). x.styles) d.made in
    record {
      head = a.value;
      behind-head = a.place;
      behind-components = c.place;
      head_read = a.first;
      components-read = c.first ∙ ap (read c.place) (sym p);
      styles-read = d.first ∙ ap (read m) (sym q);
      origin = ap (λ (x : CompiledSelector StyleDecl). x.origin) d.made;
      pseudo = ap (λ (x : CompiledSelector StyleDecl). x.pseudo) d.made;
    }

-- ---- the selectors of a sheet
-- the first of them, and the others behind it
pub record FirstSelector (t : List ℕ) (k least i m : ℕ) (ss : List (CompiledSelector StyleDecl)) : Type 0 where
  pub place : ℕ
  pub selector : CompiledSelector StyleDecl
  pub others : List (CompiledSelector StyleDecl)
  pub first : selector_at (style_at t) t least i ≡ read place selector
  pub rest : selectors_at (style_at t) t k selector.origin place ≡ read m others
  pub split : ss ≡ selector ∷ others

-- where k + 1 selectors were read, there is a first one, and k others of its origin or a later one behind it
pub selectors-first : (t : List ℕ) (k least i m : ℕ) (ss : List (CompiledSelector StyleDecl)) → selectors_at (style_at t) t (suc k) least i ≡ read m ss → FirstSelector t k least i m ss
unfolding selectors_at
selectors-first t k least i m ss e =
    let w = steps (selector_at (style_at t) t least i) (λ n s. mapped (λ r. s ∷ r) (selectors_at (style_at t) t k s.origin n)) m ss e in
    let v = source (λ r. w.value ∷ r) (selectors_at (style_at t) t k w.value.origin w.place) m ss w.rest in
    record { place = w.place; selector = w.value; others = v.value; first = w.first; rest = v.first; split = v.made }

-- no selector read ends where it began
pub selectors-none : (t : List ℕ) (least i m : ℕ) (ss : List (CompiledSelector StyleDecl)) → selectors_at (style_at t) t 0 least i ≡ read m ss → (m ≡ i) × (ss ≡ [])
unfolding selectors_at
selectors-none t least i m ss e = (cc, cc)

-- ---- a sheet
-- the parts of a sheet that was read: its count, its selectors, and that nothing is left over
pub record SheetSteps (t : List ℕ) (m : ℕ) (ss : List (CompiledSelector StyleDecl)) : Type 0 where
  pub count : ℕ
  pub behind-count : ℕ
  pub count-read : number_at t 0 ≡ read behind-count count
  pub selectors-read : selectors_at (style_at t) t count agent_origin behind-count ≡ read m ss
  pub whole : m ≡ length t

-- the bytes end with the selectors
ended : (t : List ℕ) (n m : ℕ) (ss xs : List (CompiledSelector StyleDecl)) → pick (is n (length t)) (read n xs) (fault n) ≡ read m ss → (read n xs ≡ read m ss) × (n ≡ length t)
ended t n m ss xs = pick-holds (λ d. d ≡ read m ss → (read n xs ≡ read m ss) × (n ≡ length t)) (is n (length t)) (read n xs) (fault n)
    (λ e p. (p, is_true n (length t) e)) (λ _ p. absurd (let z : ◌≡◌ {A = ℕ} 0 1 = cc in omega arith))

-- where a sheet was read, its count and its selectors were, and the bytes end there
pub sheet-steps : (t : List ℕ) (m : ℕ) (ss : List (CompiledSelector StyleDecl)) → decode t ≡ read m ss → SheetSteps t m ss
unfolding decode decode_by whole_at
sheet-steps t m ss e =
    let a = steps (number_at t 0) _ m ss e in
    let b = steps (selectors_at (style_at t) t a.value agent_origin a.place) _ m ss a.rest in
    let c = ended t b.place m ss b.value b.rest in
    let p : b.place ≡ m = let q = c.0 in cc in
    record { count = a.value; behind-count = a.place; count-read = a.first; selectors-read = b.first ∙ c.0; whole = sym p ∙ c.1 }
