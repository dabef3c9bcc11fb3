-- What the components of a selector add up to.
use Prim.Native.Nat.{ℕ, zero, suc, ◌+◌, ◌-◌, ◌≤◌, ◌<◌, ◌^◌}
use mathlib.Core.Path.{◌≡◌, refl, sym, ap, subst, ◌∙◌}
use mathlib.Core.Bool.{Bool, true, false}
use mathlib.Core.List.{List, ◌∷◌}
use native.Mathlib.Nat.{add-zero, zero-add, add_assoc}
use native.Mathlib.Omega.{arith}
use lib.ListN.{get_or}
use Rattle.combinators.specs.Choice.{pick, or, is}
use Rattle.combinators.proofs.Rules.{pick-holds, never, is_true, is-yes, is-no, or_assoc, or-false}
use Rattle.syntax.specs.RuleLayout.{star_kind, class_kind, element_kind, hash_kind, child_kind}
use Rattle.syntax.specs.Selector.{Component}
use Rattle.cascade.specs.Specificity.{specificity_of, no_specificity, sum, SumFits}
use Rattle.cascade.specs.declared.specificity.Specificity.{Specificity}
use Rattle.matching.specs.Specificity.{added, name_added, specificity}
use Rattle.matching.proofs.ComponentLaws.{nothing, added-few}
use Rattle.compiled.specs.Decoded.{Decoded, read, fault, mapped, counted}
use Rattle.compiled.specs.Component.{written_at, mark_of, named_of, component_in, component_at}
use Rattle.std.proofs.Common.{Result, Ok, Err}
use Rattle.compiled.specs.Text.{text_in}
use Rattle.compiled.specs.Answer.{read_answer, ShortSize}
use Rattle.compiled.specs.declared.places.Fault.{Fault}
use Rattle.compiled.specs.declared.places.Read.{Read}
use Rattle.compiled.specs.declared.texts.Span.{Span}
use Rattle.compiled.specs.declared.components.Written.{Written}
use Rattle.compiled.specs.declared.components.Written.TheVariants as written
use Rattle.compiled.proofs.Answers.{got, answer_read, answer-fault}
use Rattle.compiled.proofs.Following.{then-read, then-fault}
use Rattle.compiled.proofs.Walking.{at_component, at-fault, Source, source, component-written}
use Rattle.stepping.specs.Reading.{weight_at, weights_at}

-- ---- one component
-- star and combinators add nothing
abbrev AddsNothing : Component → Type 0
AddsNothing c = nothing ≡ added c

-- a component that is its kind alone adds nothing, whichever it is
mark-adds : (kind : ℕ) → AddsNothing (mark_of kind)
unfolding mark_of added no_specificity specificity_of
mark-adds kind = pick-holds AddsNothing (is kind star_kind) _ _ (λ _. refl) (λ _. pick-holds AddsNothing (is kind child_kind) _ _ (λ _. refl) (λ _. refl))

module _ (kind : ℕ) (x : List ℕ) where
  -- an element adds a type
  element-adds : kind ≡ element_kind → specificity_of 0 0 1 ≡ added (named_of kind x)
  unfolding named_of added pick is
  element-adds e = rw e

  -- an id adds an id
  hash-adds : kind ≡ hash_kind → specificity_of 1 0 0 ≡ added (named_of kind x)
  unfolding named_of added pick is
  hash-adds e = rw e

  -- any other text a class
  abbrev AddsClass : Component → Type 0
  AddsClass c = specificity_of 0 1 0 ≡ added c

  -- a text that is neither an element's name nor an id adds one to the classes
  class-adds : ¬ (kind ≡ element_kind) → ¬ (kind ≡ hash_kind) → AddsClass (named_of kind x)
  unfolding named_of added
  class-adds no-element no-hash =
      pick-holds AddsClass (is kind class_kind) _ _ (λ _. refl)
      (λ _. rw (is-no kind element_kind no-element, is-no kind hash_kind no-hash) (unfold pick in refl))

-- what is read of it
weight-read : (code : List ℕ) (at n : ℕ) (c : Component) (s : Specificity) → component_at code at ≡ read n c → s ≡ added c → got n s ≡ weight_at code at
unfolding weight_at mapped read_answer
weight-read code at n c s e p = rw (e, p)

-- ---- what a component of one text adds
-- whatever the text is, it adds what its kind does
abbrev Named : ℕ → Specificity → Type 0
Named kind s = (x : List ℕ) → s ≡ added (named_of kind x)

-- what its kind does
pub name-adds : (kind : ℕ) (s : Specificity) → s ≡ name_added kind → Named kind s
name-adds kind s e = λ x. e ∙ by-kind x
  where
    by-kind : (x : List ℕ) → name_added kind ≡ added (named_of kind x)
    by-kind x = go (is kind element_kind) refl (is kind hash_kind) refl
      where
        -- a kind that is another is not this one
        other : (k : ℕ) → is kind k ≡ false → ¬ (kind ≡ k)
        other k f y = never (sym f ∙ is-yes kind k y)

        go : (a : Bool) → is kind element_kind ≡ a → (b : Bool) → is kind hash_kind ≡ b → name_added kind ≡ added (named_of kind x)
        go true p b q = let z : name_added kind ≡ specificity_of 0 0 1 = unfold name_added pick in rw p in z ∙ element-adds kind x (is_true kind element_kind p)
        go false p true q = let z : name_added kind ≡ specificity_of 1 0 0 = unfold name_added pick in rw (p, q) in z ∙ hash-adds kind x (is_true kind hash_kind q)
        go false p false q = let z : name_added kind ≡ specificity_of 0 1 0 = unfold name_added pick in rw (p, q) in z ∙ class-adds kind x (other element_kind p) (other hash_kind q)

-- ---- the returns of `written_weight`
module _ (w : Written) (s : Specificity) where
  -- whatever the bytes are
  abbrev Adds : Type 0
  Adds = (code : List ℕ) → s ≡ added (component_in code w)

  -- star and combinators add nothing to the weight
  pub mark-weight : (kind : ℕ) → w ≡ written.Mark kind → s ≡ nothing → Adds
  unfolding component_in
  mark-weight kind e q = λ code. rw (e, q) (mark-adds kind)

  -- a component of one text adds what its kind adds
  pub name-weight : (kind : ℕ) (x : Span) → w ≡ written.Name kind x → Named kind s → Adds
  unfolding component_in
  name-weight kind x e q = λ code. rw e (q (text_in code x))

  -- an nth-child adds one to the classes
  pub numbers-weight : (a b : ℕ) → w ≡ written.Numbers a b → s ≡ specificity_of 0 1 0 → Adds
  unfolding component_in added
  numbers-weight a b e q = λ code. rw e q

  -- an attribute of a value adds one to the classes
  pub names-weight : (x y : Span) → w ≡ written.Names x y → s ≡ specificity_of 0 1 0 → Adds
  unfolding component_in added
  names-weight x y e q = λ code. rw e q

-- ---- the returns of `read_long_weight`
module _ (code : List ℕ) (at : ℕ) (r : Result (Read Written) Fault) (er : r ≡ read_answer (written_at code at)) where
  -- what is read adds what its bytes say
  pub long-weight : (x : Read Written) → r ≡ Ok x → (s : Specificity) → Adds x.value s → got x.next s ≡ weight_at code at
  long-weight x p s q = weight-read code at x.next (component_in code x.value) s (at_component code at r er x p) (q code)

  -- and what is made of what was read, with the same place behind it
  pub long-made : (x : Read Written) → r ≡ Ok x → (m : Read Specificity) → m.next ≡ x.next → Adds x.value m.value → Ok m ≡ weight_at code at
  long-made x p m e q = ap (λ (n : ℕ). got n m.value) e ∙ long-weight x p m.value q

  -- where no component is read, the fault is at the same place
  pub fault-weight : (f : Fault) → r ≡ Err f → Err f ≡ weight_at code at
  unfolding weight_at mapped read_answer
  fault-weight f p = rw (at-fault code at r er f p)

-- ---- a short component
module _ (code : List ℕ) (at size : ℕ) (short : ShortSize code at size) where
  -- a kind alone adds nothing
  pub short-alone : size ≡ 1 → got (at + 1) nothing ≡ weight_at code at
  unfolding component_in
  short-alone e = weight-read code at (at + 1) _ nothing (component-written code at _ _ (short.alone e)) (mark-adds _)

  -- a kind and a text add what the kind says
  pub short-named : ¬ (size ≡ 1) → (kind : ℕ) → kind ≡ get_or code at 0 → (s : Specificity) → Named kind s → got (at + size) s ≡ weight_at code at
  unfolding component_in
  short-named h kind e s q =
      let more : 1 < size = let z = short.some in omega arith in
      let x : Span = record { start = at + 2; size = size - 2 } in
      weight-read code at (at + size) _ s (component-written code at _ _ (short.named more)) (q (text_in code x) ∙ ap (λ (k : ℕ). added (named_of k (text_in code x))) e)

-- ---- sums
-- brackets do not matter
sum-assoc : (a b c : Specificity) → sum (sum a b) c ≡ sum a (sum b c)
unfolding sum
sum-assoc a b c =
    rw (← or_assoc a.inline b.inline c.inline, add_assoc a.id b.id c.id, add_assoc a.class b.class c.class, add_assoc a.typ b.typ c.typ)

-- a sum whose first part is nothing is its second
sum_first : (s : Specificity) → sum nothing s ≡ s
unfolding sum or
sum_first s = rw (zero-add s.id, zero-add s.class, zero-add s.typ)

-- a sum whose second part is nothing is its first
sum-last : (s : Specificity) → sum s no_specificity ≡ s
unfolding sum no_specificity specificity_of
sum-last s = rw (or-false s.inline false refl, add-zero s.id, add-zero s.class, add-zero s.typ)

-- ---- what was added, with what is left
unfoldable pub weighing : Specificity → Decoded (List Component) → Result (Read Specificity) Fault
weighing s d = read_answer (mapped (λ cs. sum s (specificity cs)) d)

-- nothing was added yet
weighing-begin : (d : Decoded (List Component)) → weighing nothing d ≡ read_answer (mapped specificity d)
unfolding weighing mapped read_answer
weighing-begin (read n cs) = ap (got n) (sum_first (specificity cs))
weighing-begin (fault p) = refl

-- a component before the others is added to what was added before
weighing-more : (s : Specificity) (c : Component) (d : Decoded (List Component)) → weighing (sum s (added c)) d ≡ weighing s (mapped (λ r. c ∷ r) d)
unfolding weighing mapped read_answer specificity
weighing-more s c (read n cs) = ap (got n) (sum-assoc s (added c) (specificity cs))
weighing-more s c (fault p) = refl

module _ (code : List ℕ) (s : Specificity) (i : ℕ) where
  -- where no component is left, what was added is the whole sum
  weighing-end : (left : ℕ) → left ≤ 0 → got i s ≡ weighing s (counted (component_at code) left i)
  unfolding weighing mapped read_answer counted specificity
  weighing-end zero h = ap (got i) (sym (sum-last s))
  weighing-end (suc k) h = absurd (omega arith)

  -- the first of those that are left is read
  weighing-read : (left n : ℕ) (c : Component) → 0 < left → component_at code i ≡ read n c
      → weighing (sum s (added c)) (counted (component_at code) (left - 1) n) ≡ weighing s (counted (component_at code) left i)
  unfolding counted
  weighing-read zero n c h e = absurd (omega arith)
  weighing-read (suc k) n c h e =
      let q : suc k - 1 ≡ k = omega arith in
      rw q (weighing-more s c (counted (component_at code) k n) ∙ sym (ap (weighing s) (then-read (component_at code i) _ n c e)))

  -- it is a fault
  weighing-fault : (left : ℕ) (f : Fault) → 0 < left → component_at code i ≡ fault f.place → Err f ≡ weighing s (counted (component_at code) left i)
  unfolding weighing mapped read_answer counted
  weighing-fault zero f h e = absurd (omega arith)
  weighing-fault (suc k) f h e = sym (ap (weighing s) (then-fault (component_at code i) (λ n c. mapped (λ r. c ∷ r) (counted (component_at code) k n)) f.place e))

-- ---- what an answer says of the reading
module _ {A : Type 0} (f : A → Specificity) (d : Decoded A) (q : Result (Read Specificity) Fault) (eq : q ≡ read_answer (mapped f d)) where
  -- what was read adds up to it
  weight-of : (x : Read Specificity) → q ≡ Ok x → Source f d x.next x.value
  weight-of x e = source f d x.next x.value (answer_read (mapped f d) q eq x e)

  -- a fault was answered: the reading failed at that place
  fault-of : (g : Fault) → q ≡ Err g → d ≡ fault g.place
  unfolding mapped
  fault-of g e = go d (answer-fault (mapped f d) q eq g e)
    where
      go : (d : Decoded A) → mapped f d ≡ fault g.place → d ≡ fault g.place
      go (read m a) z = absurd (cc)
      go (fault r) z = cc

-- ---- the loop of `read_weights`: what was added with what is left is the whole, and no count exceeds the components passed
pub record Adding (code : List ℕ) (at count : ℕ) (s : Specificity) (i left : ℕ) : Type 0 where
  pub total : weighing s (counted (component_at code) left i) ≡ weights_at code count at
  pub ids : s.id + left ≤ count
  pub classes : s.class + left ≤ count
  pub types : s.typ + left ≤ count

-- nothing is added yet
pub add_begin : (code : List ℕ) (at count : ℕ) → Adding code at count nothing at count
unfolding weights_at
add_begin code at count =
    record {
      total = weighing-begin (counted (component_at code) count at);
      ids = omega arith;
      classes = omega arith;
      types = omega arith;
    }

module _ (code : List ℕ) (at count : ℕ) (s : Specificity) (i left : ℕ) (v : Adding code at count s i left) where
  -- where no component is left, the answer is the sum of all components
  pub add-end : left ≤ 0 → got i s ≡ weights_at code count at
  add-end h = weighing-end code s i left h ∙ v.total

  module _ (h : 0 < left) (q : Result (Read Specificity) Fault) (eq : q ≡ weight_at code i) where
    -- a component that is not there ends it
    pub add-fault : (f : Fault) → q ≡ Err f → Err f ≡ weights_at code count at
    unfolding weight_at
    add-fault f e = weighing-fault code s i left f h (fault-of added (component_at code i) q eq f e) ∙ v.total

    module _ (x : Read Specificity) (e : q ≡ Ok x) where
      -- the component that is read
      one : Source added (component_at code i) x.next x.value
      unfolding weight_at
      one = weight-of added (component_at code i) q eq x e

      -- it adds at most one to each count
      few : (x.value.id ≤ 1) × ((x.value.class ≤ 1) × (x.value.typ ≤ 1))
      few = rw one.made (added-few one.value)

      -- the sum can be taken
      pub add-fits : count < 2 ^ 32 → SumFits s x.value
      add-fits l =
          record {
            id-fits = omega (arith, few.0, v.ids);
            class-fits = omega (arith, few.1.0, v.classes);
            type-fits = omega (arith, few.1.1, v.types);
          }

      -- with it added, what is left to add makes the same total
      added-on : Adding code at count (sum s x.value) x.next (left - 1)
      unfolding sum
      added-on =
          record {
            total = ap (λ (y : Specificity). weighing (sum s y) (counted (component_at code) (left - 1) x.next)) one.made ∙ weighing-read code s i left x.next one.value h one.first ∙ v.total;
            ids = omega (arith, few.0, v.ids);
            classes = omega (arith, few.1.0, v.classes);
            types = omega (arith, few.1.1, v.types);
          }

      -- the component that was read is added, and the loop goes on behind it with one fewer left
      pub add-more : (t : Specificity) → t ≡ sum s x.value → Adding code at count t x.next (left - 1)
      add-more t p = rw p added-on

    -- a component that adds nothing leaves the sum as it is
    pub add-none : (n : ℕ) → q ≡ got n nothing → Adding code at count s n (left - 1)
    unfolding no_specificity specificity_of
    add-none n e = subst (λ (t : Specificity). Adding code at count t n (left - 1)) (sum-last s) (added-on (record { next = n; value = nothing }) e)

-- ---- what is read of a selector by its weight
module _ (code : List ℕ) (at count : ℕ) (q : Result (Read Specificity) Fault) (eq : q ≡ weights_at code count at) where
  -- its components, and how specific it is
  pub weights-read : (x : Read Specificity) → q ≡ Ok x → Source specificity (counted (component_at code) count at) x.next x.value
  unfolding weights_at
  weights-read x e = weight-of specificity (counted (component_at code) count at) q eq x e

  -- a component is not there
  pub weights-fault : (f : Fault) → q ≡ Err f → counted (component_at code) count at ≡ fault f.place
  unfolding weights_at
  weights-fault f e = fault-of specificity (counted (component_at code) count at) q eq f e
