-- One component at a row as code meets it: whether a test passes, and what a component in compiled bytes is.
use Prim.Native.Nat.{ℕ, ◌+◌, ◌-◌, ◌<◌}
use mathlib.Core.Path.{◌≡◌, refl, sym, ap, ◌∙◌}
use mathlib.Core.Bool.{Bool, true, false}
use mathlib.Core.List.{List, [], ◌∷◌}
use native.Mathlib.Omega.{arith}
use lib.ListN.{get_or}
use Rattle.combinators.specs.Choice.{pick, and, is}
use Rattle.combinators.specs.Part.{part}
use Rattle.combinators.specs.Word.{same_text}
use Rattle.combinators.proofs.Rules.{pick-holds, and_right, is-no, and_yes}
use Rattle.syntax.specs.RuleLayout.{star_kind, class_kind, element_kind, hash_kind, child_kind}
use Rattle.syntax.specs.Selector.{Component, star, child, descendant, nth, attribute_equal}
use Rattle.syntax.specs.Signed.{signed_of}
use Rattle.page.specs.Path.{Attribute, Element, Path}
use Rattle.matching.specs.Matches.{any_attribute, is_class, is_id, is_named, first_is, has_class, has_id, has_attribute, attribute_is, name_is, here, step}
use Rattle.matching.specs.Nth.{nth_matches}
use Rattle.std.proofs.Common.{Option, Some, None, Result, Ok, Err}
use Rattle.std.specs.Result.{result_ok}
use Rattle.compiled.specs.Decoded.{read, on_decoded, mapped}
use Rattle.compiled.specs.Text.{text_in}
use Rattle.compiled.specs.Component.{written_at, mark_of, named_of, component_in, component_at}
use Rattle.compiled.specs.Answer.{read_answer, ShortSize}
use Rattle.compiled.specs.declared.places.Fault.{Fault}
use Rattle.compiled.specs.declared.places.Read.{Read}
use Rattle.compiled.specs.declared.texts.Span.{Span}
use Rattle.compiled.specs.declared.components.Written.{Written}
use Rattle.compiled.specs.declared.components.Written.TheVariants as written
use Rattle.compiled.proofs.Answers.{answer_read, answer-fault}
use Rattle.compiled.proofs.Following.{mapped-read}
use Rattle.compiled.proofs.Walking.{at_component, at-fault, component-written}
use Rattle.segments.specs.Segments.{test, piece, tested}
use Rattle.segments.specs.Sweep.{on_piece, piece_at}
use Rattle.std.specs.Borrow.{Bor}
use Rattle.sweeps.specs.Met.{handed_element, handed, row_alone, met_of, met_at, mark_met, Nameless, NamedAt}
use Rattle.sweeps.specs.declared.elements.Handed.{Handed}
use Rattle.sweeps.specs.declared.pieces.Met.{Met}
use Rattle.sweeps.specs.declared.pieces.NameAt.{NameAt}
use Rattle.sweeps.specs.declared.pieces.Met.TheVariants as met

-- ---- an answer without its fault
-- what is left was answered
pub kept : {A : Type 0} (r : Result A Fault) (o : Option A) → o ≡ result_ok r → (x : A) → o ≡ Some x → r ≡ Ok x
kept (Ok y) o e x q = cc
kept (Err f) o e x q = absurd (cc)

-- where nothing is, a fault was
pub dropped : {A : Type 0} (r : Result A Fault) (o : Option A) → o ≡ result_ok r → o ≡ None → (P : Type 0) → ((f : Fault) → r ≡ Err f → P) → P
dropped (Ok y) o e q P g = absurd (cc)
dropped (Err f) o e q P g = g f refl

-- ---- the returns of `name_passes`
module _ (e : Handed) (x : List ℕ) (kind : ℕ) where
  -- what an element is asked for
  abbrev Passes : Bool → Type 0
  Passes r = r ≡ tested (handed e ∷ []) (named_of kind x)

  -- of an element's name it is asked whether it is the text
  pub name-asked : kind ≡ element_kind → (r : Bool) → r ≡ same_text e.name.now x → Passes r
  unfolding tested handed handed_element named_of step here name_is pick is
  name-asked k r p = rw k (p ∙ sym (and_yes _))

  -- of a class it is asked whether some attribute of the row has it
  pub class-asked : kind ≡ class_kind → (a : List Attribute) → a ≡ (handed e).attributes → (r : Bool) → r ≡ any_attribute (is_class x) a → Passes r
  unfolding tested named_of step here has_class pick is
  class-asked k a q r p = rw k (p ∙ ap (any_attribute (is_class x)) q ∙ sym (and_yes _))

  -- of an id it is asked whether some attribute of the row is it
  pub id-asked : kind ≡ hash_kind → (a : List Attribute) → a ≡ (handed e).attributes → (r : Bool) → r ≡ any_attribute (is_id x) a → Passes r
  unfolding tested named_of step here has_id pick is
  id-asked k a q r p = rw k (p ∙ ap (any_attribute (is_id x)) q ∙ sym (and_yes _))

  -- of any other kind it is asked whether some attribute has that name
  pub attribute-asked : ¬ (kind ≡ element_kind) → ¬ (kind ≡ class_kind) → ¬ (kind ≡ hash_kind)
      → (a : List Attribute) → a ≡ (handed e).attributes → (r : Bool) → r ≡ any_attribute (is_named x) a → Passes r
  unfolding tested named_of step here has_attribute pick
  attribute-asked no-element no-class no-hash a q r p = rw (is-no kind class_kind no-class, is-no kind element_kind no-element, is-no kind hash_kind no-hash) (p ∙ ap (any_attribute (is_named x)) q ∙ sym (and_yes _))

-- ---- tests
-- a component is a test
abbrev pub IsTest : Component → Type 0
IsTest c = piece c ≡ test c

-- one of one text is
pub named-test : (kind : ℕ) (x : List ℕ) → IsTest (named_of kind x)
unfolding named_of piece
named-test kind x =
    pick-holds IsTest (is kind class_kind) _ _ (λ _. refl)
    (λ _. pick-holds IsTest (is kind element_kind) _ _ (λ _. refl) (λ _. pick-holds IsTest (is kind hash_kind) _ _ (λ _. refl) (λ _. refl)))

-- the document does not pass
abbrev FailsThere : Component → Type 0
FailsThere c = tested [] c ≡ false

-- it passes no component of one text
named-fails : (kind : ℕ) (x : List ℕ) → FailsThere (named_of kind x)
unfolding named_of tested step here and
named-fails kind x =
    pick-holds FailsThere (is kind class_kind) _ _ (λ _. refl)
    (λ _. pick-holds FailsThere (is kind element_kind) _ _ (λ _. refl) (λ _. pick-holds FailsThere (is kind hash_kind) _ _ (λ _. refl) (λ _. refl)))

-- the document fails every nth-child
nth-fails : (a b : ℕ) → FailsThere (nth (signed_of a) (signed_of b))
unfolding tested step here and
nth-fails a b = refl

-- and every attribute of a value
equal-fails : (x y : List ℕ) → FailsThere (attribute_equal x y)
unfolding tested step here and
equal-fails x y = refl

-- an element passes an nth-child by its place
nth-tested : (a b : ℕ) (e : Element) → nth_matches (signed_of a) (signed_of b) e.place ≡ tested (e ∷ []) (nth (signed_of a) (signed_of b))
unfolding tested step here
nth-tested a b e = sym (and_yes _)

-- and an attribute of a value by its attributes
equal-tested : (x y : List ℕ) (e : Element) → first_is x y e.attributes ≡ tested (e ∷ []) (attribute_equal x y)
unfolding tested step here attribute_is
equal-tested x y e = sym (and_yes _)

-- ---- what a component is for a row
-- what is read of it
met-read : (code : List ℕ) (row : Path) (ok : Bool) (at n : ℕ) (c : Component) → component_at code at ≡ read n c → met_at code row ok at ≡ Some (met_of row ok n (piece c))
unfolding met_at piece_at mapped on_decoded
met-read code row ok at n c e = rw e

-- a component that is a test is met as one, and passes if all before it did and it does
met-test : (row : Path) (ok : Bool) (n : ℕ) (c : Component) → IsTest c → met_of row ok n (piece c) ≡ met.Test n (and ok (tested row c))
unfolding met_of on_piece
met-test row ok n c u = rw u

-- what is its kind alone
mark-is : (row : Path) (ok : Bool) (n : ℕ) (a b : Bool)
    → pick a (met.Test n ok) (pick b (met.Child n) (met.Descendant n)) ≡ met_of row ok n (piece (pick a star (pick b child descendant)))
unfolding met_of on_piece piece pick tested step
mark-is row ok n true b = ap (met.Test n) (sym (and_yes ok))
mark-is row ok n false true = refl
mark-is row ok n false false = refl

-- a test that the document fails
failed : (ok : Bool) (c : Component) → FailsThere c → false ≡ and ok (tested [] c)
failed ok c e = sym (and_right ok (tested [] c) e)

-- ---- what the bytes of a component say
module _ (code : List ℕ) (row : Path) (ok : Bool) (at : ℕ) where
  -- what is to be returned
  abbrev Is : Option Met → Type 0
  Is p = p ≡ met_at code row ok at

  module _ (n : ℕ) (w : Written) (e : component_at code at ≡ read n (component_in code w)) where
    -- a test that comes to b with those before it
    test-is : IsTest (component_in code w) → (b : Bool) → b ≡ and ok (tested row (component_in code w)) → Is (Some (met.Test n b))
    test-is u b p = ap Some (ap (met.Test n) p ∙ sym (met-test row ok n (component_in code w) u)) ∙ sym (met-read code row ok at n (component_in code w) e)

    -- a component that is its kind alone is met as star, child step or descendant step
    mark-met : (kind : ℕ) → w ≡ written.Mark kind → (q : Met) → q ≡ mark_met n kind ok → Is (Some q)
    unfolding mark_met mark_of component_in
    mark-met kind k q eq =
        ap Some (eq ∙ mark-is row ok n (is kind star_kind) (is kind child_kind)) ∙ sym (met-read code row ok at n (mark_of kind) (e ∙ ap (λ (z : Written). read n (component_in code z)) k))

-- at the document any other is met as a test that fails
document-met : (code : List ℕ) (ok : Bool) (at n : ℕ) (w : Written) → component_at code at ≡ read n (component_in code w) → ((k : ℕ) → ¬ (w ≡ written.Mark k))
    → Some (met.Test n false) ≡ met_at code [] ok at
unfolding component_in piece
document-met code ok at n (written.Mark k) e h = absurd (h k refl)
document-met code ok at n (written.Name k x) e h = test-is code [] ok at n (written.Name k x) e (named-test k _) false (failed ok _ (named-fails k _))
document-met code ok at n (written.Numbers a b) e h = test-is code [] ok at n (written.Numbers a b) e refl false (failed ok _ (nth-fails a b))
document-met code ok at n (written.Names x y) e h = test-is code [] ok at n (written.Names x y) e refl false (failed ok _ (equal-fails _ _))

-- ---- the returns of `pass_long` and `test_other`
module _ (code : List ℕ) (row : Path) (ok : Bool) (at : ℕ) (r : Result (Read Written) Fault) (er : r ≡ read_answer (written_at code at)) where
  pub mark-read : (x : Read Written) → r ≡ Ok x → (kind : ℕ) → x.value ≡ written.Mark kind → (q : Met) → q ≡ mark_met x.next kind ok → Some q ≡ met_at code row ok at
  mark-read x p kind k q eq = mark-met code row ok at x.next x.value (at_component code at r er x p) kind k q eq

  -- where no component reads, none is met
  pub fault-read : (f : Fault) → r ≡ Err f → None ≡ met_at code row ok at
  unfolding met_at piece_at mapped on_decoded
  fault-read f p = rw (at-fault code at r er f p)

-- that of `pass_long`
pub unmarked-passed : (code : List ℕ) (ok : Bool) (at : ℕ) (r : Result (Read Written) Fault) → r ≡ read_answer (written_at code at) → (x : Read Written) → r ≡ Ok x
    → ((k : ℕ) → ¬ (x.value ≡ written.Mark k)) → Some (met.Test x.next false) ≡ met_at code [] ok at
unmarked-passed code ok at r er x p h = document-met code ok at x.next x.value (at_component code at r er x p) h

-- those of `test_other`
module _ (code : List ℕ) (y : Element) (at : ℕ) (r : Result (Read Written) Fault) (er : r ≡ read_answer (written_at code at)) (x : Read Written) (p : r ≡ Ok x) where
  -- at an element an nth-child is met as a test of its place
  pub numbers-tested : (a b : ℕ) → x.value ≡ written.Numbers a b → (t : Bool) → t ≡ nth_matches (signed_of a) (signed_of b) y.place
      → Some (met.Test x.next t) ≡ met_at code (y ∷ []) true at
  unfolding and component_in piece
  numbers-tested a b k t et =
      test-is code (y ∷ []) true at x.next (written.Numbers a b) (at_component code at r er x p ∙ ap (λ (z : Written). read x.next (component_in code z)) k) refl t (et ∙ nth-tested a b y)

  -- and an attribute of a value as the test of its two texts
  pub names-tested : (a b : Span) → x.value ≡ written.Names a b → (w : List ℕ) → w ≡ part code a.start a.size → (v : List ℕ) → v ≡ part code b.start b.size
      → (t : Bool) → t ≡ first_is w v y.attributes → Some (met.Test x.next t) ≡ met_at code (y ∷ []) true at
  unfolding and component_in piece text_in
  names-tested a b k w ew v ev t et =
      test-is code (y ∷ []) true at x.next (written.Names a b) (at_component code at r er x p ∙ ap (λ (z : Written). read x.next (component_in code z)) k) refl t
      (rw (← ew, ← ev) (et ∙ equal-tested w v y))

  -- it has not one text
  pub name-absent : Nameless code at → (kind : ℕ) (z : Span) → x.value ≡ written.Name kind z → ⊥
  unfolding Nameless
  name-absent f kind z k = f x.next kind z (answer_read (written_at code at) r er x p ∙ ap (λ (w : Written). read x.next w) k)

-- ---- those of `pass_met`, of a short component
module _ (code : List ℕ) (at size : ℕ) (short : ShortSize code at size) where
  -- a text is passed over
  pub short-passed : (ok : Bool) → ¬ (size ≡ 1) → Some (met.Test (at + size) false) ≡ met_at code [] ok at
  short-passed ok h =
      let more : 1 < size = let z = short.some in omega arith in
      document-met code ok at (at + size) _ (component-written code at _ _ (short.named more)) (λ k q. absurd (cc))

  -- a short component that is its kind alone is met as star, child step or descendant step
  pub short-mark : (ok : Bool) → size ≡ 1 → (kind : ℕ) → kind ≡ get_or code at 0 → (q : Met) → q ≡ mark_met (at + 1) kind ok → Some q ≡ met_at code [] ok at
  short-mark ok h kind e q p =
      mark-met code [] ok at (at + 1) _ (component-written code at _ _ (short.alone h)) kind (ap written.Mark (sym e)) q p

-- ---- those of `name_at`
module _ (code : List ℕ) (at : ℕ) where
  -- a short component of more than one byte is one of a text, which begins two bytes on
  pub short-name : (size : ℕ) → ShortSize code at size → 1 < size → (kind : ℕ) → kind ≡ get_or code at 0
      → NamedAt code at (Some (record { next = at + size; kind = kind; text = record { start = at + 2; size = size - 2 } }))
  unfolding NamedAt
  short-name size short h kind e = rw e (short.named h)

  module _ (r : Result (Read Written) Fault) (er : r ≡ read_answer (written_at code at)) where
    -- a component that is answered with one text is there as told
    pub long-name : (x : Read Written) → r ≡ Ok x → (kind : ℕ) (z : Span) → x.value ≡ written.Name kind z → NamedAt code at (Some (record { next = x.next; kind = kind; text = z }))
    unfolding NamedAt
    long-name x p kind z k = answer_read (written_at code at) r er x p ∙ ap (λ (w : Written). read x.next w) k

    -- any other is no component of one text
    pub unnamed : (x : Read Written) → r ≡ Ok x → ((kind : ℕ) (z : Span) → ¬ (x.value ≡ written.Name kind z)) → NamedAt code at None
    unfolding NamedAt Nameless
    unnamed x p h n kind z e = h kind z (let k = answer_read (written_at code at) r er x p in cc)

    -- nor is a fault
    pub fault-unnamed : (f : Fault) → r ≡ Err f → NamedAt code at None
    unfolding NamedAt Nameless
    fault-unnamed f p n kind z e = let k = answer-fault (written_at code at) r er f p in absurd (cc)

-- ---- that of `test_met`
-- a text is tested
pub named-tested : (code : List ℕ) (y : Element) (at : ℕ) (r : Option NameAt) → NamedAt code at r → (x : NameAt) → r ≡ Some x
    → (w : List ℕ) → w ≡ part code x.text.start x.text.size → (b : Bool) → b ≡ tested (y ∷ []) (named_of x.kind w) → Some (met.Test x.next b) ≡ met_at code (y ∷ []) true at
unfolding NamedAt and component_at component_in text_in
named-tested code y at r h x p w ew b eb =
    let k : written_at code at ≡ read x.next (written.Name x.kind x.text) = rw p at h in
    test-is code (y ∷ []) true at x.next (written.Name x.kind x.text) (mapped-read (component_in code) (written_at code at) _ _ k) (named-test x.kind _) b
    (eb ∙ ap (λ (v : List ℕ). tested (y ∷ []) (named_of x.kind v)) ew)

-- where none is told of
pub nameless : (code : List ℕ) (at : ℕ) (r : Option NameAt) → NamedAt code at r → r ≡ None → Nameless code at
unfolding NamedAt
nameless code at r h p = rw p at h

-- ---- the returns of `read_met`
module _ (code : List ℕ) (at : ℕ) where
  -- where the tests so far have failed, the row does not matter
  all-failed : (row : Path) → met_at code [] false at ≡ met_at code row false at
  unfolding met_at met_of and
  all-failed row = refl

  -- an element that has passed so far is asked
  pub met-asked : (el : Option (Bor Handed)) (x : Bor Handed) → el ≡ Some x → (ok : Bool) → ok ≡ true → (r : Option Met) → r ≡ met_at code (handed x.now ∷ []) true at → r ≡ met_at code (row_alone el) ok at
  unfolding row_alone
  met-asked el x e ok t r p = rw (e, t) p

  -- where it has not, or on the document, no test passes
  pub met-passed : (el : Option (Bor Handed)) (ok : Bool) → (ok ≡ true → (x : Bor Handed) → ¬ (el ≡ Some x)) → (r : Option Met) → r ≡ met_at code [] ok at → r ≡ met_at code (row_alone el) ok at
  unfolding row_alone
  met-passed (Some x) true e r p = absurd (e refl x refl)
  met-passed None true e r p = p
  met-passed el false e r p = p ∙ all-failed (row_alone el)
