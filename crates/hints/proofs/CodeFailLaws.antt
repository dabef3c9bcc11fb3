-- A test that surely fails: its kind, the length of its text and the first byte of it are read from the bytes, and a hint excludes it.
use Prim.Native.Nat.{ℕ, suc, ◌+◌, ◌≤◌, ◌<◌}
use mathlib.Core.Path.{◌≡◌, refl, sym, ap, subst, ◌∙◌}
use mathlib.Core.Bool.{Bool, true, false}
use mathlib.Core.List.{List, [], ◌∷◌}
use native.Mathlib.Omega.{arith}
use borrow.Author.Tests.{leb-true}
use lib.Dec.{leb}
use lib.ListN.{length, get_or, drop}
use lib.Seq.{get_or-take}
use Rattle.combinators.specs.Choice.{pick, or, and, is}
use Rattle.combinators.specs.Part.{part}
use Rattle.combinators.proofs.Rules.{never, either, is_true, within-yes}
use Rattle.combinators.proofs.Lists.{first}
use Rattle.combinators.proofs.Parts.{length_part}
use Rattle.syntax.specs.RuleLayout.{star_kind, class_kind, element_kind, hash_kind, attribute_kind, attribute_equal_kind}
use Rattle.page.specs.Path.{Path}
use Rattle.compiled.specs.Decoded.{Decoded, read, fault, on_decoded, and_then, mapped}
use Rattle.compiled.specs.Number.{group_values, number_at, ranged_at}
use Rattle.compiled.specs.Text.{span_at, text_in}
use Rattle.compiled.specs.declared.texts.Span.{Span}
use Rattle.compiled.specs.Component.{is_mark, is_name, name_at, body_at, written_at, named_of, component_in, component_at}
use Rattle.compiled.specs.declared.components.Written.TheVariants.{Name}
use Rattle.compiled.proofs.Answers.{got, answer_read}
use Rattle.compiled.proofs.Following.{then-read}
use Rattle.compiled.proofs.NumberReading.{reading-one}
use Rattle.segments.specs.Segments.{piece, tested}
use Rattle.segments.specs.Sweep.{on_piece, piece_at, tests_pass}
use Rattle.hints.specs.Hints.{FailsAt, NameFails, TestFails}
use Rattle.hints.specs.declared.hints.Hint.{Hint}
use Rattle.sweeps.proofs.CodePieceLaws.{named-test}

-- ---- parts of the bytes
module _ (store : List ℕ) (a n : ℕ) where
  -- and begins with the byte that it begins at
  pub part-first : 0 < n → get_or (part store a n) 0 0 ≡ get_or store a 0
  unfolding part
  part-first h = get_or-take n (drop a store) 0 0 h ∙ first store a

-- ---- kinds of one text
-- behind such a kind a text is read
abbrev pub Named : ℕ → Type 0
Named kind = (code : List ℕ) (n : ℕ) → body_at code kind n ≡ name_at code kind n

-- a type selector, a class, an id and an attribute have one
element-named : Named element_kind
unfolding body_at is_mark pick or is
element-named code n = refl

-- of a class: one text is read behind its kind
class-named : Named class_kind
unfolding body_at is_mark pick or is
class-named code n = refl

-- of an id: one text is read behind its kind
hash-named : Named hash_kind
unfolding body_at is_mark pick or is
hash-named code n = refl

-- of an attribute: one text is read behind its kind
attribute-named : Named attribute_kind
unfolding body_at is_mark pick or is
attribute-named code n = refl

-- so one of them has
module _ (kind : ℕ) where
  -- by which it is
  kind-is : (k : ℕ) → Named k → k ≤ attribute_kind → is kind k ≡ true → Named kind × (kind ≤ attribute_kind)
  kind-is k n l e = subst (λ (m : ℕ). Named m × (m ≤ attribute_kind)) (sym (is_true kind k e)) (n, l)

  -- a kind of one text is read as such, and is no greater than that of attributes
  pub name-kind : is_name kind ≡ true → Named kind × (kind ≤ attribute_kind)
  unfolding is_name
  name-kind e =
      either _ _ _ e (kind-is class_kind class-named (omega arith))
      (λ f. either _ _ _ f (kind-is element_kind element-named (omega arith))
      (λ g. either _ _ _ g (kind-is hash_kind hash-named (omega arith)) (kind-is attribute_kind attribute-named (omega arith))))

module _ (code : List ℕ) where
  -- ---- what is read
  -- a byte without its top bit is the number
  pub number-one : (i v : ℕ) → i < length code → get_or code i 0 ≡ v → v < group_values → number_at code i ≡ read (i + 1) v
  number-one i v l e h = answer_read (number_at code i) (got (i + 1) v) (reading-one code i v (sym e) l h _ refl).0 (record { next = i + 1; value = v }) refl

  -- a text whose length is such a byte lies behind it
  span-one : (i v : ℕ) → i < length code → get_or code i 0 ≡ v → v < group_values → (n : ℕ) (x : Span) → span_at code i ≡ read n x
      → (x ≡ record { start = i + 1; size = v }) × (i + 1 + v ≤ length code)
  unfolding span_at
  span-one i v l e h n x p =
      go (leb (i + 1 + v) (length code)) refl
      (sym (then-read (number_at code i) (λ m k. pick (leb (m + k) (length code)) (read (m + k) (record { start = m; size = k })) (fault i)) (i + 1) v (number-one i v l e h)) ∙ p)
    where
      go : (t : Bool) → leb (i + 1 + v) (length code) ≡ t → pick t (read (i + 1 + v) (record { start = i + 1; size = v })) (fault i) ≡ read n x
          → (x ≡ record { start = i + 1; size = v }) × (i + 1 + v ≤ length code)
      go true f q = unfold pick in (cc, leb-true _ _ f)
      go false f q = unfold pick in never cc

  module _ (at kind : ℕ) (named : Named kind) (l : at < length code) (k : get_or code at 0 ≡ kind) where
    -- the kind of a component of one text
    kind-read : kind ≤ attribute_kind → ranged_at code at star_kind attribute_equal_kind ≡ read (at + 1) kind
    unfolding ranged_at and_then pick
    kind-read h = rw (number-one at kind l k (omega arith), within-yes kind star_kind attribute_equal_kind (omega arith) (omega arith))

    -- behind it stands the text
    pub name-read : kind ≤ attribute_kind → component_at code at ≡ mapped (component_in code) (name_at code kind (at + 1))
    unfolding component_at written_at and_then
    name-read h = rw (kind-read h, named code (at + 1))

    -- tests that begin with it do not pass where it does not, nor where the bytes break off in it
    name-fails : kind ≤ attribute_kind → (row : Path) → ((n : ℕ) (x : Span) → span_at code (at + 1) ≡ read n x → false ≡ tested row (named_of kind (text_in code x)))
        → (t : ℕ) → tests_pass code row (suc t) at ≡ false
    unfolding tests_pass piece_at name_at
    name-fails h row f t = rw (name-read h) (go (span_at code (at + 1)) f)
      where
        go : (d : Decoded Span) → ((n : ℕ) (x : Span) → d ≡ read n x → false ≡ tested row (named_of kind (text_in code x)))
            → on_decoded (mapped piece (mapped (component_in code) (mapped (λ x. Name kind x) d)))
            (λ n x. on_piece x (λ c. and (tested row c) (tests_pass code row t n)) (λ _. false) (λ _. false)) (λ _. false) ≡ false
        go (read n x) g = unfold mapped on_decoded component_in on_piece and in rw (named-test kind (text_in code x), ← g n x refl)
        go (fault p) g = unfold mapped on_decoded in refl

  -- ---- the return of `test_fails`
  -- by the kind, the length and the first byte that are read
  pub test-fails : (h : Hint) (at kind size byte : ℕ) → at + 2 < length code → kind ≡ get_or code at 0 → size ≡ get_or code (at + 1) 0 → byte ≡ get_or code (at + 2) 0
      → 0 < size → size < group_values → NameFails h kind size byte → TestFails code at h
  unfolding text_in
  test-fails h at kind size byte l ek es eb some few f =
      let two : at + 1 + 1 ≡ at + 2 = omega arith in
      record {
        there = omega (arith, l);
        fails = λ e fit t.
            let at_element : FailsAt e kind size byte = f e fit in
            let n = name-kind kind at_element.named in
            name-fails at kind n.0 (omega (arith, l)) (sym ek) n.1 (e ∷ [])
            (λ m x p. let q = span-one (at + 1) size (omega (arith, l)) (sym es) few m x p in
            sym (at_element.fails (text_in code x) (ap (λ (y : Span). length (text_in code y)) q.0 ∙ length_part code (at + 1 + 1) size q.1)
            (ap (λ (y : Span). get_or (text_in code y) 0 0) q.0 ∙ part-first code (at + 1 + 1) size some ∙ ap (λ (i : ℕ). get_or code i 0) two ∙ sym eb))) t;
      }
