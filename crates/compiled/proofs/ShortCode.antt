-- The returns of `short_size`, and what is skipped by it: the readers of a kind and of a text, where each number is one byte.
use mathlib.Core.Path.{◌≡◌, refl, sym, ap, ◌∙◌}
use mathlib.Core.Bool.{true, false}
use mathlib.Core.List.{List}
use Prim.Native.Nat.{ℕ, zero, suc, ◌+◌, ◌-◌, ◌≤◌, ◌<◌}
use native.Mathlib.Omega.{arith}
use lib.ListN.{length, get_or}
use Rattle.combinators.specs.Choice.{or, is}
use Rattle.combinators.proofs.Rules.{either, is_true}
use Rattle.syntax.specs.RuleLayout.{star_kind, class_kind, element_kind, hash_kind, child_kind, descendant_kind, nth_kind, attribute_kind, attribute_equal_kind}
use Rattle.compiled.specs.Number.{group_values}
use Rattle.std.proofs.Common.{Ok}
use Rattle.compiled.specs.Decoded.{read}
use Rattle.compiled.specs.Text.{span_at}
use Rattle.compiled.specs.Component.{is_mark, is_name, name_at, body_at, written_at, component_in, component_at}
use Rattle.compiled.specs.Answer.{read_answer, place_answer, ShortSize}
use Rattle.compiled.specs.declared.places.Read.{Read}
use Rattle.compiled.specs.declared.texts.Span.{Span}
use Rattle.compiled.specs.declared.components.Written.{Written}
use Rattle.compiled.specs.declared.components.Written.TheVariants.{Mark, Name}
use Rattle.compiled.proofs.Answers.{answer_read, mapped_answer, place-mapped}
use Rattle.compiled.proofs.NumberReading.{reading-one, ranged-in}
use Rattle.compiled.proofs.TextCode.{text-there}
use Rattle.compiled.proofs.ComponentCode.{body-mark, body-name, component-read}

-- ---- kinds
-- a kind that stands alone is in its range
mark-small : (kind : ℕ) → is_mark kind ≡ true → kind ≤ attribute_equal_kind
unfolding is_mark
mark-small kind h =
    either _ _ _ h (λ e. let p = is_true kind star_kind e in omega arith)
    (λ h'. either _ _ _ h' (λ e. let p = is_true kind child_kind e in omega arith) (λ e. let p = is_true kind descendant_kind e in omega arith))

-- the kinds of one text
abbrev OneText : ℕ → Type 0
OneText kind = (kind ≤ attribute_kind) × (is_mark kind ≡ false) × ¬ (kind ≡ nth_kind)

-- are in their range, and no others
name-small : (kind : ℕ) → is_name kind ≡ true → OneText kind
unfolding is_name is_mark or is
name-small kind h =
    either _ _ _ h (λ e. of class_kind (is_true kind class_kind e) (omega arith, refl, λ z. omega (arith, z)))
    (λ h₁. either _ _ _ h₁ (λ e. of element_kind (is_true kind element_kind e) (omega arith, refl, λ z. omega (arith, z)))
    (λ h₂. either _ _ _ h₂ (λ e. of hash_kind (is_true kind hash_kind e) (omega arith, refl, λ z. omega (arith, z)))
    (λ e. of attribute_kind (is_true kind attribute_kind e) (omega arith, refl, λ z. omega (arith, z)))))
  where
    of : (k : ℕ) → kind ≡ k → OneText k → OneText kind
    of k e p = rw e p

module _ (t : List ℕ) (i : ℕ) where
  -- ---- by the bytes
  module _ (l : i < length t) (kind : ℕ) (e : kind ≡ get_or t i 0) where
    -- behind a kind of one byte stands what its answer says
    by_kind : kind ≤ attribute_equal_kind → (x : Read Written) → Ok x ≡ read_answer (body_at t kind (i + 1)) → written_at t i ≡ read x.next x.value
    by_kind h x p =
        let k = (reading-one t i kind e l (omega arith) _ refl).0 in
        let o : Read ℕ = record { next = i + 1; value = kind } in
        answer_read (written_at t i) (Ok x) (component-read t i _ (ranged-in t i star_kind attribute_equal_kind _ k o refl (omega arith) h).0 o refl (Ok x) p).0 x refl

    -- a component that is its kind alone has the size 1
    pub short-mark : is_mark kind ≡ true → ShortSize t i 1
    short-mark h =
        record {
          some = omega arith;
          alone = λ _. by_kind (mark-small kind h) (record { next = i + 1; value = Mark kind }) (body-mark t (i + 1) kind h) ∙ ap (λ (k : ℕ). read (i + 1) (Mark k)) e;
          named = λ z. absurd (omega (arith, z));
          there = omega (arith, l);
        }

    -- a kind and a text
    pub short-name : is_name kind ≡ true → (size : ℕ) → size ≡ get_or t (i + 1) 0 → size < group_values → size + 2 ≤ length t - i → ShortSize t i (size + 2)
    unfolding name_at
    short-name h size es small room =
        let k = name-small kind h in
        let n = (reading-one t (i + 1) size es (omega (arith, room)) small _ refl).0 in
        let m : Read ℕ = record { next = i + 1 + 1; value = size } in
        let x = (text-there t (i + 1) _ n m refl (omega (arith, room)) (omega (arith, room))).0 in
        let y : Read Span = record { next = i + 1 + 1 + size; value = record { start = i + 1 + 1; size = size } } in
        let b = mapped_answer (λ z. Name kind z) (span_at t (i + 1)) (Ok y) x y refl in
        let z = body-name t (i + 1) kind k.1 _ k.2 (λ q. omega (arith, q, k.0)) b in
        let behind : i + 1 + 1 + size ≡ i + (size + 2) = omega arith in
        let start : i + 1 + 1 ≡ i + 2 = omega arith in
        let rest : size ≡ size + 2 - 2 = omega arith in
        record {
          some = omega arith;
          alone = λ q. absurd (omega (arith, q));
          named = λ _. by_kind (omega (arith, k.0)) (record { next = i + 1 + 1 + size; value = Name kind (record { start = i + 1 + 1; size = size }) }) z ∙ same e behind start rest;
          there = room;
        }
      where
        same : {a b c d a' b' c' d' : ℕ} → b ≡ b' → a ≡ a' → c ≡ c' → d ≡ d'
            → read a (Name b (record { start = c; size = d })) ≡ read a' (Name b' (record { start = c'; size = d' }))
        same p q r s = rw (p, q, r, s)

-- ---- the return of `skip_component`
-- a component that was read is passed over
passed : (t : List ℕ) (i n : ℕ) (w : Written) → written_at t i ≡ read n w → Ok n ≡ place_answer (component_at t i)
unfolding component_at place_answer
passed t i n w e = sym (place-mapped (component_in t) (written_at t i) ∙ ap place_answer e)

-- a short component is passed over by its size
pub short-skipped : (t : List ℕ) (i r : ℕ) → ShortSize t i r → Ok (i + r) ≡ place_answer (component_at t i)
short-skipped t i zero s = absurd (let h = s.some in omega arith)
short-skipped t i (suc zero) s = passed t i _ _ (s.alone refl)
short-skipped t i (suc (suc k)) s = passed t i _ _ (s.named (omega arith))
