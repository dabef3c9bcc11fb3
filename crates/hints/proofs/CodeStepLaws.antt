-- Tests that are passed over by their first bytes, the child step behind them, and a segment of two compounds of which the right one may not end here and the left one surely fails.
use Prim.Native.Nat.{ℕ, suc, ◌+◌, ◌-◌, ◌≤◌, ◌<◌}
use mathlib.Core.Path.{◌≡◌, refl, sym, ap, ◌∙◌}
use mathlib.Core.Bool.{Bool, true, false}
use mathlib.Core.List.{List, [], ◌∷◌}
use native.Mathlib.Omega.{arith}
use lib.ListN.{length, get_or}
use Rattle.combinators.specs.Choice.{pick, or, and, is}
use Rattle.combinators.proofs.Rules.{never, and_right, within-yes}
use Rattle.syntax.specs.Layout.{flag, flag_of}
use Rattle.syntax.specs.RuleLayout.{star_kind, child_kind, nth_kind, attribute_equal_kind}
use Rattle.syntax.specs.Selector.{Component, nth}
use Rattle.syntax.specs.Signed.{signed_of}
use Rattle.page.specs.Path.{Path}
use Rattle.compiled.specs.Decoded.{read, on_decoded, and_then, mapped}
use Rattle.compiled.specs.Number.{group_values, ranged_at}
use Rattle.compiled.specs.Text.{text_in}
use Rattle.compiled.specs.Component.{is_mark, numbers_at, body_at, written_at, mark_of, named_of, component_in, component_at}
use Rattle.compiled.proofs.Following.{mapped-read}
use Rattle.segments.specs.Segments.{Piece, test, direct, piece, tested}
use Rattle.segments.specs.Sweep.{pair_at, pair_bytes, on_piece, piece_at, tests_pass, compound_at, with_tests, mark_bytes, marked_tests, sweep_at}
use Rattle.segments.specs.Visits.{decided}
use Rattle.sweeps.specs.Swept.{swept_one, swept_behind}
use Rattle.hints.specs.Hints.{TestFails, TestsFail}
use Rattle.std.proofs.Common.{Option, Some, None}
use Rattle.std.specs.Bool.{then_some}
use Rattle.std.specs.Option.{IfSome, MatchOption}
use Rattle.compiled.specs.Answer.{ShortSize}
use Rattle.hints.specs.Skipping.{TestThere, BehindChild, BehindStep, StepFails}
use Rattle.hints.specs.declared.hints.Hint.{Hint}
use Rattle.sweeps.specs.declared.sweeping.Behind.TheVariants.{Leftmost, Others}
use Rattle.sweeps.specs.declared.sweeping.Swept.{Swept}
use Rattle.hints.proofs.CodeFailLaws.{number-one}
use Rattle.sweeps.proofs.CodePartLaws.{tests-some}
use Rattle.sweeps.proofs.CodePieceLaws.{named-test}
use Rattle.sweeps.proofs.CodeSweepLaws.{one-compound, one-mark, sweep-step}
use Rattle.visits.proofs.CodeVisitLaws.{fails-some, some_tests}

-- where what is asked of an option holds, there is what it is asked of
pub asked : {A : Type 0} (Q P : A → Type 0) (r : Option A) (b : Bool) → IfSome r Q → MatchOption r (b ≡ false) P → b ≡ true → (x : A) × Q x × P x
asked Q P (Some x) b q p t = (x, q, p)
asked Q P None b q p t = never (sym p ∙ t)

module _ (code : List ℕ) where
  -- ---- the returns of `test_size`
  -- a short component that is more than its kind is one of one text
  short-read : (at size : ℕ) → ShortSize code at size → 1 < size → component_at code at ≡ read (at + size) (named_of (get_or code at 0) (text_in code (record { start = at + 2; size = size - 2 })))
  unfolding component_at component_in
  short-read at size s more = mapped-read (component_in code) (written_at code at) _ _ (s.named more)

  -- which is a test
  test-short : (at size : ℕ) → ShortSize code at size → 1 < size → TestThere code at size
  unfolding piece_at mapped on_decoded
  test-short at size s more =
      let asks = named_of (get_or code at 0) (text_in code (record { start = at + 2; size = size - 2 })) in
      record {
        some = omega (arith, more);
        asks = asks;
        told = rw (short-read at size s more) (ap (λ (x : Piece). read (at + size) x) (named-test (get_or code at 0) _));
        inside = (let l = s.there in let m = s.some in omega arith);
      }

  -- so is what is kept of a size
  pub size-kept : (at : ℕ) (r f : Option ℕ) (Kept : ℕ → Bool → Type 0) → ((x : ℕ) (b : Bool) → Kept x b → b ≡ true → 1 < x) → IfSome r (λ size. ShortSize code at size)
      → MatchOption r (f ≡ None) (λ x. (b : Bool) × Kept x b × (f ≡ then_some b x)) → IfSome f (λ size. TestThere code at size)
  size-kept at (Some x) f Kept more s (true, k, e) = rw e (test-short at x s (more x true k refl))
  size-kept at (Some x) f Kept more s (false, k, e) = rw e tt
  size-kept at None f Kept more s e = rw e tt

  -- and what is told by a condition
  pub size-if : (P : ℕ → Type 0) (x : ℕ) (t : Bool) (r : Option ℕ) → r ≡ then_some t x → (t ≡ true → P x) → IfSome r P
  size-if P x true r e p = rw e (p refl)
  size-if P x false r e p = rw e tt

  -- an nth-child whose numbers are bytes without their top bits is a test too
  pub nth-there : (at a b : ℕ) → at + 2 < length code → get_or code at 0 ≡ nth_kind → a ≡ get_or code (at + 1) 0 → a < group_values → b ≡ get_or code (at + 2) 0 → b < group_values → TestThere code at 3
  unfolding piece_at component_at written_at ranged_at and_then body_at is_mark numbers_at component_in piece mapped pick or is
  nth-there at a b l k ea fa eb fb =
      let x : at + 2 ≡ at + 1 + 1 = omega arith in
      let y : at + 1 + 1 + 1 ≡ at + 3 = omega arith in
      let c : get_or code (at + 1 + 1) 0 ≡ b = ap (λ (i : ℕ). get_or code i 0) (sym x) ∙ sym eb in
      record {
        some = omega arith;
        asks = nth (signed_of a) (signed_of b);
        told = rw (
          number-one code at nth_kind (omega (arith, l)) k (omega arith),
          within-yes nth_kind star_kind attribute_equal_kind (omega arith) (omega arith),
          number-one code (at + 1) a (omega (arith, l)) (sym ea) fa,
          number-one code (at + 1 + 1) b (omega (arith, l)) c fb,
          y,
        );
        inside = omega (arith, l);
      }

  -- ---- the returns of `tests_fail`
  module _ (h : Hint) (at tests : ℕ) where
    -- where the first test fails, the tests do not all pass
    pub by_first : 0 < tests → TestFails code at h → TestsFail code at tests h
    by_first s f =
        let d : tests ≡ suc (tests - 1) = omega arith in
        record { there = f.there; fails = λ e fit. ap (λ (n : ℕ). tests_pass code (e ∷ []) n at) d ∙ f.fails e fit (tests - 1) }

    -- where the tests behind the first do not pass, the tests do not all pass
    second-fails : (row : Path) (n t : ℕ) (c : Component) → piece_at code at ≡ read n (test c) → tests_pass code row t n ≡ false → tests_pass code row (suc t) at ≡ false
    unfolding tests_pass on_decoded on_piece
    second-fails row n t c e f = rw (e, f) (and_right (tested row c) false refl)

    -- where the second test fails, the tests do not all pass
    pub by-second : 1 < tests → (size : ℕ) → TestThere code at size → TestFails code (at + size) h → TestsFail code at tests h
    by-second s size t f =
        let d : tests ≡ suc (suc (tests - 2)) = omega arith in
        record {
          there = (let x = f.there in omega arith);
          fails = λ e fit. ap (λ (n : ℕ). tests_pass code (e ∷ []) n at) d ∙ second-fails (e ∷ []) (at + size) (suc (tests - 2)) t.asks t.told (f.fails e fit (tests - 2));
        }

  -- a byte of the child combinator's kind is read as a child step
  pub child-there : (at : ℕ) → at < length code → get_or code at 0 ≡ child_kind → BehindChild code at (at + 1)
  unfolding piece_at component_at written_at ranged_at and_then body_at is_mark component_in mark_of piece mapped pick or is
  child-there at l e = record { there = l; told = rw (number-one code at child_kind l e (omega arith), within-yes child_kind star_kind attribute_equal_kind (omega arith) (omega arith)); far = omega arith; inside = omega arith }

  -- ---- a compound that may not end here
  -- a test in a compound that may not end here changes nothing
  compound-test : (row : Path) (k i n : ℕ) (c : Component) → piece_at code i ≡ read n (test c) → compound_at code row (suc k) false i ≡ compound_at code row k false n
  unfolding compound_at on_decoded on_piece and
  compound-test row k i n c e = rw e

  -- a child step ends it
  compound-child : (row : Path) (k i n : ℕ) → piece_at code i ≡ read n direct → compound_at code row (suc k) false i ≡ record { ends = false; place = n }
  unfolding compound_at on_decoded on_piece
  compound-child row k i n e = rw e

  -- ---- the loop of `behind_step`: what is left of the compound is the whole of it
  abbrev pub Stepping : ℕ → ℕ → ℕ → Type 0
  Stepping first i left = (row : Path) → compound_at code row left false i ≡ compound_at code row (length code) false first

  module _ (first i left : ℕ) (v : Stepping first i left) (more : 0 < left) where
    -- behind a test the compound goes on, and may not end here as before
    pub step-test : (size : ℕ) → TestThere code i size → Stepping first (i + size) (left - 1)
    step-test size t =
        let d : suc (left - 1) ≡ left = omega arith in
        λ row. sym (compound-test row (left - 1) i (i + size) t.asks t.told) ∙ ap (λ (k : ℕ). compound_at code row k false i) d ∙ v row

    -- behind the child step the compound is passed: it does not end here, and its left neighbour begins there
    pub step-child : (r : Option ℕ) → IfSome r (λ place. BehindChild code i place) → IfSome r (λ place. BehindStep code first place)
    step-child (Some r) e = record { told = (λ row. whole-child row r e.told); far = e.far; inside = e.inside }
      where
        whole-child : (row : Path) (r : ℕ) → piece_at code i ≡ read r direct → compound_at code row (length code) false first ≡ record { ends = false; place = r }
        whole-child row r e =
            let d : left ≡ suc (left - 1) = omega arith in
            sym (v row) ∙ ap (λ (k : ℕ). compound_at code row k false i) d ∙ compound-child row (left - 1) i r e
    step-child None e = tt

  -- so much of the compound is left at each turn that a step may still stand there
  pub record Walking (first i : ℕ) : Type 0 where
    pub left : ℕ
    pub told : Stepping first i left
    pub enough : length code + first ≤ left + i

  -- all of it is left
  pub walk-begin : (first : ℕ) → Walking first first
  walk-begin first = record { left = length code; told = λ row. refl; enough = omega arith }

  module _ (first i : ℕ) (v : Walking first i) where
    -- behind a test
    pub walk-test : (size : ℕ) → TestThere code i size → Walking first (i + size)
    walk-test size t =
        record {
          left = v.left - 1;
          told = step-test first i v.left v.told (omega (arith, v.enough, t.some, t.inside)) size t;
          enough = omega (arith, v.enough, t.some, t.inside);
        }

    -- at the step
    pub walk-child : (r : Option ℕ) → IfSome r (λ place. BehindChild code i place) → IfSome r (λ place. BehindStep code first place)
    walk-child (Some r) e = step-child first i v.left v.told (omega (arith, v.enough, e.there)) (Some r) e
    walk-child None e = tt

-- ---- the return of `step_fails`
-- a step fails where the compound does not end here and the tests of the one behind it fail by the hint
pub step-fails : (code : List ℕ) (at tests : ℕ) (h : Hint) (place : ℕ) → BehindStep code at place → TestsFail code place tests h → StepFails code at tests h
step-fails code at tests h place b t = record { place = place; far = b.far; behind = b.told; fails = t }

-- ---- what is swept
-- the right compound does not end here, nor does the left one, whose mark stays
pub step-sweep : (code : List ℕ) (row : Path) (flags : List ℕ) (j i place tests k : ℕ) → length code ≡ suc (suc k) → get_or flags j 0 ≡ 0 → get_or flags (j + 1) 0 ≡ with_tests
    → tests ≡ pair_at flags (j + 1 + 1) → compound_at code row (length code) false i ≡ record { ends = false; place = place } → tests_pass code row tests place ≡ false
    → sweep_at code row flags (length code) j i ≡ 0 ∷ 0 ∷ with_tests ∷ pair_bytes tests
step-sweep code row flags j i place tests k l f m et c fail =
    let right : Swept = record { ends = false; behind = Others place } in
    let left : Swept = record { ends = false; behind = Leftmost tests } in
    let one : right ≡ swept_one code row flags j i = one-compound code row flags j i 0 (sym f) (omega arith) false place (sym c) in
    let n : tests ≡ marked_tests flags (j + 1) = tests-some flags (j + 1) with_tests (sym m) (λ z. absurd (omega (arith, z))) tests et in
    let two : left ≡ swept_one code row flags (j + 1) place = one-mark code row flags (j + 1) place with_tests (sym m) (omega arith) tests n false (sym fail) in
    let a : sweep_at code row flags (suc (suc k)) j i ≡ flag right.ends ∷ swept_behind code row flags (suc k) j right.behind =
    sweep-step code row flags (suc k) j i ∙ ap (λ (x : Swept). flag x.ends ∷ swept_behind code row flags (suc k) j x.behind) (sym one) in
    let b : sweep_at code row flags (suc k) (j + 1) place ≡ flag left.ends ∷ swept_behind code row flags k (j + 1) left.behind =
    sweep-step code row flags k (j + 1) place ∙ ap (λ (x : Swept). flag x.ends ∷ swept_behind code row flags k (j + 1) x.behind) (sym two) in
    let a' : flag right.ends ∷ swept_behind code row flags (suc k) j right.behind ≡ 0 ∷ sweep_at code row flags (suc k) (j + 1) place = unfold flag swept_behind in refl in
    let b' : flag left.ends ∷ swept_behind code row flags k (j + 1) left.behind ≡ 0 ∷ mark_bytes tests = unfold flag swept_behind in refl in
    ap (λ (x : ℕ). sweep_at code row flags x j i) l ∙ a ∙ a' ∙ ap (λ (x : List ℕ). 0 ∷ x) (b ∙ b' ∙ ap (λ (x : List ℕ). 0 ∷ x) (sym (some_tests tests (fails-some code row tests place fail))))

-- where the first flag is 0, the selector does not match and awaits the same segment
pub decided-stays : (code : List ℕ) (p awaited : ℕ) (flags : List ℕ) → decided code p awaited (0 ∷ flags) ≡ record { matched = false; awaited = awaited; flags = flags }
unfolding decided flag_of is pick
decided-stays code p awaited flags = refl
