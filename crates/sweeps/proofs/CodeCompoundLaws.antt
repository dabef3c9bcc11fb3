-- The loops over components: the tests of a compound, a compound, and the segment before another. What is left says what the whole says.
use Prim.Native.Nat.{ℕ, suc, ◌+◌, ◌-◌, ◌≤◌, ◌<◌}
use mathlib.Core.Path.{◌≡◌, refl, sym, ap, ◌∙◌}
use mathlib.Core.Bool.{Bool, true, false}
use mathlib.Core.Logic.{◌⊎◌, inl, inr}
use mathlib.Core.List.{List, []}
use native.Mathlib.Omega.{arith}
use Rattle.combinators.specs.Choice.{pick, and, is}
use Rattle.combinators.proofs.Rules.{is-yes, is-no}
use Rattle.page.specs.Path.{Path}
use Rattle.compiled.specs.Decoded.{Decoded, read, fault, on_decoded}
use Rattle.segments.specs.Segments.{Piece, test, direct, anywhere, tested}
use Rattle.segments.specs.Sweep.{on_piece, piece_at, tests_pass, Ended, compound_at}
use Rattle.segments.specs.Before.{Segment, beginning, segment_before}
use Rattle.sweeps.specs.Met.{met_of, met_at}
use Rattle.std.proofs.Common.{Option, Some, None}
use Rattle.sweeps.specs.declared.pieces.Met.{Met}
use Rattle.sweeps.specs.declared.pieces.Met.TheVariants as met

-- ---- by what is met
-- tests, with t behind it
unfoldable tests_by : List ℕ → Path → ℕ → Option Met → Bool
tests_by code row t (Some (met.Test n p)) = and p (tests_pass code row t n)
tests_by code row t (Some (met.Child n)) = false
tests_by code row t (Some (met.Descendant n)) = false
tests_by code row t None = false

-- so many tests pass as the first component that is met says, and those behind it
tests-step : (code : List ℕ) (row : Path) (t i : ℕ) → tests_pass code row (suc t) i ≡ tests_by code row t (met_at code row true i)
unfolding tests_pass tests_by met_at met_of on_decoded on_piece and
tests-step code row t i = go (piece_at code i)
  where
    go : (d : Decoded Piece) → on_decoded d (λ n x. on_piece x (λ c. and (tested row c) (tests_pass code row t n)) (λ _. false) (λ _. false)) (λ _. false)
        ≡ tests_by code row t (on_decoded d (λ n x. Some (met_of row true n x)) (λ _. None))
    go (read n (test c)) = refl
    go (read n direct) = refl
    go (read n anywhere) = refl
    go (fault p) = refl

-- a compound from i on, with at most k components behind this
unfoldable compound_by : List ℕ → Path → ℕ → Bool → ℕ → Option Met → Ended
compound_by code row k ok i (Some (met.Test n p)) = compound_at code row k p n
compound_by code row k ok i (Some (met.Child n)) = record { ends = ok; place = n }
compound_by code row k ok i (Some (met.Descendant n)) = record { ends = ok; place = n }
compound_by code row k ok i None = record { ends = false; place = i }

-- one component of it
compound-step : (code : List ℕ) (row : Path) (k : ℕ) (ok : Bool) (i : ℕ) → compound_at code row (suc k) ok i ≡ compound_by code row k ok i (met_at code row ok i)
unfolding compound_at compound_by met_at met_of on_decoded on_piece
compound-step code row k ok i = go (piece_at code i)
  where
    go : (d : Decoded Piece)
        → on_decoded d (λ n x. on_piece x (λ c. compound_at code row k (and ok (tested row c)) n) (λ _. record { ends = ok; place = n }) (λ _. record { ends = ok; place = n })) (λ _. record { ends = false; place = i })
        ≡ compound_by code row k ok i (on_decoded d (λ n x. Some (met_of row ok n x)) (λ _. None))
    go (read n (test c)) = refl
    go (read n direct) = refl
    go (read n anywhere) = refl
    go (fault p) = refl

-- a segment before another, of which s was read, with k components behind this
unfoldable segment_by : List ℕ → ℕ → ℕ → Segment → Option Met → Segment
segment_by code stop k s (Some (met.Test n p)) = segment_before code stop k (record { start = s.start; steps = s.steps; tests = suc s.tests }) n
segment_by code stop k s (Some (met.Child n)) = segment_before code stop k (record { start = s.start; steps = suc s.steps; tests = 0 }) n
segment_by code stop k s (Some (met.Descendant n)) = pick (is n stop) s (segment_before code stop k (beginning n) n)
segment_by code stop k s None = s

-- one component of it
segment-step : (code : List ℕ) (stop k : ℕ) (s : Segment) (i : ℕ) → segment_before code stop (suc k) s i ≡ segment_by code stop k s (met_at code [] false i)
unfolding segment_before segment_by met_at met_of on_decoded on_piece
segment-step code stop k s i = go (piece_at code i)
  where
    go : (d : Decoded Piece)
        → on_decoded d
        (λ n x.
        on_piece x (λ _. segment_before code stop k (record { start = s.start; steps = s.steps; tests = suc s.tests }) n)
        (λ _. segment_before code stop k (record { start = s.start; steps = suc s.steps; tests = 0 }) n)
        (λ _. pick (is n stop) s (segment_before code stop k (beginning n) n)))
        (λ _. s)
        ≡ segment_by code stop k s (on_decoded d (λ n x. Some (met_of [] false n x)) (λ _. None))
    go (read n (test c)) = refl
    go (read n direct) = refl
    go (read n anywhere) = refl
    go (fault p) = refl

-- ---- the loop of `tests_pass`
abbrev pub Testing : List ℕ → Path → ℕ → ℕ → ℕ → ℕ → Type 0
Testing code row count at i left = tests_pass code row left i ≡ tests_pass code row count at

module _ (code : List ℕ) (row : Path) (count at i left : ℕ) (v : Testing code row count at i left) where
  -- where no test is left, all passed
  pub tests-end : left ≤ 0 → true ≡ tests_pass code row count at
  tests-end h =
      let d : left ≡ 0 = omega arith in
      let e : true ≡ tests_pass code row 0 i = unfold tests_pass in refl in
      e ∙ ap (λ (m : ℕ). tests_pass code row m i) (sym d) ∙ v

  module _ (h : 0 < left) (q : Option Met) (eq : q ≡ met_at code row true i) where
    -- what the tests that are left say by the next component is what all of them say
    from-test : (p : Option Met) → q ≡ p → tests_by code row (left - 1) p ≡ tests_pass code row count at
    from-test p e =
        let d : left ≡ suc (left - 1) = omega arith in
        ap (tests_by code row (left - 1)) (sym e ∙ eq) ∙ sym (tests-step code row (left - 1) i) ∙ ap (λ (m : ℕ). tests_pass code row m i) (sym d) ∙ v

    -- a test that passes
    pub tests-more : (n : ℕ) (p : Bool) → q ≡ Some (met.Test n p) → p ≡ true → Testing code row count at n (left - 1)
    unfolding tests_by and
    tests-more n p e t = from-test (Some (met.Test n true)) (e ∙ ap (λ (b : Bool). Some (met.Test n b)) t)

    -- a test that does not
    pub tests-failed : (m : Met) → q ≡ Some m → (n : ℕ) (p : Bool) → m ≡ met.Test n p → p ≡ false → false ≡ tests_pass code row count at
    unfolding tests_by and
    tests-failed m e n p k t = from-test (Some (met.Test n false)) (e ∙ ap Some k ∙ ap (λ (b : Bool). Some (met.Test n b)) t)

    -- a step is none
    pub tests-step-met : (m : Met) → q ≡ Some m → ((n : ℕ) (p : Bool) → ¬ (m ≡ met.Test n p)) → false ≡ tests_pass code row count at
    unfolding tests_by
    tests-step-met (met.Test n p) e h = absurd (h n p refl)
    tests-step-met (met.Child n) e h = from-test (Some (met.Child n)) e
    tests-step-met (met.Descendant n) e h = from-test (Some (met.Descendant n)) e

    -- nor is a fault
    pub tests-fault : ((m : Met) → ¬ (q ≡ Some m)) → false ≡ tests_pass code row count at
    unfolding tests_by
    tests-fault h = go q refl
      where
        go : (p : Option Met) → q ≡ p → false ≡ tests_pass code row count at
        go (Some m) e = absurd (h m e)
        go None e = from-test None e

-- ---- the loop of `compound_at`
abbrev pub Ending : List ℕ → Path → ℕ → Bool → ℕ → ℕ → ℕ → Bool → Type 0
Ending code row limit may at i left ok = compound_at code row left ok i ≡ compound_at code row limit may at

module _ (code : List ℕ) (row : Path) (limit : ℕ) (may : Bool) (at i left : ℕ) (ok : Bool) (v : Ending code row limit may at i left ok) where
  -- where no component may be read any more, the compound does not end here
  pub compound-end : left ≤ 0 → record { ends = false; place = i } ≡ compound_at code row limit may at
  compound-end h =
      let d : left ≡ 0 = omega arith in
      let e : record { ends = false; place = i } ≡ compound_at code row 0 ok i = unfold compound_at in refl in
      e ∙ ap (λ (m : ℕ). compound_at code row m ok i) (sym d) ∙ v

  module _ (h : 0 < left) (q : Option Met) (eq : q ≡ met_at code row ok i) where
    -- what the compound comes to by the next component is what the whole comes to
    from-component : (p : Option Met) → q ≡ p → compound_by code row (left - 1) ok i p ≡ compound_at code row limit may at
    from-component p e =
        let d : left ≡ suc (left - 1) = omega arith in
        ap (compound_by code row (left - 1) ok i) (sym e ∙ eq) ∙ sym (compound-step code row (left - 1) ok i) ∙ ap (λ (m : ℕ). compound_at code row m ok i) (sym d) ∙ v

    -- behind a test the loop goes on, with whether the compound so far may end here
    pub compound-test : (n : ℕ) (p : Bool) → q ≡ Some (met.Test n p) → Ending code row limit may at n (left - 1) p
    unfolding compound_by
    compound-test n p e = from-component (Some (met.Test n p)) e

    -- a step ends it, if it may end
    pub compound-by-step : (m : Met) → q ≡ Some m → (n : ℕ) → (m ≡ met.Child n) ⊎ (m ≡ met.Descendant n) → record { ends = ok; place = n } ≡ compound_at code row limit may at
    unfolding compound_by
    compound-by-step m e n (inl k) = from-component (Some (met.Child n)) (e ∙ ap Some k)
    compound-by-step m e n (inr k) = from-component (Some (met.Descendant n)) (e ∙ ap Some k)

    -- at a fault it does not end here
    pub compound-fault : q ≡ None → record { ends = false; place = i } ≡ compound_at code row limit may at
    unfolding compound_by
    compound-fault e = from-component None e

-- ---- the loop of `segment_before`
pub record Seeking (code : List ℕ) (stop count first i left start steps tests : ℕ) : Type 0 where
  pub whole : segment_before code stop left (record { start = start; steps = steps; tests = tests }) i ≡ segment_before code stop count (beginning first) first
  pub few-steps : steps + left ≤ count
  pub few-tests : tests + left ≤ count

-- at the first component no step and no test is counted, and all are left
pub seek-begin : (code : List ℕ) (stop count first : ℕ) → Seeking code stop count first first count first 0 0
unfolding beginning
seek-begin code stop count first = record { whole = refl; few-steps = omega arith; few-tests = omega arith }

module _ (code : List ℕ) (stop count first i left start steps tests : ℕ) (v : Seeking code stop count first i left start steps tests) where
  -- what is returned: the segment that was counted is the one before the place that is asked for
  abbrev Found : Type 0
  Found = record { start = start; steps = steps; tests = tests } ≡ segment_before code stop count (beginning first) first

  -- where no component is left, the segment that was counted so far is returned
  pub seek-end : left ≤ 0 → Found
  seek-end h =
      let s : Segment = record { start = start; steps = steps; tests = tests } in
      let d : left ≡ 0 = omega arith in
      let e : s ≡ segment_before code stop 0 s i = unfold segment_before in refl in
      e ∙ ap (λ (m : ℕ). segment_before code stop m s i) (sym d) ∙ v.whole

  module _ (h : 0 < left) (q : Option Met) (eq : q ≡ met_at code [] false i) where
    -- what the segment comes to by the next component is what the whole search comes to
    from-segment : (p : Option Met) → q ≡ p → segment_by code stop (left - 1) (record { start = start; steps = steps; tests = tests }) p ≡ segment_before code stop count (beginning first) first
    from-segment p e =
        let s : Segment = record { start = start; steps = steps; tests = tests } in
        let d : left ≡ suc (left - 1) = omega arith in
        ap (segment_by code stop (left - 1) s) (sym e ∙ eq) ∙ sym (segment-step code stop (left - 1) s i) ∙ ap (λ (m : ℕ). segment_before code stop m s i) (sym d) ∙ v.whole

    -- a test is counted, and the loop goes on behind it
    pub seek-test : (m : Met) → q ≡ Some m → (n : ℕ) (p : Bool) → m ≡ met.Test n p → Seeking code stop count first n (left - 1) start steps (tests + 1)
    unfolding segment_by
    seek-test m e n p k =
        let d : tests + 1 ≡ suc tests = omega arith in
        record {
          whole = ap (λ (t : ℕ). segment_before code stop (left - 1) (record { start = start; steps = steps; tests = t }) n) d ∙ from-segment (Some (met.Test n p)) (e ∙ ap Some k);
          few-steps = omega (arith, v.few-steps);
          few-tests = omega (arith, v.few-tests);
        }

    -- a child step is counted, and the tests begin anew behind it
    pub seek-child : (m : Met) → q ≡ Some m → (n : ℕ) → m ≡ met.Child n → Seeking code stop count first n (left - 1) start (steps + 1) 0
    unfolding segment_by
    seek-child m e n k =
        let d : steps + 1 ≡ suc steps = omega arith in
        record {
          whole = ap (λ (t : ℕ). segment_before code stop (left - 1) (record { start = start; steps = t; tests = 0 }) n) d ∙ from-segment (Some (met.Child n)) (e ∙ ap Some k);
          few-steps = omega (arith, v.few-steps);
          few-tests = omega (arith, v.few-tests);
        }

    -- the descendant step before the other
    pub seek_stop : (n : ℕ) → q ≡ Some (met.Descendant n) → n ≡ stop → Found
    seek_stop n e t = there n stop t ∙ from-segment (Some (met.Descendant n)) e
      where
        there : (n stop : ℕ) → n ≡ stop → record { start = start; steps = steps; tests = tests } ≡ segment_by code stop (left - 1) (record { start = start; steps = steps; tests = tests }) (Some (met.Descendant n))
        there n stop t = unfold segment_by pick in rw (is-yes n stop t)

    -- behind a descendant step that is not the place asked for, another segment begins
    pub seek-next : (m : Met) → q ≡ Some m → (n : ℕ) → m ≡ met.Descendant n → ¬ (n ≡ stop) → Seeking code stop count first n (left - 1) n 0 0
    unfolding beginning
    seek-next m e n k t = record { whole = next n t ∙ from-segment (Some (met.Descendant n)) (e ∙ ap Some k); few-steps = omega (arith, v.few-steps); few-tests = omega (arith, v.few-tests) }
      where
        next : (n : ℕ) → ¬ (n ≡ stop) → segment_before code stop (left - 1) (beginning n) n ≡ segment_by code stop (left - 1) (record { start = start; steps = steps; tests = tests }) (Some (met.Descendant n))
        next n t = unfold segment_by pick in rw (is-no n stop t)

    -- where no component reads, the segment that was counted so far is returned
    pub seek-fault : q ≡ None → Found
    unfolding segment_by
    seek-fault e = from-segment None e
