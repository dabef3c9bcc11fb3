-- A sweep by places says what the pieces that lie there ask.
use Prim.Native.Nat.{ℕ, zero, suc, ◌+◌, ◌*◌, ◌/◌, ◌%◌, ◌≤◌, ◌<◌}
use mathlib.Core.Path.{◌≡◌, refl, ap, sym, ◌∙◌}
use mathlib.Core.Bool.{Bool, true, false}
use mathlib.Core.List.{List, [], ◌∷◌}
use mathlib.Core.Logic.{◌⊎◌, inl, inr}
use native.Mathlib.Omega.{arith}
use native.Mathlib.Nat.{add-zero}
use lib.Dec.{leb}
use lib.ListN.{length, get_or}
use Rattle.combinators.specs.Choice.{and}
use Rattle.combinators.proofs.Rules.{pick_true, pick-false, is-yes, is-no}
use Rattle.syntax.specs.Layout.{flag}
use Rattle.syntax.specs.Selector.{Component}
use Rattle.syntax.proofs.Back.{flag-back}
use Rattle.page.specs.Path.{Element, Path}
use Rattle.matching.specs.Matches.{on_parent}
use Rattle.compiled.specs.Decoded.{read, on_decoded}
use Rattle.segments.specs.Segments.{Piece, test, direct, anywhere, alone, tested}
use Rattle.segments.specs.Sweep.{byte_values, pair_at, pair_bytes, on_piece, piece_at, tests_pass, compound_at, without_tests, with_tests, mark_bytes, marked_tests, sweep_at}
use Rattle.segments.proofs.SegmentLaws.{meets, asks, left, and_assoc}

-- ---- what lies in the bytes, and in a part

-- these pieces are read from i on
abbrev pub Lies : List ℕ → ℕ → List Piece → Type 0
Lies code i [] = Unit
Lies code i (x ∷ ws) = (n : ℕ) × (piece_at code i ≡ read n x) × Lies code n ws

-- these bytes stand from j on
abbrev pub Holds : List ℕ → ℕ → List ℕ → Type 0
Holds part j [] = Unit
Holds part j (b ∷ bs) = (get_or part j 0 ≡ b) × Holds part (j + 1) bs

-- how many values two bytes have
abbrev pub pair_values : ℕ
pair_values = 65536

-- a number of two bytes is read back
pub pair-back : (part : List ℕ) (j n : ℕ) → n < pair_values → Holds part j (pair_bytes n) → pair_at part j ≡ n
unfolding pair_at pair_bytes
pair-back part j n h s = rw (s.0, s.1.0) (two_bytes n h)
  where
    two_bytes : (n : ℕ) → n < pair_values → n % byte_values + byte_values * (n / byte_values % byte_values) ≡ n
    two_bytes n h = omega arith

-- ---- the flags that are right at a node: of each compound of the segment but the leftmost whether it may end here, then the mark of the leftmost, where n tests stand before these pieces
unfoldable pub told : ℕ → List Piece → Path → List ℕ
told n [] p = mark_bytes n
told n (test c ∷ ws) p = told (suc n) ws p
told n (direct ∷ ws) p = flag (on_parent (asks ws) p) ∷ told 0 ws p
told n (anywhere ∷ ws) p = mark_bytes n

-- ---- a compound

-- the order of tests does not matter
and_comm : (a b : Bool) → and a b ≡ and b a
unfolding and
and_comm true true = refl
and_comm true false = refl
and_comm false true = refl
and_comm false false = refl

-- the leftmost, of so many tests
record Last (code : List ℕ) (p : Path) (i n : ℕ) (ws : List Piece) : Type 0 where
  pub tests : ℕ
  pub few : tests ≤ length ws
  pub bytes : (q : Path) → told n ws q ≡ mark_bytes (n + tests)
  pub value : asks (left ws) p ≡ true → tests_pass code (alone p) tests i ≡ asks ws p

-- another, with what stands left of its step
record More (code : List ℕ) (p : Path) (i n k : ℕ) (ws : List Piece) : Type 0 where
  pub passes : Bool
  pub rest : List Piece
  pub place : ℕ
  pub less : length rest < length ws
  pub bytes : (q : Path) → told n ws q ≡ flag (on_parent (asks rest) q) ∷ told 0 rest q
  pub lies : Lies code place rest
  pub keeps : left ws ≡ left rest
  pub walked : (ok : Bool) → compound_at code (alone p) k ok i ≡ record { ends = and ok passes; place = place }
  pub value : asks ws p ≡ and passes (on_parent (asks rest) p)

-- a test more before the leftmost
last-test : (code : List ℕ) (p : Path) (i m n : ℕ) (c : Component) (ws : List Piece) → piece_at code i ≡ read m (test c) → Last code p m (suc n) ws → Last code p i n (test c ∷ ws)
unfolding told tests_pass on_decoded on_piece left asks meets
last-test code p i m n c ws e l =
    record {
      tests = suc l.tests;
      few = let h = l.few in omega arith;
      bytes = λ q. l.bytes q ∙ ap mark_bytes (let e : suc n + l.tests ≡ n + suc l.tests = omega arith in e);
      value = λ h. rw (e, l.value h);
    }

-- a test more before a compound that is not the leftmost
more_test : (code : List ℕ) (p : Path) (i m n k : ℕ) (c : Component) (ws : List Piece) → piece_at code i ≡ read m (test c) → More code p m (suc n) k ws → More code p i n (suc k) (test c ∷ ws)
unfolding told compound_at on_decoded on_piece left asks meets
more_test code p i m n k c ws e l =
    record {
      passes = and (tested (alone p) c) l.passes;
      rest = l.rest;
      place = l.place;
      less = let h = l.less in omega arith;
      bytes = l.bytes;
      lies = l.lies;
      keeps = l.keeps;
      walked = λ ok. rw (e, l.walked (and ok (tested (alone p) c)), and_assoc ok (tested (alone p) c) l.passes);
      value = rw l.value (sym (and_assoc (tested (alone p) c) l.passes (on_parent (asks l.rest) p)));
    }

-- at a child step a compound ends that is not the leftmost, with what lies left of the step
at-step : (code : List ℕ) (p : Path) (i n k : ℕ) (ws : List Piece) (m : ℕ) → piece_at code i ≡ read m direct → Lies code m ws → More code p i n (suc k) (direct ∷ ws)
unfolding told compound_at on_decoded on_piece left asks meets and
at-step code p i n k ws m e s =
    record {
      passes = true;
      rest = ws;
      place = m;
      less = omega arith;
      bytes = λ q. refl;
      lies = s;
      keeps = refl;
      walked = λ ok. rw e (ap (λ (b : Bool). record { ends = b; place = m }) (and_comm true ok));
      value = refl;
    }

-- which of the two pieces begin with
compound : (code : List ℕ) (p : Path) (ws : List Piece) (i n k : ℕ) → Lies code i ws → length ws ≤ k → Last code p i n ws ⊎ More code p i n k ws
compound code p [] i n k s h =
    inl (record { tests = 0; few = omega arith; bytes = λ q. unfold told in ap mark_bytes (sym (add-zero n)); value = λ _. unfold tests_pass asks in refl })
compound code p (test c ∷ ws) i n zero s h = absurd (omega arith)
compound code p (test c ∷ ws) i n (suc k) s h = go (compound code p ws s.0 (suc n) k s.2 (omega arith))
  where
    go : Last code p s.0 (suc n) ws ⊎ More code p s.0 (suc n) k ws → Last code p i n (test c ∷ ws) ⊎ More code p i n (suc k) (test c ∷ ws)
    go (inl l) = inl (last-test code p i s.0 n c ws s.1 l)
    go (inr l) = inr (more_test code p i s.0 n k c ws s.1 l)
compound code p (direct ∷ ws) i n zero s h = absurd (omega arith)
compound code p (direct ∷ ws) i n (suc k) s h = inr (at-step code p i n k ws s.0 s.1 s.2)
compound code p (anywhere ∷ ws) i n k s h =
    inl (record { tests = 0; few = omega arith; bytes = λ q. unfold told in ap mark_bytes (sym (add-zero n)); value = λ b. unfold tests_pass left in sym b })

-- ---- a segment

-- the mark is read back
marked-back : (part : List ℕ) (j t : ℕ) → t < pair_values → Holds part j (mark_bytes t) → (leb without_tests (get_or part j 0) ≡ true) × (marked_tests part j ≡ t)
unfolding mark_bytes marked_tests
marked-back part j zero h s = (rw s.0, sym (pick_true _ _ _ _ (is-yes _ _ s.0) refl))
marked-back part j (suc t) h s =
    (rw s.0, sym (pick-false _ _ _ _ (is-no _ _ (λ e. absurd (let z : with_tests ≡ without_tests = sym s.0 ∙ e in omega arith))) (sym (pair-back part (j + 1) (suc t) h s.1))))

-- a flag is no mark
flag-low : (b : Bool) → leb without_tests (flag b) ≡ false
unfolding flag
flag-low true = refl
flag-low false = refl

-- a child asks of its parent
on-parent : (f : Path → Bool) (e : Element) (p : Path) → on_parent f (e ∷ p) ≡ f p
unfolding on_parent
on-parent f e p = refl

module _ (code part : List ℕ) (p : Path) (e : Element) where
  -- what a sweep should say
  Right : ℕ → ℕ → ℕ → List Piece → Type 0
  Right k j i ws = sweep_at code (alone p) part k j i ≡ flag (asks ws p) ∷ told 0 ws (e ∷ p)

  -- at the leftmost compound the sweep says what it asks, and keeps its mark
  sweep-last : (ws : List Piece) (k j i : ℕ) → length ws < pair_values → asks (left ws) p ≡ true → Holds part j (told 0 ws p) → Last code p i 0 ws → Right (suc k) j i ws
  unfolding Right sweep_at
  sweep-last ws k j i f b s l =
      let w = l.few in
      let m = marked-back part j (0 + l.tests) (omega arith) (rw (l.bytes p) at s) in
      sym (pick_true _ _ _ _ m.0 (rw (l.bytes (e ∷ p), m.1) (ap (λ (b : Bool). flag b ∷ mark_bytes (0 + l.tests)) (sym (rw (let z : 0 + l.tests ≡ l.tests = omega arith in z) (l.value b))))))

  -- at another compound the sweep says what it asks, if the sweep of those left of it is right
  sweep-more : (ws : List Piece) (k j i : ℕ) → Holds part j (told 0 ws p) → (l : More code p i 0 (length code) ws)
      → (Holds part (j + 1) (told 0 l.rest p) → Right k (j + 1) l.place l.rest) → Right (suc k) j i ws
  unfolding Right sweep_at
  sweep-more ws k j i s l ih =
      let t : Holds part j (flag (on_parent (asks l.rest) p) ∷ told 0 l.rest p) = rw (l.bytes p) at s in
      let b : Bool = on_parent (asks l.rest) p in
      sym (pick-false _ _ _ _ (ap (leb without_tests) t.0 ∙ flag-low b)
      (rw (t.0, flag-back b, l.walked b, ih t.1, l.bytes (e ∷ p), l.value, on-parent (asks l.rest) e p)
      (ap (λ (c : Bool). flag c ∷ flag (asks l.rest p) ∷ told 0 l.rest (e ∷ p)) (and_comm l.passes b))))

  -- whether the segment ends here, then the flags that are right at a child
  pub sweep-told : (k : ℕ) (ws : List Piece) (j i : ℕ) → Lies code i ws → length ws < k → length ws ≤ length code → length ws < pair_values → asks (left ws) p ≡ true
      → Holds part j (told 0 ws p) → sweep_at code (alone p) part k j i ≡ flag (asks ws p) ∷ told 0 ws (e ∷ p)
  unfolding Right
  sweep-told zero ws j i s h c f b t = absurd (omega arith)
  sweep-told (suc k) ws j i s h c f b t = go (compound code p ws i 0 (length code) s c) (sweep-told k)
    where
      go : Last code p i 0 ws ⊎ More code p i 0 (length code) ws
          → ((vs : List Piece) (j i : ℕ) → Lies code i vs → length vs < k → length vs ≤ length code → length vs < pair_values → asks (left vs) p ≡ true → Holds part j (told 0 vs p)
          → Right k j i vs)
          → Right (suc k) j i ws
      go (inl l) ih = sweep-last ws k j i f b t l
      go (inr l) ih =
          let w = l.less in
          sweep-more ws k j i t l (λ s. ih l.rest (j + 1) l.place l.lies (omega arith) (omega arith) (omega arith) (rw l.keeps at b) s)
