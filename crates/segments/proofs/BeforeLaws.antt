-- The segment that stands before another in the bytes is the one that is awaited next.
use Prim.Native.Nat.{ℕ, suc, ◌+◌, ◌≤◌, ◌<◌}
use mathlib.Core.Path.{◌≡◌, refl, ap, sym, ◌∙◌}
use mathlib.Core.Bool.{Bool, true, false}
use mathlib.Core.List.{List, [], ◌∷◌}
use mathlib.Core.Logic.{◌⊎◌, inl, inr}
use native.Mathlib.Omega.{arith}
use lib.ListN.{length}
use Rattle.combinators.specs.Choice.{pick, is}
use Rattle.combinators.proofs.Rules.{pick_true, pick-false, pick-holds, is-yes, is-no, lt-or-ge}
use Rattle.compiled.specs.Decoded.{read, on_decoded}
use Rattle.compiled.specs.Component.{component_at}
use Rattle.compiled.proofs.Bounds.{reaches_end, reaches-mapped, component-reaches}
use Rattle.segments.specs.Segments.{Piece, test, direct, anywhere, piece, steps, segment}
use Rattle.segments.specs.Sweep.{on_piece, piece_at}
use Rattle.segments.specs.Before.{Segment, beginning, segment_before, no_place}
use Rattle.segments.proofs.SegmentLaws.{segment-all, segment-less}
use Rattle.segments.proofs.SweepLaws.{Lies}

-- ---- places

-- a piece takes a byte, and ends within the bytes
pub piece-ends : (code : List ℕ) (i n : ℕ) (x : Piece) → piece_at code i ≡ read n x → (i < n) × (n ≤ length code)
unfolding piece_at
piece-ends code i n x e =
    let r = reaches_end (length code) i 1 n x _ (reaches-mapped (length code) piece (component_at code i) 1 i (component-reaches code i)) e in
    (let h = r.0 in omega arith, r.1)

-- the place behind a piece
unfoldable pub behind : List ℕ → ℕ → ℕ
behind code i = on_decoded (piece_at code i) (λ n _. n) (λ _. i)

-- where a piece is read, its own end
behind-piece : (code : List ℕ) (i n : ℕ) (x : Piece) → piece_at code i ≡ read n x → behind code i ≡ n
unfolding behind on_decoded
behind-piece code i n x e = rw e

-- where the segment number k from the left begins, of pieces that lie from i on
unfoldable pub segment_place : List ℕ → ℕ → List Piece → ℕ → ℕ
segment_place code k [] i = i
segment_place code k (x ∷ ws) i = pick (is (steps (x ∷ ws)) k) i (segment_place code k ws (behind code i))

-- the last begins where all do
pub place-all : (code : List ℕ) (ws : List Piece) (i : ℕ) → segment_place code (steps ws) ws i ≡ i
unfolding segment_place
place-all code [] i = refl
place-all code (x ∷ ws) i = sym (pick_true _ _ _ _ (is-yes (steps (x ∷ ws)) _ refl) refl)

-- another begins behind the first piece
place-less : (code : List ℕ) (x : Piece) (ws : List Piece) (k i n : ℕ) → piece_at code i ≡ read n x → k < steps (x ∷ ws) → segment_place code k (x ∷ ws) i ≡ segment_place code k ws n
unfolding segment_place
place-less code x ws k i n e h =
    sym (pick-false _ _ _ _ (is-no (steps (x ∷ ws)) k (λ e. omega arith)) (ap (segment_place code k ws) (sym (behind-piece code i n x e))))

-- at the place of a segment its pieces lie in the bytes
pub segment-lies : (code : List ℕ) (k : ℕ) (ws : List Piece) (i : ℕ) → Lies code i ws → Lies code (segment_place code k ws i) (segment k ws)
unfolding segment_place segment pick
segment-lies code k [] i s = tt
segment-lies code k (x ∷ ws) i s = go (is (steps (x ∷ ws)) k) (segment-lies code k ws s.0 s.2)
  where
    go : (b : Bool) → Lies code (segment_place code k ws s.0) (segment k ws) → Lies code (pick b i (segment_place code k ws (behind code i))) (pick b (x ∷ ws) (segment k ws))
    go true r = s
    go false r = rw (behind-piece code i s.0 x s.1) r

-- no segment begins before all
place-from : (code : List ℕ) (k : ℕ) (ws : List Piece) (i : ℕ) → Lies code i ws → i ≤ segment_place code k ws i
unfolding segment_place
place-from code k [] i s = omega arith
place-from code k (x ∷ ws) i s =
    pick-holds (λ m. i ≤ m) (is (steps (x ∷ ws)) k) i (segment_place code k ws (behind code i)) (λ _. omega arith)
    (λ _. rw (behind-piece code i s.0 x s.1) (let a = piece-ends code i s.0 x s.1 in let b = place-from code k ws s.0 s.2 in let c = a.0 in omega arith))

-- only the last begins there
pub place-past : (code : List ℕ) (k : ℕ) (ws : List Piece) (i : ℕ) → Lies code i ws → k < steps ws → i < segment_place code k ws i
place-past code k [] i s h = absurd (unfold steps in omega arith)
place-past code k (x ∷ ws) i s h =
    rw (place-less code x ws k i s.0 s.1 h) (let a = (piece-ends code i s.0 x s.1).0 in let b = place-from code k ws s.0 s.2 in omega arith)

-- a segment is no longer than all
pub length-segment : (k : ℕ) (ws : List Piece) → length (segment k ws) ≤ length ws
unfolding segment
length-segment k [] = omega arith
length-segment k (x ∷ ws) =
    pick-holds (λ l. length l ≤ suc (length ws)) (is (steps (x ∷ ws)) k) (x ∷ ws) (segment k ws) (λ _. omega arith) (λ _. let h = length-segment k ws in omega arith)

-- the place behind all pieces
unfoldable pub behind_all : List ℕ → List Piece → ℕ → ℕ
behind_all code [] i = i
behind_all code (x ∷ ws) i = behind_all code ws (behind code i)

-- the place behind a piece and others is the place behind the others, from the end of the piece on
pub behind_more : (code : List ℕ) (x : Piece) (ws : List Piece) (i n : ℕ) → piece_at code i ≡ read n x → behind_all code (x ∷ ws) i ≡ behind_all code ws n
unfolding behind_all
behind_more code x ws i n e = rw (behind-piece code i n x e)

-- a piece takes a byte
pub behind-from : (code : List ℕ) (ws : List Piece) (i : ℕ) → Lies code i ws → i + length ws ≤ behind_all code ws i
behind-from code [] i s = unfold behind_all in omega arith
behind-from code (x ∷ ws) i s =
    rw (behind_more code x ws i s.0 s.1) (let a = (piece-ends code i s.0 x s.1).0 in let b = behind-from code ws s.0 s.2 in omega arith)

-- no segment begins behind all
pub place-to : (code : List ℕ) (k : ℕ) (ws : List Piece) (i : ℕ) → Lies code i ws → segment_place code k ws i ≤ behind_all code ws i
unfolding segment_place
place-to code k [] i s = unfold behind_all in omega arith
place-to code k (x ∷ ws) i s =
    let a = (piece-ends code i s.0 x s.1).0 in
    let b = behind-from code ws s.0 s.2 in
    let c = place-to code k ws s.0 s.2 in
    rw (behind_more code x ws i s.0 s.1)
    (pick-holds (λ m. m ≤ behind_all code ws s.0) (is (steps (x ∷ ws)) k) i (segment_place code k ws (behind code i)) (λ _. omega arith) (λ _. rw (behind-piece code i s.0 x s.1) c))

-- ---- what is read of a segment

-- the first of these pieces, s being read before them
unfoldable pub reading : Segment → List Piece → Segment
reading s [] = s
reading s (test c ∷ ws) = reading (record { start = s.start; steps = s.steps; tests = suc s.tests }) ws
reading s (direct ∷ ws) = reading (record { start = s.start; steps = suc s.steps; tests = 0 }) ws
reading s (anywhere ∷ ws) = s

module _ (code : List ℕ) where
  -- where the segment before is the first of these pieces
  before-first : (k : ℕ) (ws : List Piece) (s : Segment) (i : ℕ) → Lies code i ws → steps ws ≡ suc k → segment_before code (segment_place code k ws i) (length ws) s i ≡ reading s ws
  unfolding segment_before on_decoded on_piece reading
  before-first k [] s i l h = absurd (unfold steps in omega arith)
  before-first k (test c ∷ ws) s i l h =
      let s' : Segment = record { start = s.start; steps = s.steps; tests = suc s.tests } in
      let e = place-less code (test c) ws k i l.0 l.1 (omega arith) in
      rw l.1 (ap (λ (p : ℕ). segment_before code p (length ws) s' l.0) e ∙ before-first k ws s' l.0 l.2 (unfold steps in h))
  before-first k (direct ∷ ws) s i l h =
      let s' : Segment = record { start = s.start; steps = suc s.steps; tests = 0 } in
      let e = place-less code direct ws k i l.0 l.1 (omega arith) in
      rw l.1 (ap (λ (p : ℕ). segment_before code p (length ws) s' l.0) e ∙ before-first k ws s' l.0 l.2 (unfold steps in h))
  before-first k (anywhere ∷ ws) s i l h =
      let e : k ≡ steps ws = unfold steps in omega arith in
      let f = place-less code anywhere ws k i l.0 l.1 (omega arith) ∙ ap (λ (j : ℕ). segment_place code j ws l.0) e ∙ place-all code ws l.0 in
      rw l.1 (sym (pick_true _ _ _ _ (is-yes l.0 _ (sym f)) refl))

  -- the same of pieces that begin with the segment before, and of pieces that begin with a later one
  Next : ℕ → List Piece → Segment → ℕ → Type 0
  Next k ws s i = segment_before code (segment_place code k ws i) (length ws) s i ≡ reading (beginning (segment_place code (suc k) ws i)) (segment (suc k) ws)

  -- of those that begin with it
  next-first : (k : ℕ) (ws : List Piece) (i : ℕ) → Lies code i ws → steps ws ≡ suc k → Next k ws (beginning i) i
  unfolding Next
  next-first k ws i l h = before-first k ws (beginning i) i l h ∙ rw (← h, place-all code ws i, segment-all ws)

  -- where segment k is not the first of the pieces: either the next begins them, or it stands further behind
  either : (k : ℕ) (ws : List Piece) (i : ℕ) → Lies code i ws → k < steps ws → (suc k < steps ws → Next k ws (beginning i) i) → Next k ws (beginning i) i
  either k ws i l h f = go (lt-or-ge (suc k) (steps ws))
    where
      go : (suc k < steps ws) ⊎ (steps ws ≤ suc k) → Next k ws (beginning i) i
      go (inl m) = f m
      go (inr m) = next-first k ws i l (let e : steps ws ≡ suc k = omega arith in e)

  -- of those that begin with a later one
  next-later : (k : ℕ) (ws : List Piece) (s : Segment) (i : ℕ) → Lies code i ws → suc k < steps ws → Next k ws s i
  unfolding Next segment_before on_decoded on_piece
  next-later k [] s i l h = absurd (unfold steps in omega arith)
  next-later k (test c ∷ ws) s i l h =
      let s' : Segment = record { start = s.start; steps = s.steps; tests = suc s.tests } in
      let e = place-less code (test c) ws k i l.0 l.1 (omega arith) in
      rw (place-less code (test c) ws (suc k) i l.0 l.1 h, segment-less (test c) ws (suc k) h, l.1)
      (ap (λ (p : ℕ). segment_before code p (length ws) s' l.0) e ∙ next-later k ws s' l.0 l.2 (unfold steps in h))
  next-later k (direct ∷ ws) s i l h =
      let s' : Segment = record { start = s.start; steps = suc s.steps; tests = 0 } in
      let e = place-less code direct ws k i l.0 l.1 (omega arith) in
      rw (place-less code direct ws (suc k) i l.0 l.1 h, segment-less direct ws (suc k) h, l.1)
      (ap (λ (p : ℕ). segment_before code p (length ws) s' l.0) e ∙ next-later k ws s' l.0 l.2 (unfold steps in h))
  next-later k (anywhere ∷ ws) s i l h =
      let a : suc k ≤ steps ws = unfold steps in omega arith in
      let b = place-past code k ws l.0 l.2 a in
      let e = place-less code anywhere ws k i l.0 l.1 (omega arith) in
      rw (place-less code anywhere ws (suc k) i l.0 l.1 h, segment-less anywhere ws (suc k) h, l.1)
      (ap (λ (p : ℕ). pick (is l.0 p) s (segment_before code p (length ws) (beginning l.0) l.0)) e
      ∙ sym (pick-false _ _ _ _ (is-no _ _ (λ d. omega (arith, b, d))) (sym (either k ws l.0 l.2 a (next-later k ws (beginning l.0) l.0 l.2)))))

  -- the segment before the segment number k is the next one
  pub next-segment : (k : ℕ) (ws : List Piece) (i : ℕ) → Lies code i ws → k < steps ws
      → segment_before code (segment_place code k ws i) (length ws) (beginning i) i ≡ reading (beginning (segment_place code (suc k) ws i)) (segment (suc k) ws)
  unfolding Next
  next-segment k ws i l h = either k ws i l h (next-later k ws (beginning i) i l)

  -- ---- the leftmost, before no place
  -- pieces without a descendant step are one segment, which is read whole where no place is sought
  leftmost-first : (ws : List Piece) (s : Segment) (i : ℕ) → Lies code i ws → steps ws ≡ 0 → segment_before code no_place (length ws) s i ≡ reading s ws
  unfolding segment_before on_decoded on_piece reading
  leftmost-first [] s i l h = refl
  leftmost-first (test c ∷ ws) s i l h = rw l.1 (leftmost-first ws _ l.0 l.2 (unfold steps in h))
  leftmost-first (direct ∷ ws) s i l h = rw l.1 (leftmost-first ws _ l.0 l.2 (unfold steps in h))
  leftmost-first (anywhere ∷ ws) s i l h = absurd (unfold steps in omega arith)

  -- the segment before no place is the leftmost
  Leftmost : List Piece → Segment → ℕ → Type 0
  Leftmost ws s i = segment_before code no_place (length ws) s i ≡ reading (beginning (segment_place code 0 ws i)) (segment 0 ws)

  -- of pieces that begin with it, or with another
  leftmost-either : (ws : List Piece) (i : ℕ) → Lies code i ws → (0 < steps ws → Leftmost ws (beginning i) i) → Leftmost ws (beginning i) i
  unfolding Leftmost
  leftmost-either ws i l f = go (lt-or-ge 0 (steps ws))
    where
      go : (0 < steps ws) ⊎ (steps ws ≤ 0) → Leftmost ws (beginning i) i
      go (inl m) = f m
      go (inr m) = let e : steps ws ≡ 0 = omega arith in leftmost-first ws (beginning i) i l e ∙ rw (← e, place-all code ws i, segment-all ws)

  -- of pieces that begin with another
  leftmost-later : (ws : List Piece) (s : Segment) (i : ℕ) → Lies code i ws → 0 < steps ws → Leftmost ws s i
  unfolding Leftmost segment_before on_decoded on_piece
  leftmost-later [] s i l h = absurd (unfold steps in omega arith)
  leftmost-later (test c ∷ ws) s i l h =
      rw (place-less code (test c) ws 0 i l.0 l.1 h, segment-less (test c) ws 0 h, l.1) (leftmost-later ws _ l.0 l.2 (unfold steps in h))
  leftmost-later (direct ∷ ws) s i l h =
      rw (place-less code direct ws 0 i l.0 l.1 h, segment-less direct ws 0 h, l.1) (leftmost-later ws _ l.0 l.2 (unfold steps in h))
  leftmost-later (anywhere ∷ ws) s i l h =
      let b = (piece-ends code i l.0 anywhere l.1).0 in
      rw (place-less code anywhere ws 0 i l.0 l.1 h, segment-less anywhere ws 0 h, l.1)
      (sym (pick-false _ _ _ _ (is-no _ _ (λ e. omega arith)) (sym (leftmost-either ws l.0 l.2 (leftmost-later ws (beginning l.0) l.0 l.2)))))

  -- before no place stands the leftmost
  pub leftmost-segment : (ws : List Piece) (i : ℕ) → Lies code i ws
      → segment_before code no_place (length ws) (beginning i) i ≡ reading (beginning (segment_place code 0 ws i)) (segment 0 ws)
  unfolding Leftmost
  leftmost-segment ws i l = leftmost-either ws i l (leftmost-later ws (beginning i) i l)
