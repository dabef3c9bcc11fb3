-- The segments of a selector by their places in the bytes. Rightmost first, a segment ends with the step behind which the one on its left begins.
use Rattle.std.specs.Prelude.{ℕ, zero, suc, List, ◌++◌, replicate}
use Rattle.combinators.specs.Choice.{pick, is}
use Rattle.compiled.specs.Decoded.{on_decoded}
use Rattle.segments.specs.Sweep.{on_piece, piece_at, mark_bytes}

-- where a segment begins, how many child steps it has, and how many tests its leftmost compound
pub record Segment : Type 0 where
  pub start : ℕ
  pub steps : ℕ
  pub tests : ℕ

-- of which nothing was read
unfoldable pub beginning : ℕ → Segment
beginning i = record { start = i; steps = 0; tests = 0 }

-- of k components from i on, the segment that stands before the one that begins at the place `stop`, or the leftmost where there is none; `s` is what was read of the segment that i lies in
unfoldable pub segment_before : List ℕ → ℕ → ℕ → Segment → ℕ → Segment
segment_before code stop zero s i = s
segment_before code stop (suc k) s i =
    on_decoded (piece_at code i)
    (λ n x.
    on_piece x (λ _. segment_before code stop k (record { start = s.start; steps = s.steps; tests = suc s.tests }) n)
    (λ _. segment_before code stop k (record { start = s.start; steps = suc s.steps; tests = 0 }) n)
    (λ _. pick (is n stop) s (segment_before code stop k (beginning n) n)))
    (λ _. s)

-- no place of a segment
abbrev pub no_place : ℕ
no_place = 0

-- the flags of a segment of which nothing has begun
unfoldable pub fresh_bytes : Segment → List ℕ
fresh_bytes s = replicate s.steps 0 ++ mark_bytes s.tests
