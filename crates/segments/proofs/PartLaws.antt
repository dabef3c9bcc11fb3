-- Bytes stored in a part stand there, and elsewhere nothing changes.
use Prim.Native.Nat.{ℕ, zero, suc, ◌+◌, ◌≤◌, ◌<◌}
use mathlib.Core.Path.{◌≡◌, ◌∙◌, subst}
use mathlib.Core.List.{List, [], ◌∷◌, ◌++◌}
use native.Mathlib.Omega.{arith}
use lib.ListN.{length, get_or, set, length-set}
use lib.Seq.{sets, get_or-set_same}
use Rattle.combinators.proofs.Wiped.{sets-low}
use Rattle.page.specs.Path.{Path}
use Rattle.segments.specs.Segments.{Piece, test, direct, anywhere}
use Rattle.segments.specs.Sweep.{pair_bytes, mark_bytes}
use Rattle.segments.proofs.SweepLaws.{Holds, told}

-- they stand where they were stored
pub sets-held : (bs part : List ℕ) (j : ℕ) → j + length bs ≤ length part → Holds (sets part j bs) j bs
sets-held [] part j h = tt
sets-held (b ∷ bs) part j h =
    let e : suc j ≡ j + 1 = omega arith in (
      sets-low bs (set part j b) (suc j) j 0 (omega arith) ∙ get_or-set_same part j b 0 (omega arith),
      subst (λ (n : ℕ). Holds (sets (set part j b) (suc j) bs) n bs) e (sets-held bs (set part j b) (suc j) (let l = length-set part j b in omega arith)),
    )

-- and so in a part that is the same up to there
pub held_same : (bs part other : List ℕ) (j n : ℕ) → j + length bs ≤ n → ((m : ℕ) → m < n → get_or other m 0 ≡ get_or part m 0) → Holds part j bs → Holds other j bs
held_same [] part other j n h f s = tt
held_same (b ∷ bs) part other j n h f s = (f j (omega arith) ∙ s.0, held_same bs part other (j + 1) n (omega arith) f s.1)

-- or only between two places
pub held-between : (bs part other : List ℕ) (j i n : ℕ) → i ≤ j → j + length bs ≤ n → ((m : ℕ) → i ≤ m → m < n → get_or other m 0 ≡ get_or part m 0) → Holds part j bs → Holds other j bs
held-between [] part other j i n l h f s = tt
held-between (b ∷ bs) part other j i n l h f s = (f j l (omega arith) ∙ s.0, held-between bs part other (j + 1) i n (omega arith) (omega arith) f s.1)

-- two bytes, and what is behind them
pub held-pair : (n : ℕ) (bs part : List ℕ) (j : ℕ) → Holds part j (pair_bytes n ++ bs) → Holds part j (pair_bytes n) × Holds part (j + 2) bs
unfolding pair_bytes
held-pair n bs part j s = let e : j + 1 + 1 ≡ j + 2 = omega arith in ((s.0, (s.1.0, tt)), rw e at s.1.1)

-- ---- flags fit

-- a mark takes three bytes at most
length-mark : (n : ℕ) → length (mark_bytes n) ≤ 3
unfolding mark_bytes pair_bytes
length-mark zero = omega arith
length-mark (suc n) = omega arith

-- those of pieces before which tests stand, and of pieces before which none do
length-told : (ws : List Piece) (p : Path) → ((n : ℕ) → length (told n ws p) ≤ 3 + length ws) × (length (told 0 ws p) ≤ 2 + length ws)
unfolding told
length-told [] p = (length-mark, unfold mark_bytes in omega arith)
length-told (test c ∷ ws) p = let h = length-told ws p in (λ n. let l = h.0 (suc n) in omega arith, let l = h.0 1 in omega arith)
length-told (direct ∷ ws) p = let h = (length-told ws p).1 in (λ n. omega arith, omega arith)
length-told (anywhere ∷ ws) p = (λ n. let l = length-mark n in omega arith, unfold mark_bytes in omega arith)

-- the flags of a segment take at most two bytes more than it has pieces
pub length-flags : (ws : List Piece) (p : Path) → length (told 0 ws p) ≤ 2 + length ws
length-flags ws p = (length-told ws p).1
