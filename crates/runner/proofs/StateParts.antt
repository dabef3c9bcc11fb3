-- Parts of a buffer: a number of one is that of the whole, one that is written is there, one before what is written stays; and what a raised count and an opened part leave of them.
use Prim.Native.Nat.{ℕ, ◌+◌, ◌≤◌, ◌<◌}
use mathlib.Core.Path.{◌≡◌, refl, ap, sym, ◌∙◌}
use mathlib.Core.List.{List, ◌++◌, append_assoc}
use native.Mathlib.Omega.{arith}
use lib.ListN.{length, get_or, take, drop, length-drop, take-append-drop}
use lib.Seq.{sets, sets-eq, length-sets, drop-append-le, take-append-le, take_at, drop_at, length-take-le, get_or-drop, get_or-take}
use Rattle.combinators.specs.Part.{part}
use Rattle.combinators.proofs.Wiped.{drop-sets}
use Rattle.segments.specs.Sweep.{pair_at, pair_bytes}
use Rattle.segments.proofs.PartSetLaws.{part-sets}
use Rattle.segments.proofs.DownLaws.{blocks_begin}
use Rattle.runner.specs.State.{raised, opened}

-- a number of a part is that of the whole
pub part-number : (l : List ℕ) (at n j : ℕ) → j < n → get_or (part l at n) j 0 ≡ get_or l (at + j) 0
unfolding part
part-number l at n j h = get_or-take n (drop at l) j 0 h ∙ get_or-drop at l j 0

-- so is the count that it begins with
pub part_pair : (l : List ℕ) (at n : ℕ) → blocks_begin ≤ n → pair_at (part l at n) 0 ≡ pair_at l at
unfolding pair_at
part_pair l at n h =
    let z : at + 0 ≡ at = omega arith in
    let low : get_or (part l at n) 0 0 ≡ get_or l at 0 = part-number l at n 0 (omega arith) ∙ ap (λ (j : ℕ). get_or l j 0) z in
    rw (low, part-number l at n 1 (omega arith))

-- what lies in the first of two lists
pub part_left : (x more : List ℕ) (at n : ℕ) → at + n ≤ length x → part (x ++ more) at n ≡ part x at n
unfolding part
part_left x more at n h =
    let l : n ≤ length (drop at x) = simp length-drop (omega arith) in
    rw (drop-append-le at x more (omega arith), take-append-le n (drop at x) more l)

module _ (l v : List ℕ) (i : ℕ) (room : i + length v ≤ length l) where
  -- a store keeps the parts before it
  pub part-kept : (at n : ℕ) → at + n ≤ i → part (sets l i v) at n ≡ part l at n
  part-kept at n h =
      let len : length (take i l) ≡ i = length-take-le i l (omega arith) in
      let k : at + n ≤ length (take i l) = omega arith in
      ap (λ (x : List ℕ). part x at n) (sets-eq v l i room ∙ append_assoc (take i l) v (drop (i + length v) l))
      ∙ part_left (take i l) (v ++ drop (i + length v) l) at n k
      ∙ sym (part_left (take i l) (drop i l) at n k)
      ∙ ap (λ (x : List ℕ). part x at n) (take-append-drop i l)

  -- a part that is stored whole
  pub part-written : (n : ℕ) → length v ≡ n → part (sets l i v) i n ≡ v
  unfolding part
  part-written n e =
      rw (
        sets-eq v l i room,
        append_assoc (take i l) v (drop (i + length v) l),
        drop_at (take i l) (v ++ drop (i + length v) l) i (length-take-le i l (omega arith)),
        take_at v (drop (i + length v) l) n e,
      )

-- ---- the count of a part, which takes its first two bytes
-- a count stored in the whole is stored in the part
part_count : (state : List ℕ) (at n c : ℕ) → part (sets state at (pair_bytes c)) at n ≡ sets (part state at n) 0 (pair_bytes c)
part_count state at n c =
    let z : at ≡ at + 0 = omega arith in
    ap (λ (i : ℕ). part (sets state i (pair_bytes c)) at n) z ∙ part-sets (pair_bytes c) state at n 0

-- counting one element child more changes the first two bytes of the part, and nothing else
pub raised-part : (state : List ℕ) (at n : ℕ) → part (raised state at) at n ≡ sets (part state at n) 0 (pair_bytes (pair_at state at + 1))
unfolding raised
raised-part state at n = part_count state at n (pair_at state at + 1)

-- which changes nothing behind the part
pub raised-behind : (state : List ℕ) (at n : ℕ) → blocks_begin ≤ n → drop (at + n) (raised state at) ≡ drop (at + n) state
unfolding raised
raised-behind state at n h =
    let bytes : List ℕ = pair_bytes (pair_at state at + 1) in
    let two : length bytes ≡ 2 = unfold pair_bytes in refl in
    drop-sets bytes state at (at + n) (omega (arith, two, h))

-- a part that is opened: its blocks, and the count 0
pub opened-part : (state : List ℕ) (at n : ℕ) (blocks : List ℕ) → length blocks ≡ n → at + n ≤ length state
    → part (opened state at blocks) at n ≡ sets blocks 0 (pair_bytes 0)
unfolding opened
opened-part state at n blocks l r =
    part_count (sets state at blocks) at n 0 ∙ ap (λ (x : List ℕ). sets x 0 (pair_bytes 0)) (part-written state blocks at (omega arith) n l)

-- a raised count changes no length
pub length-raised : (state : List ℕ) (at : ℕ) → length (raised state at) ≡ length state
unfolding raised
length-raised state at = length-sets state at (pair_bytes (pair_at state at + 1))

-- nor does a part that is opened
pub length-opened : (state : List ℕ) (at : ℕ) (blocks : List ℕ) → length (opened state at blocks) ≡ length state
unfolding opened
length-opened state at blocks = length-sets (sets state at blocks) at (pair_bytes 0) ∙ length-sets state at blocks

-- nor what lies before it
pub opened-kept : (state : List ℕ) (i : ℕ) (blocks : List ℕ) → blocks_begin ≤ length blocks → i + length blocks ≤ length state → (at n : ℕ) → at + n ≤ i
    → part (opened state i blocks) at n ≡ part state at n
unfolding opened pair_bytes
opened-kept state i blocks h r at n k =
    let l = length-sets state i blocks in
    part-kept (sets state i blocks) (pair_bytes 0) i (let z : i + 2 ≤ length (sets state i blocks) = omega arith in z) at n k ∙ part-kept state blocks i r at n k
