-- Numbers read from a list at a place, after stores. Assumes nothing.
use mathlib.Core.Path.{◌≡◌, refl, sym, ap, ◌∙◌}
use mathlib.Core.List.{List, [], ◌∷◌, ◌++◌, append_assoc, append-nil}
use Prim.Native.Nat.{ℕ, zero, suc, ◌+◌, ◌-◌, ◌≤◌, ◌<◌}
use native.Mathlib.Nat.{add-zero}
use native.Mathlib.Omega.{arith}
use Rattle.std.specs.List.{copy_within}
use borrow.Rule.Slice.PartMut.{put_mid}
use lib.ListN.{length, get_or, set, take, drop, replicate, length-append, length-drop, length-replicate, drop_of_length-le}
use Rattle.combinators.specs.Store.{wiped, filled_part}
use lib.Seq.{sets, length-sets, sets-eq, drop-cons, drop_at, take_at, length-take-le, get_or-set_other, drop-drop}
use Rattle.cascade.specs.Row.{reads}

-- the same numbers give the same window
pub reads_same : (n : ℕ) (xs ys : List ℕ) (i j : ℕ) → ((p : ℕ) → i + j ≤ p → p < i + j + n → get_or xs p 0 ≡ get_or ys p 0) → reads xs i j n ≡ reads ys i j n
reads_same zero xs ys i j f = refl
reads_same (suc n) xs ys i j f = rw (f (i + j) (omega arith) (omega arith), reads_same n xs ys i (suc j) (λ p h k. f p (omega arith) (omega arith)))

-- a window that lies within the list is a part of it
pub reads-is : (n : ℕ) (xs : List ℕ) (i j : ℕ) → i + j + n ≤ length xs → reads xs i j n ≡ take n (drop (i + j) xs)
reads-is zero xs i j h = refl
reads-is (suc n) xs i j h =
    let e : i + suc j ≡ suc (i + j) = omega arith in
    rw (drop-cons xs (i + j) 0 (omega arith), ← e, reads-is n xs i (suc j) (omega arith))

-- numbers that were stored at a place are read back from there
pub reads-sets : (vs xs : List ℕ) (i : ℕ) → i + length vs ≤ length xs → reads (sets xs i vs) i 0 (length vs) ≡ vs
reads-sets vs xs i h =
    reads-is (length vs) (sets xs i vs) i 0 (omega (arith, length-sets xs i vs))
    ∙ rw (add-zero i, sets-eq vs xs i h, append_assoc (take i xs) vs (drop (i + length vs) xs), drop_at (take i xs) (vs ++ drop (i + length vs) xs) i (length-take-le i xs (omega arith)))
    (take_at vs (drop (i + length vs) xs) (length vs) refl)

-- the same behind the stores
pub sets-high : (vs xs : List ℕ) (i p : ℕ) → i + length vs ≤ p → get_or (sets xs i vs) p 0 ≡ get_or xs p 0
sets-high [] xs i p h = refl
sets-high (v ∷ vs) xs i p h = sets-high vs (set xs i v) (suc i) p (omega arith) ∙ get_or-set_other xs i p v 0 (λ e. omega arith)

-- what stands between two lists
pub reads_at : (p vs q : List ℕ) (i : ℕ) → length p ≡ i → reads (p ++ (vs ++ q)) i 0 (length vs) ≡ vs
reads_at p vs q i e =
    reads-is (length vs) (p ++ (vs ++ q)) i 0 (omega (arith, length-append p (vs ++ q), length-append vs q))
    ∙ rw (add-zero i, drop_at p (vs ++ q) i e) (take_at vs q (length vs) refl)

-- ---- parts of a list written whole
module _ (xs : List ℕ) (i n : ℕ) (h : i + n ≤ length xs) where
  -- a part of n numbers in the middle
  pub part-sets : (vs : List ℕ) → length vs ≡ n → put_mid i n xs vs ≡ sets xs i vs
  part-sets vs e =
      let d : drop n (drop i xs) ≡ drop (i + length vs) xs = rw e (drop-drop n i xs) in
      ap (λ (r : List ℕ). take i xs ++ (vs ++ r)) d ∙ sym (append_assoc (take i xs) vs (drop (i + length vs) xs)) ∙ sym (sets-eq vs xs i (omega (arith, e)))

-- zeros in place of every number
pub all-wiped : (xs : List ℕ) (n : ℕ) → length xs ≡ n → replicate (length xs) 0 ≡ wiped 0 n xs
unfolding filled_part
all-wiped xs n e =
    let zs : List ℕ = replicate n 0 in
    let l : length zs ≡ n = length-replicate n 0 in
    ap (λ (k : ℕ). replicate k 0) e ∙ sym (append-nil zs)
    ∙ ap (λ (r : List ℕ). zs ++ r) (sym (drop_of_length-le xs {i = 0 + length zs} (omega (arith, e, l))))
    ∙ sym (sets-eq zs xs 0 (omega (arith, e, l)))

-- zeros in place of the first n numbers
pub front-wiped : (xs ys : List ℕ) (n : ℕ) → n ≤ length xs → ys ≡ replicate (length (take n xs)) 0 → ys ++ drop n xs ≡ wiped 0 n xs
unfolding filled_part
front-wiped xs ys n h e =
    let zs : List ℕ = replicate n 0 in
    let l : 0 + length zs ≡ n = omega (arith, length-replicate {A = ℕ} n 0) in
    ap (λ (r : List ℕ). r ++ drop n xs) (e ∙ ap (λ (k : ℕ). replicate k 0) (length-take-le n xs h))
    ∙ ap (λ (k : ℕ). zs ++ drop k xs) (sym l)
    ∙ sym (sets-eq zs xs 0 (omega (arith, l, h)))

-- a part copied over another
pub part-copied : (xs : List ℕ) (from to n : ℕ) → from + n ≤ length xs → to + n ≤ length xs → copy_within xs from (from + n) to ≡ sets xs to (take n (drop from xs))
part-copied xs from to n h l =
    let part : List ℕ = take n (drop from xs) in
    let z : from + n - from ≡ n = omega arith in
    let m : length part ≡ n = length-take-le n (drop from xs) (omega (arith, length-drop from xs)) in
    rw z (ap (λ (j : ℕ). take to xs ++ part ++ drop (to + j) xs) (sym m) ∙ sym (sets-eq part xs to (omega arith)))
