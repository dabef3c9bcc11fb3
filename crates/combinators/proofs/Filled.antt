-- The returns of the functions that write one value by `fill` to the part of a store that is there.
use Rattle.std.proofs.Common.{◌≡◌, refl, ap, ap₂, sym, ◌∙◌, ℕ, ◌+◌, ◌-◌, ◌≤◌, ◌<◌, List, ◌++◌, length, take, drop, replicate, min, append-nil, arith, ⊎_elim}
use Rattle.std.proofs.lemmas.List.{take_min}
use Rattle.std.proofs.lemmas.Slice.{put_mid-paste}
use borrow.Rule.Slice.PartMut.{put_mid}
use lib.ListN.{length-drop, length-replicate, drop_of_length-le}
use lib.Seq.{sets-eq, length-take-le, take_all}
use Rattle.combinators.specs.Store.{filled_from, filled_part}
use Rattle.combinators.proofs.Rules.{lt-or-ge}
use Rattle.combinators.proofs.Cleared.{filled_from-is}
use Rattle.combinators.proofs.Wiped.{length-filled_part, part-add, part-done, part-out}

module _ {A : Type 0} (z : A) (from n : ℕ) (l : List A) (a m : ℕ) (ea : a ≡ min from (length l)) (em : m ≡ min n (length l - a)) where
  -- the part that is there ends within the store
  part_within : a + m ≤ length l
  part_within = omega (arith, ea, em)

  -- what lies past the end is not written
  part-there : filled_part z a m l ≡ filled_part z from n l
  part-there = ⊎_elim inside past (lt-or-ge from (length l))
    where
      past : length l ≤ from → filled_part z a m l ≡ filled_part z from n l
      past h = part-out z a m l (omega (arith, ea)) ∙ sym (part-out z from n l h)

      inside : from < length l → filled_part z a m l ≡ filled_part z from n l
      inside h =
          let p : a ≡ from = omega (arith, ea) in
          let q : m + (n - m) ≡ n = omega (arith, em) in
          rw (← p, ← q) (sym (part-add z a m (n - m) l ∙
          ⊎_elim (λ s. part-out z (a + m) (n - m) _ (omega (arith, length-filled_part z a m l, em))) (λ s. part-done z (a + m) (n - m) _ (omega (arith, em))) (lt-or-ge m n)))

  -- the value over the part that is there
  pub part-returns : (ys : List A) → ys ≡ replicate (length (take (a + m - a) (drop a l))) z → put_mid a (a + m - a) l ys ≡ filled_part z from n l
  unfolding filled_part
  part-returns ys e =
      let k : length (take (a + m - a) (drop a l)) ≡ m = length-take-le _ _ (omega (arith, length-drop a l, part_within)) ∙ omega arith in
      let r : length {A = A} (replicate m z) ≡ m = length-replicate m z in
      put_mid-paste a (a + m - a) l ys (replicate m z) m (e ∙ ap (λ i. replicate i z) k) (omega arith) (sym r)
      ∙ ap (λ y. take a l ++ y ++ drop (a + m) l) (take_all m (replicate m z) (omega (arith, r)))
      ∙ ap (λ i. take a l ++ replicate m z ++ drop (a + i) l) (sym r)
      ∙ sym (sets-eq (replicate m z) l a (omega (arith, part_within, r)))
      ∙ part-there

-- the value over all that follows a place, where there is such a place
pub from-returns : {A : Type 0} (z : A) (from : ℕ) (l : List A) (a : ℕ) → a ≡ min from (length l) → (ys : List A)
    → ys ≡ replicate (length (take (length l - a) (drop a l))) z → put_mid a (length l - a) l ys ≡ filled_from z from l
from-returns {A} z from l a ea ys e =
    let m : ℕ = length l - a in
    let k : length (take m (drop a l)) ≡ m = length-take-le _ _ (omega (arith, length-drop a l)) in
    let r : length {A = A} (replicate m z) ≡ m = length-replicate m z in
    put_mid-paste a m l ys (replicate m z) m (e ∙ ap (λ i. replicate i z) k) refl (sym r)
    ∙ ap₂ (λ y d. take a l ++ y ++ d) (take_all m (replicate m z) (omega (arith, r))) (drop_of_length-le l (omega (arith, ea)))
    ∙ append-nil (take a l ++ replicate m z)
    ∙ ap (λ i. take i l ++ replicate m z) ea ∙ ap (λ y. y ++ replicate m z) (take_min from l)
    ∙ ap (λ i. take from l ++ replicate i z) (omega (arith, ea))
    ∙ sym (filled_from-is z from l)
