-- Parts of a store: the return of `part_of`, a part that is not there and one that is.
use Rattle.std.proofs.Common.{◌≡◌, ap, ◌∙◌, ℕ, ◌+◌, ◌-◌, ◌≤◌, List, length, take, drop, min, arith}
use lib.ListN.{length-take, length-drop}
use Rattle.std.proofs.lemmas.List.{take_min, drop_min}
use Rattle.combinators.specs.Part.{part}
use Rattle.combinators.proofs.Lists.{rest}

-- a part is no longer than it is told to be
pub part-le : {A : Type 0} (store : List A) (start n : ℕ) → length (part store start n) ≤ n
unfolding part
part-le store start n = omega (arith, length-take n (drop start store))

-- and as long as that where it lies in the store
pub length_part : {A : Type 0} (store : List A) (start n : ℕ) → start + n ≤ length store → length (part store start n) ≡ n
unfolding part
length_part store start n h = omega (arith, length-take n (drop start store), length-drop start store)

-- a part that begins behind the end begins at the end, and one that runs out there ends there
pub part-least : {A : Type 0} (store : List A) (start n a m : ℕ) → a ≡ min start (length store) → m ≡ min n (length (take (length store - a) (drop a store)))
    → take m (take (length store - a) (drop a store)) ≡ part store start n
unfolding part
part-least store start n a m ea em =
    ap (λ i. take i (take (length store - a) (drop a store))) em ∙ take_min n (take (length store - a) (drop a store))
    ∙ ap (take n) (rest store a ∙ ap (λ i. drop i store) ea ∙ drop_min start store)

module _ {A : Type 0} (store : List A) (start n : ℕ) where
  -- a part that ends within the store is lent whole
  pub part-whole : take (start + n - start) (drop start store) ≡ part store start n
  unfolding part
  part-whole = let d : start + n - start ≡ n = omega arith in rw d
