-- White_Space: the table of code points, and the ranges that PropList.txt lists.
use Prim.Native.Nat.{ℕ, zero, suc, ◌+◌, ◌-◌, ◌≤◌, ◌<◌}
use mathlib.Core.Path.{◌≡◌, refl, ap, ap₂, ◌∙◌}
use mathlib.Core.Bool.{true, false}
use mathlib.Core.List.{List, [], ◌∷◌, ◌++◌}
use mathlib.Core.Logic.{⊎_elim}
use native.Mathlib.Omega.{arith}
use Rattle.std.proofs.lemmas.Grind.{common_steps}
use Rattle.combinators.specs.Choice.{or, and, is, within}
use Rattle.combinators.proofs.Rules.{either, or_left, or_right, or_assoc, same_test, is-yes, is-no, is_true, within-true, within-yes, lt-or-ge}
use Rattle.characters.specs.WhiteSpace.{white_space, is_white_space, Range, ranges, up_from, numbers, in_ranges}
use Rattle.combinators.specs.All.{member}

-- what is in one list or the other
member-append : (v : ℕ) (xs ys : List ℕ) → member v (xs ++ ys) ≡ or (member v xs) (member v ys)
unfolding member or
member-append v [] ys = refl
member-append v (x ∷ xs) ys = ap (or (is v x)) (member-append v xs ys) ∙ or_assoc (is v x) (member v xs) (member v ys)

-- what is in k numbers from n on is from n to below n + k
up-within : (k n v : ℕ) → member v (up_from k n) ≡ true → (n ≤ v) × (v < n + k)
unfolding member up_from
up-within zero n v e = let z : ◌≡◌ {A = ℕ} 0 1 = cc in absurd (omega arith)
up-within (suc k) n v e =
    either ((n ≤ v) × (v < n + suc k)) (is v n) (member v (up_from k (suc n))) e
    (λ h. omega (arith, is_true v n h)) (λ h. omega (arith, up-within k (suc n) v h))

-- and the other way round
up-member : (k n v : ℕ) → n ≤ v → v < n + k → member v (up_from k n) ≡ true
unfolding member up_from
up-member zero n v l h = absurd (omega arith)
up-member (suc k) n v l h =
    ⊎_elim (λ p. or_left _ _ (is-yes v n (omega arith)))
    (λ p. or_right _ _ (is-no v n (λ e. omega arith)) (up-member k (suc n) v p (omega arith)))
    (lt-or-ge v (suc n))

-- the numbers of a range are those within it, also of a range that is empty
range-is : (v : ℕ) (r : Range) → member v (up_from (suc r.last - r.first) r.first) ≡ within v r.first r.last
range-is v r =
    same_test _ _
    (λ e. let p = up-within (suc r.last - r.first) r.first v e in
    within-yes v r.first r.last p.0 (omega arith))
    (λ e. let p = within-true v r.first r.last e in up-member (suc r.last - r.first) r.first v p.0 (omega arith))

-- and those of ranges are those in one of them
numbers-are : (v : ℕ) (rs : List Range) → member v (numbers rs) ≡ in_ranges v rs
unfolding member numbers in_ranges
numbers-are v [] = refl
numbers-are v (r ∷ rs) = member-append v (up_from (suc r.last - r.first) r.first) (numbers rs) ∙ ap₂ or (range-is v r) (numbers-are v rs)

-- the table has the numbers of the ranges, computed
pub table-of-ranges : white_space ≡ numbers ranges
unfolding numbers up_from
table-of-ranges = refl

-- the table and the ranges say the same of every number
pub white-space-ranges : (v : ℕ) → is_white_space v ≡ in_ranges v ranges
unfolding is_white_space
white-space-ranges v = ap (member v) table-of-ranges ∙ numbers-are v ranges

-- a number that is past the end of a range where it is not below its start is not in it
pub outside : (v lo hi : ℕ) → (lo ≤ v → hi < v) → within v lo hi ≡ false
unfolding within and
outside v lo hi h = grind (arith, common_steps)

-- for `is_white_space`
pub ruleset by_ranges = (white-space-ranges, outside)
