-- The loop of `read_groups`: what is left to read at a group is what was to be read; and the choice of `read_ranged`.
use mathlib.Core.Path.{◌≡◌, refl, sym, ap, ◌∙◌}
use mathlib.Core.Bool.{Bool, true, false}
use mathlib.Core.List.{List}
use mathlib.Core.Logic.{⊎_elim}
use Prim.Native.Nat.{ℕ, zero, suc, ◌+◌, ◌-◌, ◌*◌, ◌≤◌, ◌<◌}
use native.Mathlib.Nat.{mul-le-mul_right}
use native.Mathlib.Omega.{arith}
use borrow.Author.Tests.{lt-ltb, le-ltb, le-leb}
use lib.Dec.{leb}
use Rattle.std.specs.Ordering.{nat_cmp, is_le, is_lt}
use Rattle.std.proofs.lemmas.Bool.Decides.{nat_tests}
use Rattle.std.specs.Prelude.{cond, ◌&&◌}
use lib.ListN.{length, drop, get_or, length-take, length-drop}
use lib.Seq.{get_or-drop}
use Rattle.std.proofs.lemmas.List.{get_or-take}
use Rattle.std.proofs.Common.{min}
use Rattle.combinators.specs.Choice.{pick, and, within}
use Rattle.combinators.specs.Part.{part}
use Rattle.combinators.proofs.Rules.{pick_true, pick-false, within-yes, lt-or-ge}
use Rattle.compiled.specs.Decoded.{read, fault}
use Rattle.compiled.specs.Number.{group_values, most_groups, number_limit, limited, groups_at, number_at, ranged_at}
use Rattle.compiled.specs.Answer.{read_answer, read_within}
use Rattle.compiled.specs.declared.places.Fault.{Fault}
use Rattle.compiled.specs.declared.places.Read.{Read}
use Rattle.std.proofs.Common.{Result, Ok, Err}
use Rattle.compiled.proofs.Answers.{got, failed, answer_read, answer-within, then-answer}
use Rattle.compiled.proofs.Bounds.{number-reaches, ranged-reaches}
use Rattle.compiled.proofs.NumberBack.{last-at, more-at}
use Rattle.compiled.proofs.Following.{then-read}

-- ---- `limited`
-- the value is below the limit
pub limited-yes : (i n v : ℕ) → v < number_limit → got n v ≡ read_answer (limited i n v)
unfolding limited read_answer
limited-yes i n v h = ap read_answer (pick_true _ _ _ _ (lt-ltb v number_limit h) refl)

-- a number beyond its range is a fault where it starts
pub limited-no : (i n v : ℕ) → number_limit ≤ v → failed i ≡ read_answer (limited i n v)
unfolding limited read_answer
limited-no i n v h = ap read_answer (pick-false _ _ _ _ (le-ltb v number_limit h) refl)

-- ---- `read_groups`
-- how many values k groups have
abbrev pub power : ℕ → ℕ
power zero = 1
power (suc k) = group_values * power k

-- five groups have 35 bits
abbrev pub all_groups : ℕ
all_groups = 34359738368

pub record Reading (s : List ℕ) (at value scale i left : ℕ) : Type 0 where
  pub work : groups_at left s at value scale i ≡ number_at s at
  pub small : value < scale
  pub scaled : scale * power left ≡ all_groups

-- before the first group all of them are left, and the value is 0
pub reading-begin : (s : List ℕ) (at : ℕ) → Reading s at 0 1 at most_groups
unfolding number_at
reading-begin s at = record { work = refl; small = omega arith; scaled = refl }

-- with one group read, what is left still covers the values of five groups
scaled-more : (left scale : ℕ) → 0 < left → scale * power left ≡ all_groups → scale * group_values * power (left - 1) ≡ all_groups
scaled-more zero scale h e = absurd (omega arith)
scaled-more (suc k) scale h e = let q : suc k - 1 ≡ k = omega arith in rw q (omega arith)

module _ (s : List ℕ) (at value scale i left : ℕ) (c : Reading s at value scale i left) (more : 0 < left) where
  -- the bytes are at their end
  pub reading-short : (r : Result (Read ℕ) Fault) → length s ≤ i → r ≡ failed at → (r ≡ read_answer (number_at s at)) × read_within (length s) r
  unfolding groups_at read_answer
  reading-short r l e =
      answer-within (number_at s at) r (e ∙ ap read_answer (short left more ∙ c.work)) 1 (length s) at (number-reaches s at)
    where
      short : (k : ℕ) → 0 < k → fault at ≡ groups_at k s at value scale i
      short zero h = absurd (omega arith)
      short (suc k) h = pick_true _ _ _ _ (le-leb (length s) i l) refl

  module _ (b : ℕ) (e : b ≡ get_or s i 0) (l : i < length s) where
    -- what a group is worth that is not the last
    pub reading-part : b < 256 → (b - group_values) * scale ≤ 127 * scale
    reading-part h = mul-le-mul_right {n = 127} scale (omega arith)

    -- it is the last group
    pub reading-last : b < group_values → (r : Result (Read ℕ) Fault) → r ≡ read_answer (limited at (i + 1) (value + b * scale))
        → (r ≡ read_answer (number_at s at)) × read_within (length s) r
    reading-last h r p =
        answer-within (number_at s at) r (p ∙ ap read_answer (sym (last left more) ∙ c.work)) 1 (length s) at (number-reaches s at)
      where
        last : (k : ℕ) → 0 < k → groups_at k s at value scale i ≡ limited at (i + 1) (value + b * scale)
        last zero h = absurd (omega arith)
        last (suc k) h' = last-at s at k b value scale i l (sym e) h

    -- it is not the last
    pub reading-more : group_values ≤ b → b < 256 → Reading s at (value + (b - group_values) * scale) (scale * group_values) (i + 1) (left - 1)
    reading-more h w =
        record {
          work = sym (again left more) ∙ c.work;
          small = let p = reading-part w in let q = c.small in omega arith;
          scaled = scaled-more left scale more c.scaled;
        }
      where
        again : (k : ℕ) → 0 < k → groups_at k s at value scale i ≡ groups_at (k - 1) s at (value + (b - group_values) * scale) (scale * group_values) (i + 1)
        again zero g = absurd (omega arith)
        again (suc k) g = let q : suc k - 1 ≡ k = omega arith in rw q (more-at s at k b value scale i l (sym e) h)

-- five groups were read and none was the last
reading-none : (s : List ℕ) (at value scale i left : ℕ) → Reading s at value scale i left → left ≤ 0
    → (failed at ≡ read_answer (number_at s at)) × read_within {A = ℕ} (length s) (failed at)
unfolding groups_at read_answer
reading-none s at value scale i left c h =
    answer-within (number_at s at) (failed at) (ap read_answer (none left h ∙ c.work)) 1 (length s) at (number-reaches s at)
  where
    none : (k : ℕ) → k ≤ 0 → fault at ≡ groups_at k s at value scale i
    none zero h = refl
    none (suc k) h = absurd (omega arith)

-- ---- the bytes that hold the groups
module _ (s t : List ℕ) (at i : ℕ) (e : t ≡ part s at most_groups) where
  -- how many there are
  groups-long : length t ≡ min most_groups (length s - at)
  unfolding part
  groups-long = rw e (length-take most_groups (drop at s) ∙ ap (min most_groups) (length-drop at s))

  -- a byte of them is one of all bytes
  pub group-byte : i < length t → get_or t i 0 ≡ get_or s (at + i) 0
  unfolding part
  group-byte l = ap (λ (x : List ℕ). get_or x i 0) e ∙ get_or-take most_groups (drop at s) i 0 (omega (arith, l, groups-long)) ∙ get_or-drop at s i 0

  -- it lies within the bytes, and not all groups are behind it
  pub group-inside : i < length t → (at + i < length s) × (0 < most_groups - i)
  group-inside l = (omega (arith, l, groups-long), omega (arith, l, groups-long))

  -- behind them there are no groups left, or no bytes
  pub reading-ended : (value scale : ℕ) → Reading s at value scale (at + i) (most_groups - i) → length t ≤ i
      → (failed at ≡ read_answer (number_at s at)) × read_within {A = ℕ} (length s) (failed at)
  reading-ended value scale c l =
      ⊎_elim
      (λ h. reading-short s at value scale (at + i) (most_groups - i) c (omega arith) (failed at) (omega (arith, l, groups-long)) refl)
      (λ h. reading-none s at value scale (at + i) (most_groups - i) c (omega arith))
      (lt-or-ge i most_groups)

-- ---- `read_number`
-- a number of one group
pub reading-one : (s : List ℕ) (at b : ℕ) → b ≡ get_or s at 0 → at < length s → b < group_values → (r : Result (Read ℕ) Fault) → r ≡ got (at + 1) b
    → (r ≡ read_answer (number_at s at)) × read_within (length s) r
reading-one s at b e l h r p =
    let v : 0 + b * 1 ≡ b = omega arith in
    reading-last s at 0 1 at most_groups (reading-begin s at) (omega arith) b e l h r (p ∙ limited-yes at (at + 1) b (omega arith) ∙ ap (λ (n : ℕ). read_answer (limited at (at + 1) n)) (sym v))

-- ---- ranges
-- what the order of the library says
at_most : (a b : ℕ) → is_le (nat_cmp a b) ≡ leb a b
at_most a b = grind (arith, nat_tests)

both : (a b : Bool) → (a && b) ≡ and a b
unfolding and
both true b = refl
both false b = refl

-- what `contains` answers of a range from lo to hi
pub contained : (s e : ℕ) (spent b : Bool) (lo hi x : ℕ) → s ≡ lo → e ≡ hi → spent ≡ false
    → b ≡ (is_le (nat_cmp s x) && cond spent (is_lt (nat_cmp x e)) (is_le (nat_cmp x e))) → b ≡ within x lo hi
unfolding within
contained s e spent b lo hi x p q r h = h ∙ rw (p, q, r) (ap (λ a. a && is_le (nat_cmp x hi)) (at_most lo x) ∙ ap (λ a. leb lo x && a) (at_most x hi) ∙ both (leb lo x) (leb x hi))

-- ---- `read_ranged`: the number that was read lies within the range, or it is a fault
module _ (s : List ℕ) (at lo hi : ℕ) (r : Result (Read ℕ) Fault) (e : r ≡ read_answer (number_at s at)) where
  -- the choice that it makes of the number
  chosen : (x : Read ℕ) → r ≡ Ok x → ranged_at s at lo hi ≡ pick (within x.value lo hi) (read x.next x.value) (fault at)
  unfolding ranged_at
  chosen x p = then-read (number_at s at) _ x.next x.value (answer_read (number_at s at) r e x p)

  -- an answer that is what the bytes say lies within them
  answered : (q : Result (Read ℕ) Fault) → q ≡ read_answer (ranged_at s at lo hi) → (q ≡ read_answer (ranged_at s at lo hi)) × read_within (length s) q
  answered q p = answer-within (ranged_at s at lo hi) q p 1 (length s) at (ranged-reaches s at lo hi)

  -- it lies outside of it
  pub ranged-out : (x : Read ℕ) → r ≡ Ok x → within x.value lo hi ≡ false → (failed at ≡ read_answer (ranged_at s at lo hi)) × read_within (length s) (failed {A = Read ℕ} at)
  unfolding read_answer
  ranged-out x p h = answered _ (ap read_answer (pick-false _ (read x.next x.value) _ _ h refl ∙ sym (chosen x p)))

  -- it is in its range
  pub ranged-in : (x : Read ℕ) → r ≡ Ok x → lo ≤ x.value → x.value ≤ hi → (Ok x ≡ read_answer (ranged_at s at lo hi)) × read_within (length s) (Ok x)
  unfolding read_answer
  ranged-in x p h l = answered _ (ap read_answer (pick_true _ _ (fault at) _ (within-yes x.value lo hi h l) refl ∙ sym (chosen x p)))

  -- where no number was read, the fault is that of the number
  pub ranged-fault : (f : Fault) → r ≡ Err f → (q : Result (Read ℕ) Fault) → q ≡ Err f → (q ≡ read_answer (ranged_at s at lo hi)) × read_within (length s) q
  unfolding ranged_at
  ranged-fault f p q h = answered q (h ∙ then-answer (number_at s at) _ r e f p)
