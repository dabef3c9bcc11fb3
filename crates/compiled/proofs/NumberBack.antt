-- Numbers: what is written is read back wherever it lies, in at most five bytes.
use mathlib.Core.Path.{◌≡◌, refl, sym, ap, ◌∙◌}
use mathlib.Core.Logic.{⊎_elim}
use mathlib.Core.List.{List, [], ◌∷◌}
use Prim.Native.Nat.{ℕ, zero, suc, ◌+◌, ◌-◌, ◌*◌, ◌/◌, ◌%◌, ◌≤◌, ◌<◌}
use native.Mathlib.Nat.{div-add-mod}
use native.Mathlib.Omega.{arith}
use borrow.Author.Tests.{lt-ltb, le-ltb, lt-leb}
use lib.IntN.{ℤ, pos, negsuc}
use lib.ListN.{length, get_or}
use Rattle.combinators.specs.Choice.{pick, is, within}
use Rattle.combinators.proofs.Rules.{pick_true, pick-holds, within-yes, lt-or-ge, is_true, is_false}
use Rattle.syntax.specs.Signed.{signed_number, signed_of}
use Rattle.syntax.proofs.Streams.{Held}
use Rattle.compiled.specs.Decoded.{read, fault}
use Rattle.compiled.specs.Number.{group_values, number_limit, group_bytes, number_bytes, limited, groups_at, number_at, ranged_at}
use Rattle.compiled.proofs.Fits.{SignedFits}
use Rattle.compiled.proofs.Following.{held-there, held-byte, held_next, then-read}

-- how many values k + 1 groups have
abbrev pub values : ℕ → ℕ
values zero = group_values
values (suc k) = group_values * values k

-- ---- the bytes of a number
-- a number that one group holds
pub group-last : (k v : ℕ) → v < group_values → group_bytes k v ≡ v ∷ []
unfolding group_bytes pick
group-last zero v h = refl
group-last (suc k) v h = rw (lt-ltb v group_values h)

-- one group, and the groups of the rest
pub group-more : (k v : ℕ) → group_values ≤ v → group_bytes (suc k) v ≡ (v % group_values + group_values) ∷ group_bytes k (v / group_values)
unfolding group_bytes pick
group-more k v h = rw (le-ltb v group_values h)

-- every number has at least one group
pub groups-some : (k v : ℕ) → 1 ≤ length (group_bytes k v)
unfolding group_bytes
groups-some zero v = omega arith
groups-some (suc k) v =
    ⊎_elim
    (λ h. omega (arith, ap length (group-last (suc k) v h)))
    (λ h. omega (arith, ap length (group-more k v h)))
    (lt-or-ge v group_values)

-- and at most k + 1
groups-few : (k v : ℕ) → length (group_bytes k v) ≤ suc k
unfolding group_bytes
groups-few zero v = omega arith
groups-few (suc k) v =
    ⊎_elim
    (λ h. omega (arith, ap length (group-last (suc k) v h)))
    (λ h. omega (arith, ap length (group-more k v h), groups-few k (v / group_values)))
    (lt-or-ge v group_values)

module _ (v : ℕ) where
  -- a number takes a byte
  pub number-some : 1 ≤ length (number_bytes v)
  unfolding number_bytes
  number-some = groups-some 4 v

  -- a number takes at most five bytes
  pub number-few : length (number_bytes v) ≤ 5
  unfolding number_bytes
  number-few = groups-few 4 v

-- ---- read back
-- a group and the rest are worth the number
worth : (v acc scale : ℕ) → acc + (v % group_values + group_values - group_values) * scale + v / group_values * (scale * group_values) ≡ acc + v * scale
worth v acc scale =
    let d : v % group_values + group_values - group_values ≡ v % group_values = omega arith in
    let e : (group_values * (v / group_values) + v % group_values) * scale ≡ v * scale = ap (λ (x : ℕ). x * scale) (div-add-mod v group_values) in
    rw d (omega arith)

module _ (t : List ℕ) (i : ℕ) where
  -- a group without its top bit ends the number
  pub last-at : (k b acc scale n : ℕ) → n < length t → get_or t n 0 ≡ b → b < group_values → groups_at (suc k) t i acc scale n ≡ limited i (n + 1) (acc + b * scale)
  unfolding groups_at pick
  last-at k b acc scale n l e h = rw (lt-leb (length t) n l, e, lt-ltb b group_values h)

  -- a group that is not the last
  pub more-at : (k b acc scale n : ℕ) → n < length t → get_or t n 0 ≡ b → group_values ≤ b
      → groups_at (suc k) t i acc scale n ≡ groups_at k t i (acc + (b - group_values) * scale) (scale * group_values) (n + 1)
  unfolding groups_at pick
  more-at k b acc scale n l e h = rw (lt-leb (length t) n l, e, le-ltb b group_values h)

  -- a number of one group is read back: the reading ends behind it, with its worth at the scale added
  last-back : (k v acc scale n : ℕ) → v < group_values → Held t n (group_bytes k v)
      → groups_at (suc k) t i acc scale n ≡ limited i (n + length (group_bytes k v)) (acc + v * scale)
  last-back k v acc scale n l h =
      let e = group-last k v l in
      let g : Held t n (v ∷ []) = rw e at h in
      rw e (last-at k v acc scale n (held-there t n v [] g) (held-byte t n v [] g) l)

  -- a number of any groups is read back: the reading ends behind them, with their worth at the scale added
  groups-back : (k v acc scale n : ℕ) → v < values k → Held t n (group_bytes k v)
      → groups_at (suc k) t i acc scale n ≡ limited i (n + length (group_bytes k v)) (acc + v * scale)
  groups-back zero v acc scale n l h = last-back zero v acc scale n l h
  groups-back (suc k) v acc scale n l h =
      ⊎_elim
      (λ s. last-back (suc k) v acc scale n s h)
      (λ s. let e = group-more k v s in
      let b : ℕ = v % group_values + group_values in
      let xs : List ℕ = group_bytes k (v / group_values) in
      let g : Held t n (b ∷ xs) = rw e at h in
      let p : n + 1 + length xs ≡ n + suc (length xs) = omega arith in
      rw e
      (more-at (suc k) b acc scale n (held-there t n b xs g) (held-byte t n b xs g) (omega arith)
      ∙ groups-back k (v / group_values) (acc + (b - group_values) * scale) (scale * group_values) (n + 1) (omega arith) (held_next t n b xs g)
      ∙ rw (worth v acc scale, p)))
      (lt-or-ge v group_values)

  -- a number is read back
  pub number-back : (v : ℕ) → v < number_limit → Held t i (number_bytes v) → number_at t i ≡ read (i + length (number_bytes v)) v
  unfolding number_bytes number_at limited
  number-back v l h =
      let e : 0 + v * 1 ≡ v = omega arith in
      groups-back 4 v 0 1 i (omega arith) h ∙ rw e (sym (pick_true _ _ _ _ (lt-ltb v number_limit l) refl))

  -- and one in its range
  pub ranged-back : (lo hi v : ℕ) → v < number_limit → lo ≤ v → v ≤ hi → Held t i (number_bytes v) → ranged_at t i lo hi ≡ read (i + length (number_bytes v)) v
  unfolding ranged_at
  ranged-back lo hi v l a b h =
      then-read (number_at t i) (λ n w. pick (within w lo hi) (read n w) (fault i)) _ v (number-back v l h)
      ∙ sym (pick_true _ _ _ _ (within-yes v lo hi a b) refl)

-- ---- signed numbers
-- a number as a signed one and back
pub signed-number-back : (v : ℕ) → signed_number (signed_of v) ≡ v
unfolding signed_of signed_number
signed-number-back v =
    pick-holds (λ z. signed_number z ≡ v) (is (v % 2) 0) (pos (v / 2)) (negsuc (v / 2)) (λ e. even (is_true _ _ e)) (λ e. odd (is_false _ _ e))
  where
    even : v % 2 ≡ 0 → signed_number (pos (v / 2)) ≡ v
    even e = omega arith

    odd : ¬ (v % 2 ≡ 0) → signed_number (negsuc (v / 2)) ≡ v
    odd e = let r : v % 2 ≡ 1 = omega arith in omega arith

-- the number of a signed one of 32 bits is below 2^32
pub signed-small : (z : ℤ) → SignedFits z → signed_number z < number_limit
unfolding signed_number
signed-small (pos n) h = omega arith
signed-small (negsuc n) h = omega arith
