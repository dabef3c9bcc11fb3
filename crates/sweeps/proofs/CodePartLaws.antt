-- Bytes stored in a part of the state: what the functions that store them leave.
use Prim.Native.Nat.{ℕ, zero, suc, ◌+◌, ◌/◌, ◌%◌}
use mathlib.Core.Path.{◌≡◌, refl, sym, ap, ◌∙◌}
use mathlib.Core.List.{List, ◌∷◌}
use native.Mathlib.Numerals.{add-one}
use native.Mathlib.Omega.{arith}
use lib.ListN.{get_or, set, replicate, length-replicate}
use lib.Seq.{sets}
use Rattle.std.specs.Int.{w16, to_le_bytes}
use Rattle.combinators.specs.Choice.{pick}
use Rattle.combinators.specs.Store.{filled_part}
use Rattle.combinators.proofs.Rules.{is-yes-of, is-no-of}
use Rattle.combinators.proofs.Wiped.{sets-append}
use Rattle.segments.specs.Sweep.{pair_at, pair_bytes, without_tests, with_tests, mark_bytes, marked_tests}
use Rattle.segments.specs.Before.{fresh_bytes}

-- ---- the returns of `marked_tests`
module _ (part : List ℕ) (j b : ℕ) (e : b ≡ get_or part j 0) where
  -- a mark that says so has no test
  pub tests-none : b ≡ without_tests → 0 ≡ marked_tests part j
  unfolding marked_tests pick
  tests-none p = rw (is-yes-of b (get_or part j 0) without_tests e p)

  -- as many as the two bytes behind the mark say
  pub tests-some : ¬ (b ≡ without_tests) → (n : ℕ) → n ≡ pair_at part (j + 1) → n ≡ marked_tests part j
  unfolding marked_tests pick
  tests-some p n q = rw (is-no-of b (get_or part j 0) without_tests e p) q

-- ---- the return of `pair_bytes`
-- the bytes of what is left of a number in two bytes are its pair
pub pair-bytes : (n : ℕ) → to_le_bytes w16 (n % 65536) ≡ pair_bytes n
unfolding pair_bytes
pair-bytes n = let e : n % 65536 % 256 ≡ n % 256 = omega arith in let f : n % 65536 / 256 % 256 ≡ n / 256 % 256 = omega arith in rw (e, f)

-- ---- the returns of `put_pair_there`, `put_pair`, `put_mark` and `put_fresh`
module _ (s₀ s₁ s₂ : List ℕ) (at : ℕ) where
  -- the two bytes of a number, stored in turn, are its pair
  pub pair-stored : (n : ℕ) (bytes : List ℕ) → bytes ≡ pair_bytes n → s₁ ≡ set s₀ at (get_or bytes 0 0) → s₂ ≡ set s₁ (at + 1) (get_or bytes 1 0) → s₂ ≡ sets s₀ at (pair_bytes n)
  unfolding pair_bytes
  pair-stored n bytes b e f = f ∙ rw (e, b, add-one at)

  -- the mark of a compound that has tests
  pub mark-some : (tests : ℕ) → ¬ (tests ≡ 0) → s₁ ≡ set s₀ at with_tests → s₂ ≡ sets s₁ (at + 1) (pair_bytes tests) → s₂ ≡ sets s₀ at (mark_bytes tests)
  unfolding mark_bytes
  mark-some zero h e f = absurd (h refl)
  mark-some (suc t) h e f = f ∙ rw (e, add-one at)

  -- flags of which none is set, and a mark
  pub fresh-stored : (start steps tests : ℕ) → s₁ ≡ filled_part 0 at steps s₀ → s₂ ≡ sets s₁ (at + steps) (mark_bytes tests)
      → s₂ ≡ sets s₀ at (fresh_bytes (record { start = start; steps = steps; tests = tests }))
  unfolding fresh_bytes filled_part
  fresh-stored start steps tests e f =
      let z : List ℕ = replicate steps 0 in
      f ∙ ap (λ (s : List ℕ). sets s (at + steps) (mark_bytes tests)) e
      ∙ ap (λ (n : ℕ). sets (sets s₀ at z) (at + n) (mark_bytes tests)) (sym (length-replicate steps 0))
      ∙ sym (sets-append s₀ at z (mark_bytes tests))

-- ---- the return of `put_mark_there`
-- the mark, and its tests behind it
pub mark-there : (s s₁ : List ℕ) (at tests : ℕ) → s₁ ≡ sets (set s at with_tests) (at + 1) (pair_bytes tests) → s₁ ≡ sets s at (with_tests ∷ pair_bytes tests)
mark-there s s₁ at tests e = e ∙ rw (add-one at)

-- the mark of one that has none
pub mark-none : (s₀ s₁ : List ℕ) (at tests : ℕ) → tests ≡ 0 → s₁ ≡ set s₀ at without_tests → s₁ ≡ sets s₀ at (mark_bytes tests)
unfolding mark_bytes
mark-none s₀ s₁ at tests z e = rw z e
