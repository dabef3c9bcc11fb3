-- A pass over the selectors at a row, as code: the loop that visits one after the other.
use Prim.Native.Nat.{ℕ, suc, ◌+◌, ◌-◌, ◌≤◌, ◌<◌}
use mathlib.Core.Path.{◌≡◌, refl, sym, ap, ◌∙◌}
use mathlib.Core.List.{List, ◌++◌}
use native.Mathlib.Omega.{arith}
use lib.ListN.{length}
use Rattle.page.specs.Path.{Path}
use Rattle.compiled.specs.Sheet.{compiled_limit}
use Rattle.segments.specs.Sweep.{pair_at}
use Rattle.segments.specs.Before.{no_place}
use Rattle.segments.specs.Visits.{to_next, visit_at}
use Rattle.segments.specs.Pass.{Passed, matched_here, block_set, pass_from}
use Rattle.segments.specs.Parts.{pair_limit}
use Rattle.segments.proofs.PassLaws.{length-block}
use Rattle.segments.proofs.PassLaws as pass

-- ---- one of several
module _ (code : List ℕ) (row : Path) (above own : List ℕ) (p left : ℕ) (h : 0 < left) (z : ¬ (p ≡ no_place)) (next : ℕ) (en : next ≡ pair_at above (p + to_next)) (own₁ : List ℕ)
    (e₁ : own₁ ≡ block_set (visit_at code row above p) (pair_at above (p + to_next)) p own) where
  -- the pass over what is left is the visit of the first, then the pass over the others from the part with its block
  pub pass-turn : (let others : Passed = pass_from code row above (left - 1) next own₁ in
      pass_from code row above left p own ≡ record { part = others.part; matched = matched_here (visit_at code row above p) p ++ others.matched })
  pass-turn =
      let d : left ≡ suc (left - 1) = omega arith in
      let some : 0 < p = omega arith in
      ap (λ (k : ℕ). pass_from code row above k p own) d ∙ pass.pass-more code above row (left - 1) p own some
      ∙ rw (en, e₁)

-- ---- the loop of `pass_blocks`
pub record Passing (code : List ℕ) (row : Path) (above own₀ : List ℕ) (first count : ℕ) (own : List ℕ) (p left : ℕ) : Type 0 where
  pub whole : (pass_from code row above left p own).part ≡ (pass_from code row above count first own₀).part
  pub room : length above ≤ length own
  pub near : p ≤ compiled_limit

module _ (code : List ℕ) (row : Path) (above own₀ : List ℕ) (first count : ℕ) (own : List ℕ) (p left : ℕ) (v : Passing code row above own₀ first count own p left) where
  -- where none is left to visit, the part is that behind the whole pass
  pub pass-end : left ≤ 0 → own ≡ (pass_from code row above count first own₀).part
  pass-end h =
      let d : 0 ≡ left = omega arith in
      let e : own ≡ (pass_from code row above 0 p own).part = unfold pass_from in refl in
      e ∙ ap (λ (n : ℕ). (pass_from code row above n p own).part) d ∙ v.whole

  -- there is no other
  pub pass-none : p ≡ no_place → own ≡ (pass_from code row above count first own₀).part
  pass-none z = ap (λ (r : Passed). r.part) (sym (pass.pass-none code above row left own)) ∙ ap (λ (n : ℕ). (pass_from code row above left n own).part) (sym z) ∙ v.whole

  -- the block of the selector is stored, and the loop goes on at the next one, with one fewer left
  pub pass-more : 0 < left → ¬ (p ≡ no_place) → (next : ℕ) → next ≡ pair_at above (p + to_next) → next < pair_limit
      → (own₁ : List ℕ) → own₁ ≡ block_set (visit_at code row above p) (pair_at above (p + to_next)) p own
      → Passing code row above own₀ first count own₁ next (left - 1)
  pass-more h z next en small own₁ e₁ =
      let l : length own₁ ≡ length own = ap length e₁ ∙ length-block (visit_at code row above p) (pair_at above (p + to_next)) p own in
      record {
        whole = sym (ap (λ (r : Passed). r.part) (pass-turn code row above own p left h z next en own₁ e₁)) ∙ v.whole;
        room = omega (arith, l, v.room);
        near = omega arith;
      }
