-- Passing over selectors that surely fail: what is left to pass has the result of the whole.
use Prim.Native.Nat.{ℕ, suc, ◌-◌, ◌≤◌, ◌<◌}
use mathlib.Core.Path.{◌≡◌, refl, sym, ap, ◌∙◌}
use mathlib.Core.Bool.{false}
use mathlib.Core.List.{List, [], ◌∷◌, ◌++◌}
use native.Mathlib.Omega.{arith}
use lib.ListN.{length}
use Rattle.combinators.specs.Choice.{pick}
use Rattle.page.specs.Path.{Element}
use Rattle.compiled.specs.Sheet.{compiled_limit}
use Rattle.segments.specs.Before.{no_place}
use Rattle.segments.specs.Visits.{Visited, visit_at}
use Rattle.segments.specs.Pass.{Passed, matched_here, pass_from}
use Rattle.segments.proofs.PassLaws.{pass-none}
use Rattle.std.proofs.Common.{Option, Some, None}
use Rattle.visits.specs.Visiting.{IsMarked}
use Rattle.hints.specs.Hints.{Fits, TestsFail}
use Rattle.hints.specs.Skipping.{StepFails, left_to_pass}
use Rattle.hints.specs.declared.hints.Hint.{Hint}
use Rattle.visits.specs.declared.blocks.Marked.{Marked}
use Rattle.hints.specs.declared.skipping.Skipped.{Skipped}
use Rattle.visits.proofs.CodePassLaws.{pass-turn}
use Rattle.hints.proofs.CodeStayLaws.{Stays, copied, length-copied, one-stays, two-stay}

-- ---- the loop of `skip_failing`
pub record Skipping (code : List ℕ) (h : Hint) (above own₀ : List ℕ) (first count : ℕ) (own : List ℕ) (p left : ℕ) : Type 0 where
  pub skips : (e : Element) → Fits h e → pass_from code (e ∷ []) above left p own ≡ pass_from code (e ∷ []) above count first own₀
  pub room : length above ≤ length own
  pub near : p ≤ compiled_limit
  pub fewer : left ≤ count

module _ (code : List ℕ) (h : Hint) (above own₀ : List ℕ) (first count : ℕ) (own : List ℕ) (p left : ℕ) (v : Skipping code h above own₀ first count own p left) where
  -- what is told: a pass over what is left comes to a pass over all
  abbrev Told : Option Skipped → Type 0
  Told r = (e : Element) → Fits h e → left_to_pass code e above own r ≡ pass_from code (e ∷ []) above count first own₀

  -- some are left
  pub skip-left : (behind : ℕ) → suc behind ≡ left → Told (Some (record { place = p; behind = behind }))
  unfolding left_to_pass
  skip-left behind d e fit = ap (λ (n : ℕ). pass_from code (e ∷ []) above n p own) d ∙ v.skips e fit

  -- there is no other
  pub skip-none : p ≡ no_place → Told None
  unfolding left_to_pass
  skip-none z e fit = sym (pass-none code above (e ∷ []) left own) ∙ ap (λ (n : ℕ). pass_from code (e ∷ []) above left n own) (sym z) ∙ v.skips e fit

  -- none is left to be passed
  pub skip-end : left ≤ 0 → Told None
  unfolding left_to_pass
  skip-end z e fit =
      let d : 0 ≡ left = omega arith in
      let o : record { part = own; matched = [] } ≡ pass_from code (e ∷ []) above 0 p own = unfold pass_from in refl in
      o ∙ ap (λ (n : ℕ). pass_from code (e ∷ []) above n p own) d ∙ v.skips e fit

module _ (code : List ℕ) (h : Hint) (above own₀ : List ℕ) (first count : ℕ) (own : List ℕ) (p left : ℕ) (v : Skipping code h above own₀ first count own p left) (more : 0 < left) (some : 0 < p)
    (m : Marked) (own₁ : List ℕ) where
  -- the selector is passed over, and the loop goes on at the next one with one fewer left
  skip-on : (steps : ℕ) → IsMarked above p steps m → own₁ ≡ copied m steps own → ((e : Element) → Fits h e → Stays code above p e own own₁)
      → Skipping code h above own₀ first count own₁ m.block.next (left - 1)
  unfolding matched_here pick
  skip-on steps b es stays =
      let l : length own₁ ≡ length own = ap length es ∙ length-copied m steps own in
      record { skips = λ e fit. sym (on e fit) ∙ v.skips e fit; room = omega (arith, l, v.room); near = omega (arith, b.next_low); fewer = omega (arith, v.fewer) }
    where
      -- no place is collected for a selector that surely fails
      none : (seen : Visited) → false ≡ seen.matched → matched_here seen p ≡ []
      none seen f = rw (← f)

      -- so those that match among the others are all
      on : (e : Element) → Fits h e → pass_from code (e ∷ []) above left p own ≡ pass_from code (e ∷ []) above (left - 1) m.block.next own₁
      on e fit =
          let s = stays e fit in
          let others : Passed = pass_from code (e ∷ []) above (left - 1) m.block.next own₁ in
          pass-turn code (e ∷ []) above own p left more (λ q. omega arith) m.block.next b.next own₁ s.1
          ∙ ap (λ (x : List ℕ). record { part = others.part; matched = x ++ others.matched }) (none (visit_at code (e ∷ []) above p) s.0)

  -- a selector that awaits one compound, with a mark
  pub skip-one : IsMarked above p 0 m → TestsFail code m.block.awaited m.tests h → own₁ ≡ copied m 0 own → Skipping code h above own₀ first count own₁ m.block.next (left - 1)
  skip-one b f es = skip-on 0 b es (λ e fit. one-stays code above p h m e fit own own₁ b f es)

  -- one that awaits two
  pub skip-two : IsMarked above p 1 m → StepFails code m.block.awaited m.tests h → own₁ ≡ copied m 1 own → Skipping code h above own₀ first count own₁ m.block.next (left - 1)
  skip-two b f es = skip-on 1 b es (λ e fit. two-stay code above p h m e fit own own₁ b f es)
