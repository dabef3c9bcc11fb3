-- A selector that surely fails at an element: a visit does not match it, and leaves its block as it is.
use Prim.Native.Nat.{ℕ, ◌+◌, ◌-◌}
use mathlib.Core.Path.{◌≡◌, refl, sym, ap, ◌∙◌}
use mathlib.Core.Bool.{false}
use mathlib.Core.List.{List, [], ◌∷◌, ◌++◌}
use native.Mathlib.Omega.{arith}
use lib.ListN.{length, get_or, replicate}
use lib.Seq.{sets, length-sets}
use Rattle.page.specs.Path.{Element}
use Rattle.segments.specs.Sweep.{pair_at, pair_bytes, with_tests}
use Rattle.segments.specs.Visits.{to_next, to_flags, block_bytes, Visited, decided, visit_at}
use Rattle.segments.specs.Pass.{block_set}
use Rattle.visits.specs.Visiting.{to_tests, IsMarked}
use Rattle.hints.specs.Hints.{Fits, TestsFail}
use Rattle.hints.specs.Skipping.{StepFails}
use Rattle.hints.specs.declared.hints.Hint.{Hint}
use Rattle.visits.specs.declared.blocks.Marked.{Marked}
use Rattle.visits.specs.declared.visiting.Awaited.TheVariants as segment
use Rattle.visits.proofs.CodeVisitLaws.{awaited-stays, fails-some, marked_same, visit-mark}
use Rattle.hints.proofs.CodeFailLaws.{part-first}
use Rattle.hints.proofs.CodeStepLaws.{step-sweep, decided-stays}

-- what a visit leaves of such a selector
abbrev pub Stays : List ℕ → List ℕ → ℕ → Element → List ℕ → List ℕ → Type 0
Stays code above p e own own₁ =
    let v : Visited = visit_at code (e ∷ []) above p in
    (false ≡ v.matched) × (own₁ ≡ block_set v (pair_at above (p + to_next)) p own)

-- the block that is stored
abbrev pub copied : Marked → ℕ → List ℕ → List ℕ
copied m steps own = sets own (m.block.place + to_next) (block_bytes m.block.next m.block.awaited (replicate steps 0 ++ (with_tests ∷ pair_bytes m.tests)))

-- which leaves the length of the part
pub length-copied : (m : Marked) (steps : ℕ) (own : List ℕ) → length (copied m steps own) ≡ length own
length-copied m steps own = length-sets own (m.block.place + to_next) (block_bytes m.block.next m.block.awaited (replicate steps 0 ++ (with_tests ∷ pair_bytes m.tests)))

module _ (code above : List ℕ) (p : ℕ) (h : Hint) (m : Marked) (e : Element) (fit : Fits h e) (own own₁ : List ℕ) where
  -- of one compound, whose tests fail
  pub one-stays : IsMarked above p 0 m → TestsFail code m.block.awaited m.tests h → own₁ ≡ copied m 0 own → Stays code above p e own own₁
  one-stays b f es =
      let flags : p + to_flags + 0 ≡ p + to_flags = omega arith in
      let behind : p + to_tests + 0 ≡ p + to_tests = omega arith in
      visit-mark code (e ∷ []) above own p m.block.next b.next m.block.awaited b.awaited own₁ (let t = f.there in omega arith)
      (ap (λ (i : ℕ). get_or above i 0) (sym flags) ∙ b.mark) m.tests (b.tests ∙ ap (pair_at above) behind) false
      (marked_same code (e ∷ []) above own p m.block.next m.block.awaited m.tests false (sym (f.fails e fit)) (segment.Same false) (awaited-stays code p m.block.awaited false refl) own₁
      (fails-some code (e ∷ []) m.tests m.block.awaited (f.fails e fit)) false refl
      (es ∙ ap (λ (i : ℕ). sets own (i + to_next) (block_bytes m.block.next m.block.awaited (with_tests ∷ pair_bytes m.tests))) b.place))

  -- of two, of which the right one may not end here and the left one fails
  pub two-stay : IsMarked above p 1 m → StepFails code m.block.awaited m.tests h → own₁ ≡ copied m 1 own → Stays code above p e own own₁
  unfolding block_set visit_at
  two-stay b f es = (ap (λ (v : Visited). v.matched) (sym visit-is), es ∙ rw (b.place, visit-is, b.next))
    where
      -- the flag of the right one, and the count of the left one's tests
      flag : get_or above (p + to_flags) 0 ≡ 0
      flag = sym (part-first above (p + to_flags) 1 (omega arith)) ∙ ap (λ (xs : List ℕ). get_or xs 0 0) b.flags

      tests-told : m.tests ≡ pair_at above (p + to_flags + 1 + 1)
      tests-told = let g : p + to_tests + 1 ≡ p + to_flags + 1 + 1 = omega arith in b.tests ∙ ap (pair_at above) g

      -- so a visit leaves the selector as it is
      visit-is : visit_at code (e ∷ []) above p ≡ record { matched = false; awaited = m.block.awaited; flags = 0 ∷ with_tests ∷ pair_bytes m.tests }
      visit-is =
          let far = f.far in
          let there = f.fails.there in
          rw (← b.awaited)
          (ap (decided code p m.block.awaited)
          (step-sweep code (e ∷ []) above (p + to_flags) m.block.awaited f.place m.tests (length code - 2) (omega arith) flag b.mark tests-told (f.behind (e ∷ [])) (f.fails.fails e fit))
          ∙ decided-stays code p m.block.awaited _)
