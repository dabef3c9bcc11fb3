-- Each turn passes over those that surely fail, of which none matches, then stores the block of one selector and merges what it declares.
use mathlib.Core.List.{[], ◌∷◌}
use Rattle.sweeps.specs.Met.{handed}
use Rattle.stepping.proofs.PassingLaws as laws
use Rattle.stepping.proofs.passing.pass_found.Given as goal

abbrev pub invariant-loop-skipped : goal.invariant-loop-skipped
invariant-loop-skipped l = laws.Finding l.compiled (handed l.element ∷ []) l.above l.initial.own l.initial.out l.first l.count l.own l.out l.place l.left

abbrev pub decreases-loop-skipped : goal.decreases-loop-skipped
decreases-loop-skipped l = l.left
