-- A compound that may not end here is not changed by tests, up to the step that ends it.
use Prim.Native.Nat.{◌-◌}
use lib.ListN.{length}
use Rattle.hints.proofs.CodeStepLaws as laws
use Rattle.hints.proofs.skipping.behind_step.Given as goal

abbrev pub invariant-loop-size : goal.invariant-loop-size
invariant-loop-size l = laws.Walking l.compiled l.first l.next

abbrev pub decreases-loop-size : goal.decreases-loop-size
decreases-loop-size l = length l.compiled - l.next
