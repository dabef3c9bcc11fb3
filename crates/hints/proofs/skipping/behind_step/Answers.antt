-- A compound that may not end here is not changed by tests, up to the step that ends it.
use Rattle.hints.proofs.CodeStepLaws as laws
use Rattle.hints.proofs.skipping.behind_step.Goals as goal

pub loop-size-init : goal.loop-size-init
loop-size-init c = laws.walk-begin _ _

pub loop-size-preserved : goal.loop-size-preserved
loop-size-preserved c = laws.walk-test _ _ _ c.loop-size.invariant _ c.in-Some.ensures

pub returns : goal.returns
returns c = laws.walk-child _ _ _ c.loop-size.invariant _ c.behind_child.ensures
