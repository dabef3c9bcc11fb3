-- Each turn copies one block that stays; what is left has the result of the whole.
use native.Mathlib.Omega.{arith}
use Rattle.hints.proofs.CodeSkipLaws as laws
use Rattle.hints.proofs.skipping.skip_failing.Goals as goal

pub returns-then-place-eq-NO_PLACE-clause-skips : goal.returns-then-place-eq-NO_PLACE-clause-skips
returns-then-place-eq-NO_PLACE-clause-skips c = laws.skip-none _ _ _ _ _ _ _ _ _ c.loop-behind.invariant c.if-place-eq-NO_PLACE.true

pub loop-behind-preserved-in-loop-behind : goal.loop-behind-preserved-in-loop-behind
loop-behind-preserved-in-loop-behind c = laws.skip-one _ _ _ _ _ _ _ _ _ c.loop-behind.invariant (omega arith) (omega (arith, c.if-place-eq-NO_PLACE.false)) _ _ c.in-Some.ensures (c.tests_fail.ensures c.if-tests_fail.true) c.put_marked.ensures

pub loop-behind-preserved : goal.loop-behind-preserved
loop-behind-preserved c = laws.skip-two _ _ _ _ _ _ _ _ _ c.loop-behind.invariant (omega arith) (omega (arith, c.if-place-eq-NO_PLACE.false)) _ _ c.in-Some-marked_block.ensures (c.step_fails.ensures c.if-step_fails.true) c.put_marked-in_default.ensures

pub returns-in_default-clause-skips : goal.returns-in_default-clause-skips
returns-in_default-clause-skips c = laws.skip-left _ _ _ _ _ _ _ _ _ c.loop-behind.invariant _ (omega arith)

pub returns-clause-skips : goal.returns-clause-skips
returns-clause-skips c = laws.skip-end _ _ _ _ _ _ _ _ _ c.loop-behind.invariant (omega arith)
