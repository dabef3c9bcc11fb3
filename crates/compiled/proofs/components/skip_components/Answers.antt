-- What is left to pass from the place on is the rest of the whole; the first fault ends it.
use mathlib.Core.Path.{◌∙◌}
use Rattle.compiled.specs.Component.{component_at}
use Rattle.compiled.proofs.Answers.{raised}
use Rattle.compiled.proofs.Passing as laws
use Rattle.compiled.proofs.components.skip_components.Goals as goal

pub returns-in_err-next : goal.returns-in_err-next
returns-in_err-next c = raised _ _ c.from_residual.ensures.1 ∙ laws.passing-fault (component_at _) _ _ _ _ c.loop.invariant c.loop-test.true _ c.skip_component.ensures _ c.in_err-next.was

pub loop-preserved : goal.loop-preserved
loop-preserved c = laws.passing-more (component_at _) _ _ _ _ c.loop.invariant c.loop-test.true _ c.skip_component.ensures _ c.in_ok-next.was

pub returns : goal.returns
returns c = laws.passing-done (component_at _) _ _ _ _ c.loop.invariant c.loop-test.false
