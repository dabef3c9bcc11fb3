-- What is left to pass from the place on, with the origin so far, is the rest of the whole; the first fault ends it.
use mathlib.Core.Path.{◌∙◌}
use Rattle.compiled.proofs.Answers.{raised}
use Rattle.compiled.proofs.SheetCode as laws
use Rattle.compiled.proofs.bytes.SheetBytes.skip_selectors.Goals as goal

pub returns-in_err-last : goal.returns-in_err-last
returns-in_err-last c = raised _ _ c.from_residual.ensures.1 ∙ laws.selecting-fault _ _ _ _ _ _ c.loop.invariant c.loop-test.true _ c.skip_selector.ensures _ c.in_err-last.was

pub loop-preserved : goal.loop-preserved
loop-preserved c = laws.selecting-more _ _ _ _ _ _ c.loop.invariant c.loop-test.true _ c.skip_selector.ensures _ c.in_ok-last.was

pub returns : goal.returns
returns c = laws.selecting_done _ _ _ _ _ _ c.loop.invariant c.loop-test.false
