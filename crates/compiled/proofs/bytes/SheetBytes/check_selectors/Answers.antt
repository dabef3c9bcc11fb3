-- The selectors are passed, and the bytes end where they do.
use mathlib.Core.Path.{◌∙◌}
use Rattle.compiled.proofs.Answers.{raised}
use Rattle.compiled.proofs.SheetCode as laws
use Rattle.compiled.proofs.bytes.SheetBytes.check_selectors.Goals as goal

pub returns-in_err-end : goal.returns-in_err-end
returns-in_err-end c = raised _ _ c.from_residual.ensures.1 ∙ laws.whole-fault _ _ _ _ c.skip_selectors.ensures _ c.in_err-end.was

pub returns-then-end-self : goal.returns-then-end-self
returns-then-end-self c = laws.whole-sheet _ _ _ _ c.skip_selectors.ensures _ c.in_ok-end.was c.if-end-self.true

pub returns-else-end-self : goal.returns-else-end-self
returns-else-end-self c = laws.whole-left _ _ _ _ c.skip_selectors.ensures _ c.in_ok-end.was c.if-end-self.false
