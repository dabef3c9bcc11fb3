-- The head is read and the rest is passed; a fault in either is the selector's.
use mathlib.Core.Path.{◌∙◌}
use Rattle.compiled.proofs.Answers.{raised}
use Rattle.compiled.proofs.SheetCode as laws
use Rattle.compiled.proofs.bytes.SheetBytes.skip_selector.Goals as goal

pub returns-in_err-head : goal.returns-in_err-head
returns-in_err-head c = raised _ _ c.from_residual.ensures.1 ∙ laws.selector-head-fault _ _ _ _ c.read_head.ensures.value _ c.in_err-head.was

pub returns-in_err-next : goal.returns-in_err-next
returns-in_err-next c = raised _ _ c.from_residual-in_err-next.ensures.1 ∙ laws.selector-parts-fault _ _ _ _ c.read_head.ensures.value _ c.in_ok-head.was _ c.skip_parts.ensures _ c.in_err-next.was

pub returns : goal.returns
returns c = laws.selector-skipped _ _ _ _ c.read_head.ensures.value _ c.in_ok-head.was _ c.skip_parts.ensures _ c.in_ok-next.was
