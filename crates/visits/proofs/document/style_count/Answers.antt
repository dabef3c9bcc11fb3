-- Behind the numbers before its components and the components stands the count, and the first fault is the fault.
use mathlib.Core.Path.{◌∙◌}
use Rattle.compiled.proofs.Answers.{raised}
use Rattle.visits.proofs.CodeStyledLaws as laws
use Rattle.visits.proofs.document.style_count.Goals as goal

pub returns-in_err-head : goal.returns-in_err-head
returns-in_err-head c = raised _ _ c.from_residual.ensures.1 ∙ laws.count-headless _ _ _ c.read_head.ensures.value _ c.in_err-head.was

pub returns-in_err-end : goal.returns-in_err-end
returns-in_err-end c = raised _ _ c.from_residual-in_err-end.ensures.1 ∙ laws.count-fault _ _ _ c.read_head.ensures.value _ c.in_ok-head.was _ c.skip_components.ensures _ c.in_err-end.was

pub returns : goal.returns
returns c = laws.count-told _ _ _ c.read_head.ensures.value _ c.in_ok-head.was _ c.skip_components.ensures _ c.in_ok-end.was _ c.read_number.ensures.value
