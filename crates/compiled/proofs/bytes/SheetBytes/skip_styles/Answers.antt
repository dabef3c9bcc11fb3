-- The count is read, and so many styles are passed one behind the other; the first fault ends it.
use mathlib.Core.Path.{◌∙◌}
use Rattle.compiled.specs.Style.{style_at}
use Rattle.compiled.proofs.Answers.{raised}
use Rattle.compiled.proofs.Passing as passing
use Rattle.compiled.proofs.StyleCode as laws
use Rattle.compiled.proofs.bytes.SheetBytes.skip_styles.Goals as goal

pub returns-in_err-next : goal.returns-in_err-next
returns-in_err-next c = raised _ _ c.from_residual.ensures.1 ∙ laws.styles-fault _ _ _ c.read_number.ensures.value _ c.in_err-next.was

pub returns-in_err-next-2 : goal.returns-in_err-next-2
returns-in_err-next-2 c = raised _ _ c.from_residual-in_err-next-2.ensures.1 ∙ passing.passing-fault (style_at _) _ _ _ _ c.loop.invariant c.loop-test.true _ c.skip_style.ensures _ c.in_err-next-2.was ∙ laws.counted_styles _ _ _ c.read_number.ensures.value _ c.in_ok-next.was

pub loop-preserved : goal.loop-preserved
loop-preserved c = passing.passing-more (style_at _) _ _ _ _ c.loop.invariant c.loop-test.true _ c.skip_style.ensures _ c.in_ok-next-2.was

pub returns : goal.returns
returns c = passing.passing-done (style_at _) _ _ _ _ c.loop.invariant c.loop-test.false ∙ laws.counted_styles _ _ _ c.read_number.ensures.value _ c.in_ok-next.was
