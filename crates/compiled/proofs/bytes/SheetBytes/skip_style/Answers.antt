-- Whatever was read ends where the answer says; a fault stays one.
use mathlib.Core.Path.{◌∙◌}
use Rattle.compiled.proofs.Answers.{raised}
use Rattle.compiled.proofs.StyleCode as laws
use Rattle.compiled.proofs.bytes.SheetBytes.skip_style.Goals as goal

pub returns-in_err-read_style : goal.returns-in_err-read_style
returns-in_err-read_style c = raised _ _ c.from_residual.ensures.1 ∙ laws.style-unskipped _ _ _ c.read_style.ensures.value _ c.in_err-read_style.was

pub returns : goal.returns
returns c = laws.style-skipped _ _ _ c.read_style.ensures.value _ c.in_ok-read_style.was
