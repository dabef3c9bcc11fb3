-- The components are passed, and the styles behind them; the first fault ends it.
use mathlib.Core.Path.{◌∙◌}
use Rattle.compiled.proofs.Answers.{raised}
use Rattle.compiled.proofs.SheetCode as laws
use Rattle.compiled.proofs.bytes.SheetBytes.skip_parts.Goals as goal

pub returns-in_err-styles : goal.returns-in_err-styles
returns-in_err-styles c = raised _ _ c.from_residual.ensures.1 ∙ laws.parts-fault _ _ _ _ c.skip_components.ensures _ c.in_err-styles.was

pub returns : goal.returns
returns c = laws.parts-skipped _ _ _ _ c.skip_components.ensures _ c.in_ok-styles.was _ c.skip_styles.ensures
