-- A component is a step by its kind, or a test, which the document does not pass unless it is star.
use mathlib.Core.Path.{◌∙◌}
use Rattle.sweeps.proofs.CodePieceLaws as laws
use Rattle.sweeps.proofs.pieces.pass_long.Goals as goal

pub returns-in_err-component : goal.returns-in_err-component
returns-in_err-component c = c.from_residual.ensures ∙ laws.dropped _ _ c.ok.ensures.value c.in_err-component.was _ (λ f q. laws.fault-read _ _ _ _ _ c.read_component.ensures.value f q)

pub returns-in-Mark : goal.returns-in-Mark
returns-in-Mark c = laws.mark-read _ _ _ _ _ c.read_component.ensures.value _ (laws.kept _ _ c.ok.ensures.value _ c.in_ok-component.was) _ c.in-Mark.is _ c.mark_met.ensures

pub returns-in_default : goal.returns-in_default
returns-in_default c = laws.unmarked-passed _ _ _ _ c.read_component.ensures.value _ (laws.kept _ _ c.ok.ensures.value _ c.in_ok-component.was) c.in_default.not-Mark
