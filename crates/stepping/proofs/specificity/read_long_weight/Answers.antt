-- Each kind of component adds what its kind says.
use mathlib.Core.Path.{◌∙◌}
use Rattle.compiled.proofs.Answers.{raised}
use Rattle.stepping.proofs.WeightLaws as laws
use Rattle.stepping.proofs.specificity.read_long_weight.Goals as goal

pub returns-in_err-read_component : goal.returns-in_err-read_component
returns-in_err-read_component c = raised _ _ c.from_residual.ensures.1 ∙ laws.fault-weight _ _ _ c.read_component.ensures.value _ c.in_err-read_component.was

pub returns : goal.returns
returns c = laws.long-made _ _ _ c.read_component.ensures.value _ c.in_ok-read_component.was _ c.map.ensures.next c.map.ensures.value
