-- A short component ends behind its size, and whatever else was read where the answer says; a fault stays one.
use mathlib.Core.Path.{◌∙◌}
use Rattle.compiled.proofs.Answers.{raised}
use Rattle.compiled.proofs.ComponentCode as laws
use Rattle.compiled.proofs.ShortCode as short
use Rattle.compiled.proofs.components.skip_component.Goals as goal

pub returns-in-Some : goal.returns-in-Some
returns-in-Some c = short.short-skipped _ _ _ c.in-Some.ensures

pub returns-in_err-read_component-in-None : goal.returns-in_err-read_component-in-None
returns-in_err-read_component-in-None c = raised _ _ c.from_residual.ensures.1 ∙ laws.component-unskipped _ _ _ c.read_component.ensures.value _ c.in_err-read_component-in-None.was

pub returns-in_ok-read_component-in-None : goal.returns-in_ok-read_component-in-None
returns-in_ok-read_component-in-None c = laws.component-skipped _ _ _ c.read_component.ensures.value _ c.in_ok-read_component-in-None.was
