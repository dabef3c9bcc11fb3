-- Both are there, or the first fault is the component's.
use mathlib.Core.Path.{◌∙◌, ◌≡◌}
use Rattle.std.proofs.Common.{rules}
use Rattle.compiled.specs.declared.components.Written.TheVariants.{Names}
use Rattle.compiled.proofs.Answers.{raised}
use Rattle.compiled.proofs.ComponentCode as laws
use Rattle.compiled.proofs.components.read_names.Goals as goal

pub returns-in_err-name : goal.returns-in_err-name
returns-in_err-name c = raised _ _ c.from_residual.ensures.1 ∙ laws.names-fault _ _ _ c.read_text.ensures.value _ c.in_err-name.was

pub returns-in_err-read_text : goal.returns-in_err-read_text
returns-in_err-read_text c = raised _ _ c.from_residual-in_err-read_text.ensures.1 ∙ laws.second-name-fault _ _ _ c.read_text.ensures.value _ c.in_ok-name.was _ c.read_text-2.ensures.value _ c.in_err-read_text.was

pub returns : goal.returns
returns c =
    let e : c.map.result.value ≡ Names c.in_ok-name.name.value c.in_ok-read_text.field-0.value = search rules in
    rw (c.map.ensures.next, e) (laws.names-read _ _ _ c.read_text.ensures.value _ c.in_ok-name.was _ c.read_text-2.ensures.value _ c.in_ok-read_text.was)
