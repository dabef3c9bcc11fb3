-- The text is the component's, or its fault is.
use mathlib.Core.Path.{◌∙◌, ◌≡◌}
use Rattle.std.proofs.Common.{rules}
use Rattle.compiled.specs.declared.components.Written.TheVariants.{Name}
use Rattle.compiled.proofs.Answers.{raised}
use Rattle.compiled.proofs.ComponentCode as laws
use Rattle.compiled.proofs.components.read_name.Goals as goal

pub returns-in_err-read_text : goal.returns-in_err-read_text
returns-in_err-read_text c = raised _ _ c.from_residual.ensures.1 ∙ laws.name-fault _ _ _ c.read_text.ensures.value _ _ c.in_err-read_text.was

pub returns : goal.returns
returns c =
    let e : c.map.result.value ≡ Name c.args.kind c.in_ok-read_text.field-0.value = search rules in
    rw (c.map.ensures.next, e) (laws.name-read _ _ _ c.read_text.ensures.value _ _ c.in_ok-read_text.was)
