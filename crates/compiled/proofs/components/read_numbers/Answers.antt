-- Both are there, or the first fault is the component's.
use mathlib.Core.Path.{◌∙◌, ◌≡◌}
use Rattle.std.proofs.Common.{rules}
use Rattle.compiled.specs.declared.components.Written.TheVariants.{Numbers}
use Rattle.compiled.proofs.Answers.{raised}
use Rattle.compiled.proofs.ComponentCode as laws
use Rattle.compiled.proofs.components.read_numbers.Goals as goal

pub returns-in_err-a : goal.returns-in_err-a
returns-in_err-a c = raised _ _ c.from_residual.ensures.1 ∙ laws.numbers-fault _ _ _ c.read_number.ensures.value _ c.in_err-a.was

pub returns-in_err-read_number : goal.returns-in_err-read_number
returns-in_err-read_number c = raised _ _ c.from_residual-in_err-read_number.ensures.1 ∙ laws.second-number-fault _ _ _ c.read_number.ensures.value _ c.in_ok-a.was _ c.read_number-2.ensures.value _ c.in_err-read_number.was

pub returns : goal.returns
returns c =
    let e : c.map.result.value ≡ Numbers c.in_ok-a.a.value c.in_ok-read_number.field-0.value = search rules in
    rw (c.map.ensures.next, e) (laws.numbers-read _ _ _ c.read_number.ensures.value _ c.in_ok-a.was _ c.read_number-2.ensures.value _ c.in_ok-read_number.was)
