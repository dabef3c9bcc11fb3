-- A number in its range is the value, any other a fault where it starts.
use mathlib.Core.Path.{◌∙◌, ◌≡◌}
use Rattle.std.proofs.Common.{rules}
use Rattle.compiled.specs.Style.{number_up_to}
use Rattle.compiled.proofs.Answers.{raised, mapped_answer, mapped-answer}
use Rattle.compiled.proofs.styles.read_number_up_to.Goals as goal

pub returns-in_err-number : goal.returns-in_err-number
unfolding number_up_to
returns-in_err-number c = raised _ _ c.from_residual.ensures.1 ∙ mapped-answer _ _ _ c.read_ranged.ensures.value _ c.in_err-number.was

pub returns : goal.returns
unfolding number_up_to
returns c =
    let e : c.map.result.value ≡ record { number = c.in_ok-number.number.value; second = 0; start = c.args.start } = search rules in
    rw (c.map.ensures.next, e) (mapped_answer _ _ _ c.read_ranged.ensures.value _ c.in_ok-number.was)
