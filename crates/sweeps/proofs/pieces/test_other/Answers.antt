-- A component is a step by its kind, or a test, which the element passes by what is asked of it; it has not one text.
use mathlib.Core.Path.{ap, ◌∙◌}
use Rattle.matching.specs.Matches.{first_is}
use Rattle.sweeps.specs.Met.{handed_element, handed}
use Rattle.sweeps.proofs.CodePieceLaws as laws
use Rattle.sweeps.proofs.pieces.test_other.Goals as goal

pub returns-in_err-component : goal.returns-in_err-component
returns-in_err-component c = c.from_residual.ensures ∙ laws.dropped _ _ c.ok.ensures.value c.in_err-component.was _ (λ f q. laws.fault-read _ _ _ _ _ c.read_component.ensures.value f q)

pub returns-in-Mark : goal.returns-in-Mark
returns-in-Mark c = laws.mark-read _ _ _ _ _ c.read_component.ensures.value _ (laws.kept _ _ c.ok.ensures.value _ c.in_ok-component.was) _ c.in-Mark.is _ c.mark_met.ensures

pub returns-in-Name : goal.returns-in-Name
returns-in-Name c = absurd (laws.name-absent _ (handed c.args.element.now) _ _ c.read_component.ensures.value _ (laws.kept _ _ c.ok.ensures.value _ c.in_ok-component.was) c.requires _ _ c.in-Name.is)

pub returns-in-Numbers : goal.returns-in-Numbers
unfolding handed handed_element
returns-in-Numbers c = laws.numbers-tested _ _ _ _ c.read_component.ensures.value _ (laws.kept _ _ c.ok.ensures.value _ c.in_ok-component.was) _ _ c.in-Numbers.is _ c.nth_passes.ensures

pub returns-in-Names : goal.returns-in-Names
returns-in-Names c = laws.names-tested _ _ _ _ c.read_component.ensures.value _ (laws.kept _ _ c.ok.ensures.value _ c.in_ok-component.was) _ _ c.in-Names.is _ c.part_of-word.ensures _ c.part_of-value.ensures _
    (c.attribute_is-passes.ensures ∙ ap (first_is c.part_of-word.result.now c.part_of-value.result.now) c.attributes.ensures)
