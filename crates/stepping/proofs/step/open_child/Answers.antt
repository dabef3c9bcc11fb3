-- What is passed at the element is read from its parent's part with the count raised.
use Rattle.sweeps.specs.Met.{handed}
use Rattle.stepping.proofs.StepLaws as laws
use Rattle.stepping.proofs.step.open_child.Goals as goal

pub returns : goal.returns
unfolding handed
returns c = laws.child-opened _ _ _ _ _ _ _ _ _ c.name_of.ensures c.pair_at-place.ensures.value _ _ _ _ _ c.put_pair.ensures c.inherit.ensures c.pass_element.ensures.own_after c.pass_element.ensures.out_after c.put_pair-2.ensures
