-- The parts of the parent and of the element stand side by side in the state.
use Rattle.stepping.proofs.StepLaws as laws
use Rattle.stepping.proofs.step.open_element.Goals as goal

pub returns : goal.returns
returns c =
    let w = c.part_width-width.ensures in
    rw (c.split_at_mut-rest.ensures.front, w) (laws.element-opened _ _ c.requires.open_lent _ c.requires.below _ _ _ _ _ _ _ _ _ _ (rw w at c.split_at_mut-rest.ensures.back) (rw w at c.split_at_mut-above.ensures.front) (rw w at c.split_at_mut-above.ensures.back) c.open_child.auto.above (rw w at c.open_child.auto.own) (rw w at c.open_child.ensures))
