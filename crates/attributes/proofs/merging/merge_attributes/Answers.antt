-- Each turn merges the first attribute that is left; when none is left, all are merged and their contents lie one behind the other.
use Rattle.attributes.proofs.TurnLaws as laws
use Rattle.attributes.proofs.merging.merge_attributes.Goals as goal

pub merge_late-f-requires : goal.merge_late-f-requires
merge_late-f-requires c = laws.turn-room _ _ _ _ _ _ _ _ _ _ _ _ c.loop-i.invariant c.loop-i-test.true

pub loop-i-preserved : goal.loop-i-preserved
loop-i-preserved c = laws.turn-next _ _ _ _ _ _ _ _ _ _ _ _ c.loop-i.invariant c.loop-i-test.true _ _ _ c.merge_late-f.ensures.out_after c.merge_late-f.ensures.value c.merge_late-f.ensures.texts_after c.merge_late-f.ensures.kept

pub returns-clause-out_after : goal.returns-clause-out_after
returns-clause-out_after c = (laws.turn_end _ _ _ _ _ _ _ _ _ _ _ _ c.loop-i.invariant c.loop-i-test.false).0

pub returns-clause-value : goal.returns-clause-value
returns-clause-value c = (laws.turn_end _ _ _ _ _ _ _ _ _ _ _ _ c.loop-i.invariant c.loop-i-test.false).1.0

pub returns-clause-texts_after : goal.returns-clause-texts_after
returns-clause-texts_after c = (laws.turn_end _ _ _ _ _ _ _ _ _ _ _ _ c.loop-i.invariant c.loop-i-test.false).1.1
