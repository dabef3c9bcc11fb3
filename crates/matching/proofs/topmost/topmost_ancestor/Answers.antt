-- What is found from a row of the path on is what is found from the first row on, and the number that decides is right for each.
use Rattle.matching.proofs.BelowLaws as laws
use Rattle.matching.proofs.topmost.topmost_ancestor.Goals as goal

pub loop-row-init : goal.loop-row-init
loop-row-init c = laws.seek-begin _ _ _ _ _ _ _ _ c.args.element.rooted c.requires

pub matches_below-requires : goal.matches_below-requires
matches_below-requires c = laws.up_right _ _ _ _ _ _ _ _ _ _ c.loop-row.invariant c.loop-row-test.true _ c.parent_of-row.ensures.value

pub loop-row-preserved-then-matches_below : goal.loop-row-preserved-then-matches_below
loop-row-preserved-then-matches_below c = laws.seek_found _ _ _ _ _ _ _ _ _ _ c.loop-row.invariant c.loop-row-test.true _ c.parent_of-row.ensures.value _ c.matches_below.ensures c.if-matches_below.true

pub loop-row-preserved : goal.loop-row-preserved
loop-row-preserved c = laws.seek-on _ _ _ _ _ _ _ _ _ _ c.loop-row.invariant c.loop-row-test.true _ c.parent_of-row.ensures.value _ c.matches_below.ensures c.if-matches_below.false

pub returns : goal.returns
returns c = laws.seek-told _ _ _ (laws.seek-end _ _ _ _ _ _ _ _ _ _ c.loop-row.invariant c.loop-row-test.false)
