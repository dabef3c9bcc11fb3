-- The total so far and what the rows from here up ask for are what all rows ask for.
use Rattle.styling.proofs.FrontLaws as laws
use Rattle.styling.proofs.front.path_room.Goals as goal

pub loop-above-init : goal.loop-above-init
loop-above-init c = laws.climb-begin _ _ _

pub attributes_room-total-requires : goal.attributes_room-total-requires
attributes_room-total-requires c = laws.climb-counted _ _ _ _ _ c.loop-above.invariant _ _ c.first_attribute-first.ensures.upper_bound c.attribute_count-count.ensures.upper_bound

pub returns-then-parent-above : goal.returns-then-parent-above
returns-then-parent-above c = let t : goal.returns-then-parent-above-raw c = laws.climb-done _ _ _ _ _ c.loop-above.invariant _ _ c.first_attribute-first.ensures.value c.attribute_count-count.ensures.value _ c.attributes_room-total.ensures.value c.attributes_room-total.ensures.upper_bound _ c.parent_of-parent.ensures.value c.if-parent-above.true in record { value = t.0; upper_bound = t.1 }

pub loop-above-preserved : goal.loop-above-preserved
loop-above-preserved c = laws.climb-on _ _ _ _ _ c.loop-above.invariant _ _ c.first_attribute-first.ensures.value c.attribute_count-count.ensures.value _ c.attributes_room-total.ensures.value c.attributes_room-total.ensures.upper_bound _ c.parent_of-parent.ensures.value c.if-parent-above.false
