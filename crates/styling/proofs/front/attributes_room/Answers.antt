-- The total so far and what is left to add give what all attribute rows give; over the limit it stays.
use native.Mathlib.Omega.{arith}
use Rattle.styling.proofs.FrontLaws as laws
use Rattle.styling.proofs.front.attributes_room.Goals as goal

pub loop-row-init : goal.loop-row-init
loop-row-init c = laws.add_begin _ _ _ _ _ (omega arith) c.requires

pub returns-then-total-gt-ROOM_LIMIT : goal.returns-then-total-gt-ROOM_LIMIT
returns-then-total-gt-ROOM_LIMIT c = let t : goal.returns-then-total-gt-ROOM_LIMIT-raw c = laws.add-over _ _ _ _ _ _ _ c.loop-row.invariant (omega arith) c.if-total-gt-ROOM_LIMIT.true in record { value = t.0; upper_bound = t.1 }

pub loop-row-preserved : goal.loop-row-preserved
loop-row-preserved c = laws.add-on _ _ _ _ _ _ _ c.loop-row.invariant (omega arith) c.if-total-gt-ROOM_LIMIT.false _ c.value_length.ensures.value c.value_length.ensures.upper_bound _ (omega arith)

pub returns : goal.returns
returns c = let t : goal.returns-raw c = laws.add_done _ _ _ _ _ _ _ c.loop-row.invariant (omega arith) in record { value = t.0; upper_bound = t.1 }
