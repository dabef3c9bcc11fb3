-- The slot that holds a candidate is what the definition says of it.
use Rattle.std.proofs.Common.{refl}
use Rattle.cascade.specs.Slot.{held_by}
use Rattle.cascade.proofs.slots.Slot.new.Goals as goal

pub returns : goal.returns
unfolding held_by
returns c = refl
