-- A filled slot stays, an empty one takes the value.
use Rattle.std.proofs.Common.{arith}
use Rattle.std.proofs.lemmas.Grind.{common_steps}
use Rattle.cascade.specs.Slot.{fill_update, held_by}
use Rattle.cascade.proofs.slots.Slot.fill.Goals as goal

pub returns : goal.returns
unfolding fill_update held_by
returns c = grind (arith, common_steps)
