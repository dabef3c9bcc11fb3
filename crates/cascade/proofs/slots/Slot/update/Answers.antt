-- Each cascade by its own function.
use Rattle.std.proofs.Common.{arith}
use Rattle.std.proofs.lemmas.Grind.{common_steps}
use Rattle.cascade.specs.Slot.{update_by}
use Rattle.cascade.proofs.slots.Slot.update.Goals as goal

pub returns-in-Crate : goal.returns-in-Crate
unfolding update_by
returns-in-Crate c = grind (arith, common_steps)

pub returns-in-Book : goal.returns-in-Book
unfolding update_by
returns-in-Book c = grind (arith, common_steps)
