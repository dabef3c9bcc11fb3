-- An empty slot takes the value; a filled one keeps its own exactly where that is held against the new.
use Rattle.std.proofs.Common.{arith}
use Rattle.std.proofs.lemmas.Grind.{common_steps}
use Rattle.combinators.specs.Choice.{pick}
use Rattle.cascade.specs.Slot.{maybe_update, held_by}
use Rattle.cascade.proofs.slots.Slot.maybe_update.Goals as goal

pub returns-in-Some : goal.returns-in-Some
unfolding maybe_update held_by pick
returns-in-Some c = grind (arith, common_steps)

pub returns-in_default : goal.returns-in_default
unfolding maybe_update held_by pick
returns-in_default c = grind (arith, common_steps)
