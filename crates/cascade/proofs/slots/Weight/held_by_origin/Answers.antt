-- The order of origins, turned round where the new value is important.
use Rattle.std.proofs.Common.{arith}
use Rattle.std.proofs.lemmas.Grind.{common_steps}
use Rattle.combinators.specs.Choice.{pick}
use Rattle.cascade.specs.Slot.{held_by_origin}
use Rattle.cascade.proofs.slots.Weight.held_by_origin.Goals as goal

pub returns-then-new : goal.returns-then-new
unfolding held_by_origin pick
returns-then-new c = grind (arith, common_steps)

pub returns-else-new : goal.returns-else-new
unfolding held_by_origin pick
returns-else-new c = grind (arith, common_steps)
