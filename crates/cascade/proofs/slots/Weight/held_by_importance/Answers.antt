-- Both marks as the definition asks them.
use Rattle.std.proofs.Common.{arith}
use Rattle.std.proofs.lemmas.Grind.{common_steps}
use Rattle.combinators.specs.Choice.{pick}
use Rattle.cascade.specs.Slot.{held_by_importance}
use Rattle.cascade.proofs.slots.Weight.held_by_importance.Goals as goal

pub returns-then-self : goal.returns-then-self
unfolding held_by_importance pick
returns-then-self c = grind (arith, common_steps)

pub returns-else-self : goal.returns-else-self
unfolding held_by_importance pick
returns-else-self c = grind (arith, common_steps)
