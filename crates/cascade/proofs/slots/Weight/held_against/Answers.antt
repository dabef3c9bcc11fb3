-- Importance, origin and specificity in this order, as the definition asks them.
use Rattle.std.proofs.Common.{◌∙◌, arith}
use Rattle.std.proofs.lemmas.Grind.{common_steps}
use Rattle.combinators.specs.Choice.{or}
use Rattle.cascade.specs.Slot.{held_against}
use Rattle.cascade.proofs.Orders.{derived}
use Rattle.cascade.proofs.slots.Weight.held_against.Goals as goal

pub returns-then-held_by_origin : goal.returns-then-held_by_origin
unfolding held_against or
returns-then-held_by_origin c = grind (arith, common_steps)

pub returns-else-held_by_origin : goal.returns-else-held_by_origin
unfolding held_against or
returns-else-held_by_origin c = let e = c.lt.ensures ∙ derived c.args.new.spec c.args.self.spec in grind (arith, common_steps, e)
