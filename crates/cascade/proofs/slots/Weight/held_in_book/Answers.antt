-- The ranks decide, and where they are equal the specificity.
use Rattle.std.proofs.Common.{◌∙◌, arith}
use Rattle.std.proofs.lemmas.Grind.{common_steps}
use Rattle.combinators.specs.Choice.{pick}
use Rattle.cascade.specs.Slot.{rank_of, weaker, held_in_book}
use Rattle.cascade.specs.Specificity.{less_then}
use Rattle.cascade.proofs.Orders.{derived}
use Rattle.cascade.proofs.slots.Weight.held_in_book.Goals as goal

pub returns-then-lt : goal.returns-then-lt
unfolding held_in_book weaker rank_of less_then pick
returns-then-lt c = grind (arith, common_steps)

pub returns-then-eq : goal.returns-then-eq
unfolding held_in_book weaker rank_of less_then pick
returns-then-eq c = let e = c.lt-then-eq.ensures ∙ derived c.args.new.spec c.args.self.spec in grind (arith, common_steps, e)

pub returns-else-eq : goal.returns-else-eq
unfolding held_in_book weaker rank_of less_then pick
returns-else-eq c = grind (arith, common_steps)
