-- The kind and the parent, each by its own test.
use Rattle.std.proofs.Common.{arith}
use Rattle.std.proofs.lemmas.Grind.{common_steps}
use Rattle.combinators.specs.Choice.{and, is}
use Rattle.page.specs.Ancestors.{is_element_child}
use Rattle.page.proofs.ancestors.is_element_child.Goals as goal

pub returns-then-kind_of-eq-ELEMENT : goal.returns-then-kind_of-eq-ELEMENT
unfolding is_element_child and is
returns-then-kind_of-eq-ELEMENT c = grind (arith, common_steps)

pub returns-else-kind_of-eq-ELEMENT : goal.returns-else-kind_of-eq-ELEMENT
unfolding is_element_child and is
returns-else-kind_of-eq-ELEMENT c = grind (arith, common_steps)
