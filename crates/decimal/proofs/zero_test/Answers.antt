-- The digits before the point are looked at first; where all are 0, those behind it count on.
use Rattle.std.proofs.Common.{rules}
use Rattle.decimal.specs.Places.{places}
use Rattle.decimal.proofs.Parts as laws
use Rattle.decimal.proofs.zero_test.Goals as goal

pub overflow_add-result : goal.overflow_add-result
overflow_add-result c = search (rules, laws.test-within _ _ _ c.test_digits-rest.ensures)

pub returns-then-whole : goal.returns-then-whole
unfolding places
returns-then-whole c = search (rules, laws.zero-before)

pub returns-else-whole : goal.returns-else-whole
returns-else-whole c = search (rules, laws.not-zero-before)
