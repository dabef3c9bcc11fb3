-- An even number stands for its half, an odd one for the negative number below it.
use Rattle.matching.proofs.Signed.{signed-even, signed_odd}
use Rattle.matching.proofs.nth.signed_of.Goals as goal

pub returns-then-v-eq0-clause-value : goal.returns-then-v-eq0-clause-value
returns-then-v-eq0-clause-value c = search signed-even

pub returns-else-v-eq0-clause-value : goal.returns-else-v-eq0-clause-value
returns-else-v-eq0-clause-value c = search signed_odd
