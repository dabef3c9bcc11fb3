-- What was added, of the components so far, is their specificity; each adds at most one to a count, so the sums fit.
use Rattle.matching.proofs.ComponentLaws.{add_begin, add-fits, add-more}
use borrow.Author.Rules.{rules}
use Rattle.matching.proofs.components.specificity.Goals as goal

pub loop-i-init : goal.loop-i-init
loop-i-init c = add_begin _ _

pub add-result-requires : goal.add-result-requires
add-result-requires c = add-fits _ _ _ _ c.loop-i.invariant c.loop-i-test.true _ c.component_number-kind.ensures _ c.added_by.ensures (search rules)

pub loop-i-preserved : goal.loop-i-preserved
loop-i-preserved c = add-more _ _ _ _ c.loop-i.invariant c.loop-i-test.true _ c.component_number-kind.ensures _ c.added_by.ensures _ c.add-result.ensures
