-- What is counted so far is the count of the first rows, and no more than they are.
use Rattle.page.proofs.Children as laws
use Rattle.page.proofs.ancestors.element_children.Goals as goal

pub loop-row-init : goal.loop-row-init
loop-row-init c = laws.count-begin _ _

pub loop-row-preserved : goal.loop-row-preserved
loop-row-preserved c = rw c.from-count.ensures (laws.count-on _ _ _ _ c.loop-row.invariant _ c.is_element_child.ensures)
