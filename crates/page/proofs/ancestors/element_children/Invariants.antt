-- What is counted so far is the count of the first rows, and no more than they are.
use Rattle.page.proofs.Children as laws
use Rattle.page.proofs.ancestors.element_children.Given as goal

abbrev pub invariant-loop-row : goal.invariant-loop-row
invariant-loop-row l = laws.Counting l.nodes l.parent l.count l.row
