-- The row is on the page and an element, or it is not.
use Rattle.styling.proofs.StyleTurns as laws
use Rattle.styling.proofs.style.is_element.Goals as goal

pub returns-then-row-node_count : goal.returns-then-row-node_count
returns-then-row-node_count c = laws.element-there _ _ _ c.node_count.ensures c.if-row-node_count.true _ c.kind_of.ensures

pub returns-else-row-node_count : goal.returns-else-row-node_count
returns-else-row-node_count c = laws.element-beyond _ _ _ c.node_count.ensures c.if-row-node_count.false
