-- The parent does not come before, or its row is copied.
use Rattle.running.proofs.RowSteps as laws
use Rattle.running.proofs.rows.place_parent.Goals as goal

pub returns-else-parent-row : goal.returns-else-parent-row
returns-else-parent-row c = laws.parent-none c.args.nodes.now c.args.rows.now c.args.row _ c.parent_of-parent.ensures.value c.if-parent-row.false

pub returns-then-parent-row : goal.returns-then-parent-row
returns-then-parent-row c = laws.parent-placed c.args.nodes.now c.args.rows.now c.args.row _ c.parent_of-parent.ensures.value c.if-parent-row.true _ c.copy_within.ensures
