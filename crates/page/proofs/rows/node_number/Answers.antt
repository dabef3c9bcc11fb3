-- The number stands at the row times its width and the column, in a row that is there whole as in any other.
use Rattle.std.proofs.Common.{refl}
use Rattle.page.specs.Rows.{node_number}
use Rattle.page.proofs.rows.node_number.Goals as goal

pub returns-then-column-lt-NODE_WIDTH-clause-value : goal.returns-then-column-lt-NODE_WIDTH-clause-value
unfolding node_number
returns-then-column-lt-NODE_WIDTH-clause-value c = refl

pub returns-clause-value : goal.returns-clause-value
unfolding node_number
returns-clause-value c = c.number_in.ensures
