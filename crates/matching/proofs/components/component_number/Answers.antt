-- The number stands at the row times its width and the column.
use Rattle.matching.specs.Rows.{component_number}
use Rattle.matching.proofs.components.component_number.Goals as goal

pub returns : goal.returns
unfolding component_number
returns c = c.number_in.ensures
