-- The number stands at the row times its width and the column, in a row that is there whole as in any other.
use Rattle.std.proofs.Common.{refl}
use Rattle.page.specs.Rows.{attribute_number}
use Rattle.page.proofs.rows.attribute_number.Goals as goal

pub returns-then-column-lt-ATTRIBUTE_WIDTH-clause-value : goal.returns-then-column-lt-ATTRIBUTE_WIDTH-clause-value
unfolding attribute_number
returns-then-column-lt-ATTRIBUTE_WIDTH-clause-value c = refl

pub returns-clause-value : goal.returns-clause-value
unfolding attribute_number
returns-clause-value c = c.number_in.ensures
