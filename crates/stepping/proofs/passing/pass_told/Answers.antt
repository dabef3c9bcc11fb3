-- The row of the document has no element.
use Rattle.sweeps.specs.Met.{row_alone}
use Rattle.stepping.proofs.passing.pass_told.Goals as goal

pub returns : goal.returns
unfolding row_alone
returns c = c.pass_blocks.ensures
