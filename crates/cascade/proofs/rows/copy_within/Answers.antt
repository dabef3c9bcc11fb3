-- The numbers copied are those of the part.
use mathlib.Core.Path.{◌∙◌}
use native.Mathlib.Omega.{arith}
use Rattle.cascade.specs.Row.{style_row_width}
use Rattle.cascade.proofs.Windows.{part-copied}
use Rattle.cascade.proofs.rows.copy_within.Goals as goal

pub returns : goal.returns
returns c = c.copy_within.ensures.after ∙ part-copied c.args.rows.now c.args.parent c.args.child style_row_width (omega arith) (omega arith)
