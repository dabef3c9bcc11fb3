-- The row is stored from the place on.
use mathlib.Core.Path.{◌≡◌, ap, ◌∙◌}
use native.Mathlib.Omega.{arith}
use lib.ListN.{length}
use lib.Seq.{sets}
use Rattle.syntax.specs.Layout.{row_of_numbers}
use Rattle.syntax.proofs.RowSizes.{length-style}
use Rattle.cascade.proofs.Windows.{part-sets}
use Rattle.rule_styles.proofs.rows.write_style.Goals as goal

pub returns : goal.returns
returns c =
    let x = c.args in
    let numbers : c.copy_from_slice.new.self ≡ row_of_numbers x.style = c.copy_from_slice.ensures.after ∙ c.row.ensures in
    part-sets x.rows.now x.at _ (omega arith) _ (omega (arith, ap length numbers, length-style x.style)) ∙ ap (sets x.rows.now x.at) numbers
