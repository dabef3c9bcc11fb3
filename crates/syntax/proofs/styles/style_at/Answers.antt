-- The five numbers of the row, whatever they are, are those of the style.
use Rattle.combinators.specs.Choice.{is}
use Rattle.syntax.specs.Layout.{flag_of}
use Rattle.syntax.proofs.StyleRead.{row_read}
use Rattle.syntax.proofs.styles.style_at.Goals as goal

pub returns : goal.returns
unfolding flag_of is
returns c = let x = c.args in
    row_read x.rows.now x.at _ _ _ _ _ c.number_at-3.ensures c.number_at-4.ensures c.number_at-5.ensures c.number_at.ensures c.number_at-2.ensures
