-- The five numbers are emitted from the place on.
use Rattle.combinators.proofs.Emitted.{sets-emitted}
use Rattle.declarations.specs.DeclRow.{row_by}
use Rattle.declarations.proofs.rows.put_declaration.Goals as goal

pub returns : goal.returns
unfolding row_by
returns c = sets-emitted _ _ _ _ _ (rw (c.flag_of.ensures, c.value_of.ensures) at c.emit_all.ensures)
