-- The four numbers are emitted from the place on.
use Rattle.combinators.proofs.Emitted.{sets-emitted}
use Rattle.syntax.proofs.writers.put_component.Goals as goal

pub returns : goal.returns
returns c = sets-emitted _ _ _ _ _ c.emit_all.ensures
