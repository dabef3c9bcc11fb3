-- Of a head that is read the leftmost segment is awaited, which is the one before no place; of a fault a segment of no steps and no tests, at no place.
use Rattle.visits.proofs.CodeDocumentLaws as laws
use Rattle.visits.proofs.document.put_leftmost.Goals as goal

pub returns-in-Ok : goal.returns-in-Ok
returns-in-Ok c = laws.leftmost-read _ _ _ _ _ c.read_head.ensures.value _ _ c.in-Ok.is c.put_awaits.ensures

pub returns-in-Err : goal.returns-in-Err
returns-in-Err c = laws.leftmost-fault _ _ _ _ _ c.read_head.ensures.value _ _ c.in-Err.is c.put_places.ensures _ (rw (c.beginning.ensures) at c.put_fresh.ensures)
