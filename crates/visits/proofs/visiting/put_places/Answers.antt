-- Two stores, the second two bytes behind the first, are the bytes of both numbers one behind the other.
use Rattle.visits.proofs.CodeVisitLaws as laws
use Rattle.visits.proofs.visiting.put_places.Goals as goal

pub returns : goal.returns
returns c = laws.places-stored _ _ _ _ _ _ c.put_pair.ensures c.put_pair-2.ensures
