-- The segment that `segment_before` finds is the one of the definition, so its place and its fresh flags are the block that is to be stored.
use Rattle.visits.proofs.CodeVisitLaws as laws
use Rattle.visits.proofs.visiting.put_awaits.Goals as goal

pub returns : goal.returns
returns c = laws.awaits-stored _ _ _ _ _ _ _ _ _ c.segment_before-segment.ensures.tests_value c.put_places.ensures c.put_fresh.ensures
