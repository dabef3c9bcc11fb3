-- What is awaited next decides what is told: the same segment with the flags behind its first compound, or the one before it, of which nothing has begun.
use Rattle.visits.proofs.CodeVisitLaws as laws
use Rattle.visits.proofs.visiting.visit_swept.Goals as goal

pub returns-in-Same : goal.returns-in-Same
returns-in-Same c = let t : goal.returns-in-Same-raw c = laws.swept_same _ _ _ _ _ _ _ _ _ c.next_awaited.ensures _ _ c.in-Same.is c.put_stays.ensures in record { value = t.0; own_after = t.1 }

pub returns-in-Before : goal.returns-in-Before
returns-in-Before c = let t : goal.returns-in-Before-raw c = laws.swept-before _ _ _ _ _ _ _ _ _ c.next_awaited.ensures _ _ _ c.in-Before.is c.put_awaits.ensures in record { value = t.0; own_after = t.1 }
