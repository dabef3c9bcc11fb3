-- What is awaited next decides what is told: of the same segment, which has a test, the block stays; of another nothing has begun.
use Rattle.visits.proofs.CodeVisitLaws as laws
use Rattle.visits.proofs.visiting.visit_marked.Goals as goal

pub returns-in-Same : goal.returns-in-Same
returns-in-Same c = let t : goal.returns-in-Same-raw c = laws.marked_same _ _ _ _ _ _ _ _ _ c.tests_pass-ends.ensures _ c.next_awaited.ensures _ c.requires.some _ c.in-Same.is c.put_marked.ensures in record { value = t.0; own_after = t.1 }

pub returns-in-Before : goal.returns-in-Before
returns-in-Before c = let t : goal.returns-in-Before-raw c = laws.marked-before _ _ _ _ _ _ _ _ _ c.tests_pass-ends.ensures _ c.next_awaited.ensures _ _ _ c.in-Before.is c.put_awaits.ensures in record { value = t.0; own_after = t.1 }
