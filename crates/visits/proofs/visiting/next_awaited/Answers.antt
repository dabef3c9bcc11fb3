-- A segment that does not end here stays; of one that does, the head of its selector says whether it is the last, which matches, or where the one before it is looked for.
use Rattle.visits.proofs.CodeVisitLaws as laws
use Rattle.visits.proofs.visiting.next_awaited.Goals as goal

pub returns-then-not-ends : goal.returns-then-not-ends
returns-then-not-ends c = laws.awaited-stays _ _ _ _ c.if-not-ends.true

pub returns-in_default : goal.returns-in_default
returns-in_default c = laws.awaited-fault _ _ _ _ c.if-not-ends.false _ c.read_head.ensures.value _ c.in_default.is

pub returns-then-block-head : goal.returns-then-block-head
returns-then-block-head c = laws.awaited-last _ _ _ _ c.if-not-ends.false _ c.read_head.ensures.value _ c.in-Ok.is c.if-block-head.true

pub returns-else-block-head : goal.returns-else-block-head
returns-else-block-head c = laws.awaited-before _ _ _ _ c.if-not-ends.false _ c.read_head.ensures.value _ c.in-Ok.is c.if-block-head.false
