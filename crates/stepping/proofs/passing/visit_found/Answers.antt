-- Its styles are merged exactly where the visit says that it matches; the visit says the next place too.
use Rattle.stepping.proofs.PassingLaws as laws
use Rattle.stepping.proofs.passing.visit_found.Goals as goal

pub returns-then-answer-clause-out_after : goal.returns-then-answer-clause-out_after
returns-then-answer-clause-out_after c = laws.visit-matched _ _ _ _ _ c.visit-answer.ensures.matched_value c.if-answer.true _ c.merge_found.ensures

pub returns-else-answer-clause-out_after : goal.returns-else-answer-clause-out_after
returns-else-answer-clause-out_after c = laws.visit-passed _ _ _ _ _ c.visit-answer.ensures.matched_value c.if-answer.false
