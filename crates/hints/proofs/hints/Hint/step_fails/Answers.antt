-- The place behind the step is that of the left compound, whose first test is told to fail.
use borrow.Author.Rules.{rules}
use Rattle.hints.proofs.CodeStepLaws as laws
use Rattle.hints.proofs.hints.Hint.step_fails.Goals as goal

pub returns-then-tests-gt0 : goal.returns-then-tests-gt0
returns-then-tests-gt0 c = λ e. let s = laws.asked _ _ c.behind_step.result c.is_some_and.result c.behind_step.ensures c.is_some_and.ensures e in let p = s.2 in laws.step-fails _ _ _ _ _ s.1 (laws.by_first _ _ _ _ c.if-tests-gt0.true (search rules))
