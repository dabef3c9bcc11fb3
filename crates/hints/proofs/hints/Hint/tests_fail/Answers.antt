-- Where the first test fails, or the second, all of them fail.
use native.Mathlib.Omega.{arith}
use borrow.Author.Tests.{ltb-true}
use mathlib.Core.Path.{sym, ◌∙◌}
use Rattle.hints.proofs.CodeStepLaws as laws
use Rattle.hints.proofs.hints.Hint.tests_fail.Goals.{then-tests-gt0, else-tests-gt0}
use Rattle.hints.proofs.hints.Hint.tests_fail.Goals as goal

pub returns-then-test_fails : goal.returns-then-test_fails
returns-then-test_fails c = elim c.if-tests-gt0.branch [
  | then-tests-gt0 w ↦ λ t. laws.by_first _ _ _ _ w.if-tests-gt0.true (w.test_fails.ensures (sym w.value-is ∙ t))
  | else-tests-gt0 w ↦ λ t. absurd (let z = ltb-true 0 _ (sym w.value-is ∙ t) in omega (arith, w.if-tests-gt0.false))
]

pub returns-then-tests-gt1 : goal.returns-then-tests-gt1
returns-then-tests-gt1 c = λ e. c.second_fails.ensures e _ c.if-tests-gt1.true
