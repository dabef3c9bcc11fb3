-- A mark without tests says 0, any other the number in the two bytes behind it: the two cases of `marked_tests`.
use Rattle.sweeps.proofs.CodePartLaws as laws
use borrow.Author.Rules.{rules}
use Rattle.sweeps.proofs.parts.marked_tests.Goals as goal

pub returns-then-peek-eq-WITHOUT_TESTS : goal.returns-then-peek-eq-WITHOUT_TESTS
returns-then-peek-eq-WITHOUT_TESTS c = search (rules, laws.tests-none)

pub returns : goal.returns
returns c = search (rules, laws.tests-some)
