-- Where the test behind a first that is passed over fails, all of them fail.
use borrow.Author.Rules.{rules}
use Rattle.hints.proofs.CodeStepLaws as laws
use Rattle.hints.proofs.hints.Hint.second_fails.Goals as goal

pub returns : goal.returns
returns c = λ e tests t. let s = laws.asked _ _ c.test_size.result c.is_some_and.result c.test_size.ensures c.is_some_and.ensures e in let p = s.2 in laws.by-second _ _ _ _ t s.0 s.1 (search rules)
