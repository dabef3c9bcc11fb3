-- The answer of the zero test, without its count.
use Rattle.decimal.proofs.Parts as laws
use borrow.Author.Rules.{rules}
use Rattle.decimal.proofs.rounds_to_zero.Goals as goal

pub returns : goal.returns
returns c = search (rules, laws.answer-alone)
