-- White space and the sign are passed as the definition does.
use Rattle.lengths.proofs.NumeralLaws as laws
use borrow.Author.Rules.{rules}
use Rattle.lengths.proofs.numerals.numeral_of.Goals as goal

pub returns : goal.returns
returns c = search (rules, laws.numeral-read)
