-- The numbers of the row give the part that the definition names.
use Rattle.matching.proofs.ComponentLaws.{first_part}
use borrow.Author.Rules.{rules}
use Rattle.matching.proofs.components.Selector.first_text.Goals as goal

pub returns : goal.returns
returns c = search (rules, first_part)
