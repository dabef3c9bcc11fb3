-- Each kind asks what its definition asks, with the texts of the component and the attributes of the row.
use Rattle.matching.proofs.PassLaws.{class-asked, hash-asked, attribute-asked, value-asked}
use borrow.Author.Rules.{rules}
use Rattle.matching.proofs.matcher.attributes_asked.Goals as goal

pub returns-in-1 : goal.returns-in-1
returns-in-1 c = search (rules, class-asked)

pub returns-in-3 : goal.returns-in-3
returns-in-3 c = search (rules, hash-asked)

pub returns-in-7 : goal.returns-in-7
returns-in-7 c = search (rules, attribute-asked)

pub returns-in_default : goal.returns-in_default
returns-in_default c = search (rules, value-asked)
