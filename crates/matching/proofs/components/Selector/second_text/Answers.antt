-- The second text lies behind the first: both lengths fit 32 bits, so their sum does not wrap.
use Rattle.matching.proofs.ComponentLaws.{second-part}
use borrow.Author.Rules.{rules}
use Rattle.matching.proofs.components.Selector.second_text.Goals as goal

pub returns : goal.returns
returns c = search (rules, second-part)
