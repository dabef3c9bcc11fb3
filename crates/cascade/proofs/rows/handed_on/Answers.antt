-- The slots are read where they begin.
use Rattle.cascade.proofs.Inheriting.{handed-slots}
use borrow.Author.Rules.{rules}
use Rattle.cascade.proofs.rows.handed_on.Goals as goal

pub returns : goal.returns
returns c = search (rules, handed-slots)
