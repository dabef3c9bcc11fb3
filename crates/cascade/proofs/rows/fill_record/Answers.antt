-- Colour, white space, then visibility, as they are handed on.
use Rattle.cascade.proofs.Inheriting.{record-filled}
use borrow.Author.Rules.{rules}
use Rattle.cascade.proofs.rows.fill_record.Goals as goal

pub returns : goal.returns
returns c = search (rules, record-filled)
