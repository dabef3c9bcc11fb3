-- As many numbers as a row has are zero.
use borrow.Author.Rules.{rules}
use Rattle.cascade.proofs.Windows.{front-wiped}
use Rattle.cascade.proofs.Rewriting.{emptied}
use Rattle.cascade.proofs.rows.clear_row.Goals as goal

pub returns : goal.returns
returns c = emptied _ _ c.requires (front-wiped _ _ _ c.requires.room (c.fill.ensures.after (search rules)))
