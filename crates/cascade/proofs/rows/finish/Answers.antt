-- In the crate's cascade nothing changes; in the book order the main record is filled, then the others from it.
use Rattle.cascade.proofs.Inheriting.{finished-by-crate, finished-in-book-order}
use borrow.Author.Rules.{rules}
use Rattle.cascade.proofs.rows.finish.Goals as goal

pub returns-in-Crate : goal.returns-in-Crate
returns-in-Crate c = search (rules, finished-by-crate)

pub returns-in-Book : goal.returns-in-Book
returns-in-Book c = search (rules, finished-in-book-order)
