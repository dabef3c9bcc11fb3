-- In the crate's cascade the parent's row stays, with its own record present; in the book order the row is wiped first.
use mathlib.Core.Path.{refl, ap, ◌∙◌}
use lib.ListN.{set}
use borrow.Author.Rules.{rules}
use Rattle.cascade.proofs.Windows.{front-wiped}
use Rattle.cascade.proofs.Rewriting.{inherited-by-crate, inherited-in-book-order}
use Rattle.cascade.proofs.rows.inherit.Goals.{in-Crate, in-Book}
use Rattle.cascade.proofs.rows.inherit.Goals as goal

pub returns : goal.returns
returns c =
    elim c.match-cascade.branch [
      | in-Crate w ↦ inherited-by-crate _ _ _ w.in-Crate.is c.requires (ap (λ l. set l 0 1) w.row-is)
      | in-Book w ↦ inherited-in-book-order _ _ _ _ w.in-Book.is c.requires (w.row-is ∙ front-wiped _ _ _ c.requires.room (w.fill.ensures.after (search rules))) refl
    ]
