-- A record that is marked as present is filled from the row's main record; any other stays.
use Rattle.cascade.proofs.Inheriting.{pseudo-filled, pseudo-unfilled}
use borrow.Author.Rules.{rules}
use Rattle.cascade.proofs.rows.fill_pseudo.Goals as goal

pub returns-then-row-pseudo-eq-FLAG_TRUE : goal.returns-then-row-pseudo-eq-FLAG_TRUE
returns-then-row-pseudo-eq-FLAG_TRUE c = search (rules, pseudo-filled)

pub returns-else-row-pseudo-eq-FLAG_TRUE : goal.returns-else-row-pseudo-eq-FLAG_TRUE
returns-else-row-pseudo-eq-FLAG_TRUE c = search (rules, pseudo-unfilled)
