-- A slot that holds a value is handed on: the other is read, filled and put back; one that holds nothing changes nothing.
use borrow.Author.Rules.{rules}
use Rattle.cascade.proofs.Inheriting.{slot-filled, slot-unfilled}
use Rattle.cascade.proofs.rows.SlotPlace.fill.Goals as goal

pub returns-in-Some : goal.returns-in-Some
returns-in-Some c = search (rules, slot-filled)

pub returns-in_default : goal.returns-in_default
returns-in_default c = search (rules, slot-unfilled)
