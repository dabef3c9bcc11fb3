-- A filled slot is written number by number, one that holds nothing is ten zeros.
use Rattle.syntax.specs.Layout.{value_numbers}
use Rattle.cascade.specs.Slot.{held_by}
use Rattle.cascade.specs.Row.{slot_numbers}
use Rattle.cascade.proofs.rows.numbers_of.Goals as goal

pub returns-in-Some : goal.returns-in-Some
unfolding held_by slot_numbers value_numbers
returns-in-Some c = rw (c.in-Some.is, c.flag_of.ensures, c.flag_of-in-Some.ensures)

pub returns-in-None : goal.returns-in-None
unfolding held_by slot_numbers value_numbers
returns-in-None c = rw c.in-None.is
