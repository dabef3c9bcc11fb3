-- The slot's numbers and the mark of its record are written at two places that do not meet.
use mathlib.Core.Path.{◌≡◌, ap, ◌∙◌}
use native.Mathlib.Omega.{arith}
use lib.ListN.{length, set}
use Rattle.cascade.specs.Slot.{slot_by}
use Rattle.cascade.specs.Row.{slot_numbers, record_place, present_flag}
use Rattle.cascade.proofs.Windows.{part-sets}
use Rattle.cascade.proofs.RowLaws.{slot-width}
use Rattle.cascade.proofs.rows.SlotPlace.put_back.Goals as goal

pub returns : goal.returns
returns c =
    let x = c.args in
    let numbers : c.copy_from_slice.new.self ≡ slot_numbers (slot_by x.updated) = c.copy_from_slice.ensures.after ∙ c.numbers_of.ensures in
    ap (λ l. set l (record_place x.self.pseudo) present_flag) (part-sets x.row.now c.start-at.result _ (omega arith) _ (omega (arith, ap length numbers, slot-width (slot_by x.updated))) ∙ rw (numbers, c.start-at.ensures))
