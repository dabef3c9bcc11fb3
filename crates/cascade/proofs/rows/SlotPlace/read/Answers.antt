-- The ten numbers of the slot, read field by field.
use Rattle.std.proofs.Common.{arith}
use Rattle.std.proofs.lemmas.Grind.{common_steps}
use Rattle.combinators.specs.Choice.{pick, is}
use Rattle.cascade.specs.Slot.{held_by}
use Rattle.syntax.specs.Layout.{flag_of}
use Rattle.cascade.specs.Row.{slot_at, read_slot, read_candidate}
use Rattle.cascade.proofs.rows.SlotPlace.read.Goals as goal

pub returns-then-row-at-ne-FLAG_TRUE : goal.returns-then-row-at-ne-FLAG_TRUE
unfolding slot_at read_slot read_candidate held_by flag_of is pick
returns-then-row-at-ne-FLAG_TRUE c = grind (arith, common_steps)

pub returns : goal.returns
unfolding slot_at read_slot read_candidate held_by flag_of is pick
returns c = grind (arith, common_steps)
