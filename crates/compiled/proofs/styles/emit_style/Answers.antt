-- The mark of importance, the start and the slot with its value are emitted one behind the other.
use Rattle.compiled.proofs.Written as laws
use Rattle.compiled.proofs.styles.emit_style.Goals as goal

pub returns : goal.returns
returns c = laws.wrote-as (laws.style-numbers _ _ _ c.flag_of.ensures) (laws.wrote-then c.emit_number.ensures (laws.wrote-then c.emit_number-2.ensures c.emit_slot.ensures))
