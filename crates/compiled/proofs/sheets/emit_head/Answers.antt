-- The three numbers are emitted one behind the other.
use Rattle.compiled.proofs.Written as laws
use Rattle.compiled.proofs.sheets.emit_head.Goals as goal

pub returns : goal.returns
returns c = laws.wrote-as (laws.head-numbers _ _ _) c.emit_numbers.ensures
