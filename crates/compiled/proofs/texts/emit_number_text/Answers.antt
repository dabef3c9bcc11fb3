-- The number and the text are emitted one behind the other.
use Rattle.compiled.proofs.Written as laws
use Rattle.compiled.proofs.texts.emit_number_text.Goals as goal

pub returns : goal.returns
returns c = laws.wrote-then c.emit_number.ensures c.emit_text_part.ensures
