-- The length and the bytes are emitted one behind the other.
use Rattle.compiled.specs.Text.{text_bytes}
use Rattle.compiled.proofs.Written as laws
use Rattle.compiled.proofs.texts.emit_text.Goals as goal

pub returns : goal.returns
unfolding text_bytes
returns c = laws.wrote-then c.emit_number.ensures (record { same_store = c.emit_all.ensures.same_store; written = c.emit_all.ensures.written })
