-- The smaller of the buffer's length and the limit.
use mathlib.Core.Path.{◌∙◌}
use Rattle.compiler.proofs.WritingLaws as laws
use Rattle.compiler.proofs.writing.room_of.Goals as goal

pub returns : goal.returns
returns c = c.min.ensures ∙ laws.room_least _
