-- The count, and the rows behind it.
use mathlib.Core.Path.{◌∙◌}
use Rattle.compiler.proofs.StyleWriting as laws
use Rattle.compiler.proofs.styles.emit_styles.Goals as goal

pub returns : goal.returns
returns c = record { same_store = c.emit_style_rows.ensures.same_store ∙ c.emit_number.ensures.same_store; written = laws.styles-written _ _ _ _ _ _ c.emit_number.ensures.written c.emit_style_rows.ensures.written }
