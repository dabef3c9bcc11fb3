-- The numbers of the row are those of the style that it reads as.
use Rattle.compiler.proofs.StyleWriting as laws
use borrow.Author.Rules.{rules}
use Rattle.compiler.proofs.styles.emit_style_at.Goals as goal

pub returns : goal.returns
returns c = record { same_store = c.emit_style.ensures.same_store; written = search (rules, laws.style-there) }
