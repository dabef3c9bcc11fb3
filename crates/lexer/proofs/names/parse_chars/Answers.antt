-- The run of characters is what is read; where it takes no byte its text is empty, so nothing was written.
use Rattle.std.proofs.Common.{◌∙◌}
use Rattle.lexer.proofs.Idents as laws
use Rattle.lexer.proofs.names.parse_chars.Goals as goal

pub returns : goal.returns
returns c = let t = laws.chars-read _ _ _ _ _ _ (c.emit_nmchars-n.ensures.taken_value, c.emit_nmchars-n.ensures.store_after) in record { value = c.then_some.ensures ∙ t.0; store_after = t.1 }
