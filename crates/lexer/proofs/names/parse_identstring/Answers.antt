-- What `parse_chars` reads of the rest of the text, with the white space before it counted among the bytes taken.
use Rattle.std.proofs.Common.{arith, ◌∙◌}
use Rattle.lexer.specs.Name.{chars_of, identstring_of}
use Rattle.lexer.proofs.Idents as laws
use Rattle.lexer.proofs.IdentBounds.{chars-keeps, answer_le}
use Rattle.lexer.proofs.names.parse_identstring.Goals as goal

pub returns-in_err-n : goal.returns-in_err-n
unfolding identstring_of
returns-in_err-n c = let t = laws.behind-none chars_of _ _ c.skip_optional_whitespace-w.ensures.value _ _ _ _ (c.parse_chars.ensures.value, c.parse_chars.ensures.store_after) c.in_err-n.was in record { value = c.from_residual.ensures ∙ t.0; store_after = t.1 }

pub overflow_add-result : goal.overflow_add-result
overflow_add-result c = omega (arith, answer_le _ _ (chars-keeps _) _ c.parse_chars.ensures.value _ _ c.in_ok-n.was)

pub returns : goal.returns
unfolding identstring_of
returns c = let t : goal.returns-raw c = laws.behind-text chars_of _ _ c.skip_optional_whitespace-w.ensures.value _ _ _ _ (c.parse_chars.ensures.value, c.parse_chars.ensures.store_after) _ _ c.in_ok-n.was in record { value = t.0; store_after = t.1 }
