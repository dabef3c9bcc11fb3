-- What `parse_name` reads of the rest of the text, with the white space before it counted among the bytes taken.
use Rattle.std.proofs.Common.{arith, ◌∙◌}
use Rattle.lexer.specs.Name.{name_of, ident_of}
use Rattle.lexer.proofs.Idents as laws
use Rattle.lexer.proofs.IdentBounds.{name-keeps, answer_le}
use Rattle.lexer.proofs.names.parse_ident.Goals as goal

pub returns-in_err-n : goal.returns-in_err-n
unfolding ident_of
returns-in_err-n c = let t = laws.behind-none name_of _ _ c.skip_optional_whitespace-w.ensures.value _ _ _ _ (c.parse_name.ensures.value, c.parse_name.ensures.store_after) c.in_err-n.was in record { value = c.from_residual.ensures ∙ t.0; store_after = t.1 }

pub overflow_add-result : goal.overflow_add-result
overflow_add-result c = omega (arith, answer_le _ _ (name-keeps _) _ c.parse_name.ensures.value _ _ c.in_ok-n.was)

pub returns : goal.returns
unfolding ident_of
returns c = let t : goal.returns-raw c = laws.behind-text name_of _ _ c.skip_optional_whitespace-w.ensures.value _ _ _ _ (c.parse_name.ensures.value, c.parse_name.ensures.store_after) _ _ c.in_ok-n.was in record { value = t.0; store_after = t.1 }
