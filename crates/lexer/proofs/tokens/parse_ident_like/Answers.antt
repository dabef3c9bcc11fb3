-- The name that `parse_ident` reads is a function where '(' stands behind it, else an identifier; where it reads none there is no token.
use Rattle.std.proofs.Common.{arith, ◌∙◌}
use Rattle.lexer.proofs.IdentBounds.{ident-keeps, answer_le}
use Rattle.lexer.proofs.TokenReaders as laws
use Rattle.lexer.proofs.tokens.parse_ident_like.Goals as goal

pub returns-in_err-name : goal.returns-in_err-name
returns-in_err-name c = let t = laws.no-ident _ _ _ _ _ (c.parse_ident.ensures.value, c.parse_ident.ensures.store_after) c.in_err-name.was in record { value = c.from_residual.ensures ∙ t.0; store_after = t.1 }

pub overflow_add-result : goal.overflow_add-result
overflow_add-result c = omega (arith, answer_le _ _ (ident-keeps _) _ c.parse_ident.ensures.value _ _ c.in_ok-name.was)

pub returns-then-byte_is : goal.returns-then-byte_is
returns-then-byte_is c = let t : goal.returns-then-byte_is-raw c = laws.function-like _ _ _ _ _ (c.parse_ident.ensures.value, c.parse_ident.ensures.store_after) _ _ c.in_ok-name.was _ c.byte_is.ensures c.if-byte_is.true in record { value = t.0; store_after = t.1 }

pub returns : goal.returns
returns c = let t : goal.returns-raw c = laws.ident-like _ _ _ _ _ (c.parse_ident.ensures.value, c.parse_ident.ensures.store_after) _ _ c.in_ok-name.was _ c.byte_is.ensures c.if-byte_is.false in record { value = t.0; store_after = t.1 }
