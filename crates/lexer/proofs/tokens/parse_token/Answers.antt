-- The token that `token_at` reads of the rest of the text, which starts where the white space and the comments end.
use Rattle.std.proofs.Common.{arith, refl, ◌∙◌}
use Rattle.lexer.proofs.Lexing as laws
use Rattle.lexer.proofs.TokenBounds.{token-le, at-bounded}
use Rattle.lexer.proofs.tokens.parse_token.Goals as goal

pub returns-in_err-read : goal.returns-in_err-read
returns-in_err-read c = let t = laws.nothing-lexed _ _ c.skip_optional_whitespace-w.ensures.value _ _ _ _ (c.token_at.ensures.value, c.token_at.ensures.store_after) c.in_err-read.was in record { value = c.from_residual.ensures ∙ t.0; store_after = t.1 }

pub overflow_add-result : goal.overflow_add-result
overflow_add-result c = omega (arith, token-le _ _ (at-bounded _ _ refl) _ c.token_at.ensures.value _ _ c.in_ok-read.was)

pub returns : goal.returns
returns c = let t : goal.returns-raw c = laws.lexed _ _ c.skip_optional_whitespace-w.ensures.value _ _ _ _ (c.token_at.ensures.value, c.token_at.ensures.store_after) _ _ c.in_ok-read.was in record { value = t.0; store_after = t.1 }
