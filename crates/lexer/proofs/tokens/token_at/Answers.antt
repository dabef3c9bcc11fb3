-- The first character selects the reader (`token_with`); where no character can be read there is no token and the store is as it was.
use Rattle.std.proofs.Common.{arith, sym, ◌∙◌}
use Rattle.characters.proofs.Scalars.{scalar-some}
use Rattle.lexer.proofs.Lexing as laws
use Rattle.lexer.proofs.tokens.token_at.Goals as goal

pub returns-in_err-first : goal.returns-in_err-first
returns-in_err-first c = let t = laws.at_none _ _ _ _ c.scalar_at.ensures c.in_err-first.was in record { value = c.from_residual.ensures ∙ t.0; store_after = t.1 }

pub token_with-requires : goal.token_with-requires
token_with-requires c = let r = scalar-some _ _ _ (sym c.scalar_at.ensures ∙ c.in_ok-first.was) in omega (arith, r.0, r.1)

pub returns : goal.returns
returns c = let t : goal.returns-raw c = laws.at-char _ _ _ _ c.scalar_at.ensures _ _ c.in_ok-first.was _ _ (c.token_with.ensures.value, c.token_with.ensures.store_after) in record { value = t.0; store_after = t.1 }
