-- The number behind the '+' with the sign's byte taken too; where there is no number the store is as it was and the '+' is a delimiter.
use Rattle.std.proofs.Common.{rules, tests, arith}
use Rattle.lexer.proofs.TokenReaders as laws
use Rattle.lexer.proofs.TokenBounds.{token-le, numeric-bounded}
use Rattle.lexer.proofs.tokens.plus_token.Goals as goal

pub map-requires : goal.map-requires
map-requires c = λ x e w t. omega (arith, token-le _ _ (numeric-bounded _) _ c.parse_numeric_token-number.ensures.value _ _ e)

pub returns : goal.returns
returns c = let t : goal.returns-raw c = laws.plus-by _ _ _ _ _ _ (c.parse_numeric_token-number.ensures.value, c.parse_numeric_token-number.ensures.store_after) _ _ c.map.ensures.cases (λ v b h. search (rules, tests)) c.or_delim.ensures in record { value = t.0; store_after = t.1 }
