-- The name behind the '#' with the sign's byte taken too; where there is no name the store is as it was and the '#' is a delimiter.
use Rattle.std.proofs.Common.{rules, tests, arith}
use Rattle.lexer.proofs.IdentBounds.{identstring-keeps, answer_le}
use Rattle.lexer.proofs.TokenReaders as laws
use Rattle.lexer.proofs.tokens.hash_token.Goals as goal

pub map-hash-requires : goal.map-hash-requires
map-hash-requires c = λ x e w t. omega (arith, answer_le _ _ (identstring-keeps _) _ c.parse_identstring-name.ensures.value _ _ e)

pub returns : goal.returns
returns c = let t : goal.returns-raw c = laws.hash-by _ _ _ _ _ _ (c.parse_identstring-name.ensures.value, c.parse_identstring-name.ensures.store_after) _ _ c.map-hash.ensures.cases (λ v b h. search (rules, tests)) c.or_delim.ensures in record { value = t.0; store_after = t.1 }
