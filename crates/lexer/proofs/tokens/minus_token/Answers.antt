-- The alternatives of `minus_of` in their order: a number, "-->", a name, the delimiter; each that does not read leaves the store as it was.
use mathlib.Core.Path.{◌∙◌}
use Rattle.lexer.proofs.TokenReaders as laws
use Rattle.lexer.proofs.tokens.minus_token.Goals as goal

pub returns-in-Some : goal.returns-in-Some
returns-in-Some c = let t : goal.returns-in-Some-raw c = laws.minus_number _ _ _ _ _ _ (c.parse_numeric_token.ensures.value, c.parse_numeric_token.ensures.store_after) _ _ c.in-Some.is in record { value = t.0; store_after = t.1 }

pub returns-then-starts_with : goal.returns-then-starts_with
returns-then-starts_with c = let t : goal.returns-then-starts_with-raw c = laws.minus-cdc _ _ _ _ _ _ (c.parse_numeric_token.ensures.value, c.parse_numeric_token.ensures.store_after) c.in_default.is _ c.starts_with.ensures c.if-starts_with.true in record { value = t.0; store_after = t.1 }

pub shape_of-store : goal.shape_of-store
shape_of-store c = c.parse_ident_like.auto.store ∙ c.parse_numeric_token.auto.store

pub returns : goal.returns
returns c = let t : goal.returns-raw c = laws.minus-ident _ _ _ _ _ _ (c.parse_numeric_token.ensures.value, c.parse_numeric_token.ensures.store_after) c.in_default.is _ c.starts_with.ensures c.if-starts_with.false _ _ (c.parse_ident_like.ensures.value, c.parse_ident_like.ensures.store_after) _ c.or_delim.ensures in record { value = t.0; store_after = t.1 }
