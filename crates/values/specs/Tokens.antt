-- The tokens of a value, as the code has them.
use Rattle.std.specs.Prelude.{List}
use Rattle.lexer.specs.Token.{Token}
use Rattle.values.specs.View.{tokens_at, token_count}
use Rattle.values.specs.declared.tokens.Tokens as code

-- the tokens that the rows say
abbrev pub value_tokens : code.Tokens → List Token
value_tokens t = tokens_at t.rows.now t.store.now (token_count t.rows.now)
