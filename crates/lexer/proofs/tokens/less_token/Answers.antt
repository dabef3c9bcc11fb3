-- The text starts with "<!--" or it does not: the two cases of `less_of`.
use Rattle.std.proofs.Common.{◌∙◌}
use Rattle.lexer.proofs.TokenReaders as laws
use Rattle.lexer.proofs.tokens.less_token.Goals as goal

pub returns-then-starts_with : goal.returns-then-starts_with
returns-then-starts_with c = laws.less-cdo _ _ _ c.starts_with.ensures c.if-starts_with.true

pub returns : goal.returns
returns c = c.delimiter.ensures ∙ laws.less-delim _ _ _ c.starts_with.ensures c.if-starts_with.false
