-- What was read is kept; where nothing was, the delimiter is made.
use Rattle.std.specs.Option.{option_or}
use Rattle.std.proofs.Common.{ap, ◌∙◌}
use Rattle.lexer.proofs.TokenAnswers as laws
use Rattle.lexer.proofs.tokens.or_delim.Goals as goal

pub returns : goal.returns
returns c = c.or.ensures ∙ ap (option_or _) c.delimiter.ensures ∙ laws.delim-by _ _
