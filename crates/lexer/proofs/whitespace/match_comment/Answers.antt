-- Behind "/*" the end that `comment_end` finds in the rest of the text, and none where the two bytes are missing.
use mathlib.Core.Path.{◌∙◌}
use Rattle.lexer.proofs.Comments as laws
use Rattle.lexer.proofs.whitespace.match_comment.Goals as goal

pub returns-in_err-strip_prefix : goal.returns-in_err-strip_prefix
returns-in_err-strip_prefix c = c.from_residual.ensures ∙ laws.comment-none _ c.in_err-strip_prefix.ensures.cases

pub returns : goal.returns
returns c = laws.comment-opened _ _ c.in_ok-strip_prefix.ensures.cases _ c.comment_end.ensures
