-- Behind a backslash `escaped` reads the rest of the text, as the definition does; without a backslash there is no escape.
use mathlib.Core.Path.{◌∙◌}
use Rattle.lexer.proofs.Escapes as laws
use Rattle.lexer.proofs.names.ident_escape.Goals as goal

pub returns-in_err-strip_prefix : goal.returns-in_err-strip_prefix
returns-in_err-strip_prefix c = c.from_residual.ensures ∙ laws.escape-missing _ c.in_err-strip_prefix.ensures.cases

pub returns : goal.returns
returns c = laws.escape-yes _ _ c.in_ok-strip_prefix.ensures.cases _ c.escaped.ensures
