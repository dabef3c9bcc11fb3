-- The first window that is "*/" ends the comment.
use Rattle.std.proofs.Common.{◌∙◌, rules, tests}
use Rattle.std.proofs.lemmas.Iterator.Search.{position_from_yields_List}
use Rattle.lexer.proofs.Comments as laws
use Rattle.lexer.proofs.whitespace.comment_end.Goals as goal

pub returns-in_err-i : goal.returns-in_err-i
returns-in_err-i c =
    c.from_residual.ensures ∙ laws.window-none c.args.s.now _
    (position_from_yields_List laws.ends _ _ c.position.result c.position.ensures.ran (laws.windows-pairs c.windows.result c.args.s.now c.windows.ensures.rest c.windows.ensures.size) (λ x b q k. search (rules, tests)))
    c.in_err-i.was

pub returns : goal.returns
returns c =
    laws.window-some c.args.s.now _
    (position_from_yields_List laws.ends _ _ c.position.result c.position.ensures.ran (laws.windows-pairs c.windows.result c.args.s.now c.windows.ensures.rest c.windows.ensures.size) (λ x b q k. search (rules, tests)))
    _ c.in_ok-i.was
