-- At each turn what is left to skip has the result of the whole (`Repeating`); where no item stands, the run ends.
use Rattle.std.proofs.Common.{arith, sym, ◌∙◌}
use Rattle.combinators.proofs.Repeating.{repeat-more, repeat-stop, lent, lent-le}
use Rattle.lexer.specs.Whitespace.{skip_whitespace, whitespace_item}
use Rattle.lexer.proofs.Comments.{item-le}
use Rattle.lexer.proofs.Taken.{some-taken, none-taken}
use Rattle.lexer.proofs.whitespace.skip_optional_whitespace.Goals as goal

pub overflow_add-i : goal.overflow_add-i
overflow_add-i c = omega (arith, lent-le whitespace_item item-le c.args.s.now c.loop-n.i _ c.loop-n.invariant.within_text (some-taken _ _ (sym c.in-Some.is ∙ c.match_whitespace_item.ensures)).0)

pub loop-n-smaller : goal.loop-n-smaller
loop-n-smaller c =
    let t = some-taken _ _ (sym c.in-Some.is ∙ c.match_whitespace_item.ensures) in
    omega (arith, t.1, lent-le whitespace_item item-le c.args.s.now c.loop-n.i _ c.loop-n.invariant.within_text t.0)

pub loop-n-preserved : goal.loop-n-preserved
loop-n-preserved c =
    let t = some-taken _ _ (sym c.in-Some.is ∙ c.match_whitespace_item.ensures) in
    repeat-more _ _ _ c.loop-n.invariant _ (lent whitespace_item c.args.s.now c.loop-n.i _ t.0)
    (lent-le whitespace_item item-le c.args.s.now c.loop-n.i _ c.loop-n.invariant.within_text t.0) t.1

pub returns-clause-value : goal.returns-clause-value
unfolding skip_whitespace
returns-clause-value c = repeat-stop _ _ _ c.loop-n.invariant (lent whitespace_item c.args.s.now c.loop-n.i _ (sym (none-taken _ (sym c.in_default.is ∙ c.match_whitespace_item.ensures))))
