-- The first row from which a descendant combinator is reached is the first from the row that is asked on.
use Rattle.matching.proofs.NumberLaws as laws
use Rattle.matching.proofs.topmost.first_reaching.Goals as goal

pub returns-in-Descendant : goal.returns-in-Descendant
returns-in-Descendant c = (laws.reach-found _ _ _ _ _ _ c.loop-row.invariant _ c.match_locally.ensures c.in-Descendant.is, c.loop-row-test.true)

pub returns-in_err-row : goal.returns-in_err-row
returns-in_err-row c =
    rw c.from_residual.ensures (laws.reach-none _ _ _ _ _ _ c.loop-row.invariant _ c.match_locally.ensures c.in_default.not-Descendant c.in_err-row.ensures.next.unreached)

pub loop-row-preserved : goal.loop-row-preserved
loop-row-preserved c = laws.reach-on _ _ _ _ _ _ c.loop-row.invariant _ c.match_locally.ensures c.in_default.not-Descendant _ c.in_ok-row.ensures.next.rooted c.in_ok-row.ensures.next.passed

pub returns : goal.returns
returns c = laws.reach-end _ _ _ _ _ _ c.loop-row.invariant c.loop-row-test.false
