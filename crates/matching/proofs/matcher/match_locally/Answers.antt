-- With n components left, their result on the row that is reached is that of all on the row.
use Rattle.matching.proofs.ClimbLaws as laws
use native.Mathlib.Omega.{arith}
use Rattle.matching.proofs.matcher.match_locally.Goals as goal

pub returns-then-kind-eq-DESCENDANT : goal.returns-then-kind-eq-DESCENDANT
returns-then-kind-eq-DESCENDANT c = laws.at-descendant _ _ _ _ _ _ _ _ _ c.loop-n.invariant c.loop-n-test.true _ c.kind_at-kind.ensures c.if-kind-eq-DESCENDANT.true

pub returns-then-row-eq0 : goal.returns-then-row-eq0
returns-then-row-eq0 c = laws.child-ends _ _ _ _ _ _ _ _ _ c.loop-n.invariant c.loop-n-test.true _ c.kind_at-kind.ensures c.if-kind-eq-CHILD.true c.if-row-eq0.true

pub loop-n-preserved-then-kind-eq-CHILD : goal.loop-n-preserved-then-kind-eq-CHILD
loop-n-preserved-then-kind-eq-CHILD c = laws.hand-up _ _ _ _ _ _ _ _ _ c.loop-n.invariant c.loop-n-test.true _ c.kind_at-kind.ensures c.if-kind-eq-CHILD.true c.if-row-eq0.false _ c.parent_of-row.ensures.value

pub loop-n-preserved : goal.loop-n-preserved
loop-n-preserved c = laws.hand_on _ _ _ _ _ _ _ _ _ c.loop-n.invariant c.loop-n-test.true _ c.kind_at-kind.ensures c.if-kind-eq-CHILD.false c.if-kind-eq-DESCENDANT.false _ c.passes.ensures c.if-not-passes.false

pub returns-then-not-passes : goal.returns-then-not-passes
returns-then-not-passes c = laws.test-ends _ _ _ _ _ _ _ _ _ c.loop-n.invariant c.loop-n-test.true _ c.kind_at-kind.ensures c.if-kind-eq-CHILD.false c.if-kind-eq-DESCENDANT.false _ c.passes.ensures c.if-not-passes.true

pub returns : goal.returns
returns c = laws.none_left _ _ _ _ _ _ _ _ _ c.loop-n.invariant (omega (arith, c.loop-n-test.false))
