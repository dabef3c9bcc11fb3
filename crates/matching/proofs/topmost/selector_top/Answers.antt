-- The number is that of the components so far; a descendant combinator changes it, and the one before decides what stands before that.
use Rattle.matching.proofs.BelowLaws as laws
use Rattle.matching.proofs.topmost.selector_top.Goals.{then-kind_at-eq-DESCENDANT+in-Some, else-kind_at-eq-DESCENDANT}
use Rattle.matching.proofs.topmost.selector_top.Goals as goal

pub loop-left-init : goal.loop-left-init
loop-left-init c = laws.top-begin _ _ _ _ _ _ _

pub topmost_ancestor-requires : goal.topmost_ancestor-requires
topmost_ancestor-requires c = laws.so_far _ _ _ _ _ _ _ _ _ c.loop-left.invariant c.args.element.rooted

pub returns-in_default : goal.returns-in_default
returns-in_default c = let t : goal.returns-in_default-raw c = laws.top-none _ _ _ _ _ _ _ c.args.element.rooted _ c.loop-left-test.true _ c.kind_at.ensures c.if-kind_at-eq-DESCENDANT.true c.in_default.ensures in record { value = t.0; upper_bound = t.1 }

pub returns : goal.returns
returns c = let t : goal.returns-raw c = laws.top-end _ _ _ _ _ _ _ _ _ c.loop-left.invariant c.args.element.rooted c.loop-left-test.false in record { value = t.0; upper_bound = t.1 }

pub loop-left-preserved : goal.loop-left-preserved
loop-left-preserved c =
    elim c.if-kind_at-eq-DESCENDANT.branch [
      | then-kind_at-eq-DESCENDANT+in-Some w ↦ rw w.top-is (laws.top-descendant _ _ _ _ _ _ _ _ _ c.loop-left.invariant c.loop-left-test.true _ c.kind_at.ensures w.if-kind_at-eq-DESCENDANT.true _ w.in-Some.ensures)
      | else-kind_at-eq-DESCENDANT w ↦ rw w.top-is (laws.top-other _ _ _ _ _ _ _ _ _ c.loop-left.invariant c.loop-left-test.true _ c.kind_at.ensures w.if-kind_at-eq-DESCENDANT.false)
    ]
