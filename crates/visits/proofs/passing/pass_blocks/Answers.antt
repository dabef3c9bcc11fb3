-- Each turn stores the block of one selector, and the visit says where the next one is.
use mathlib.Core.Path.{◌≡◌}
use Prim.Native.Nat.{◌+◌, ◌-◌}
use native.Mathlib.Omega.{arith}
use Rattle.visits.proofs.CodePassLaws as laws
use Rattle.visits.proofs.passing.pass_blocks.Goals as goal

pub returns-then-place-eq-NO_PLACE : goal.returns-then-place-eq-NO_PLACE
returns-then-place-eq-NO_PLACE c = laws.pass-none _ _ _ _ _ _ _ _ _ c.loop.invariant c.if-place-eq-NO_PLACE.true

pub loop-preserved : goal.loop-preserved
loop-preserved c = let q : c.args.count - (c.loop.counter + 1) ≡ c.args.count - c.loop.counter - 1 = omega arith in rw q (laws.pass-more _ _ _ _ _ _ _ _ _ c.loop.invariant (omega arith) c.if-place-eq-NO_PLACE.false _ c.visit-place.ensures.next_value c.visit-place.ensures.next_lt_pair_limit _ c.visit-place.ensures.own_after)

pub returns : goal.returns
returns c = laws.pass-end _ _ _ _ _ _ _ _ _ c.loop.invariant (omega arith)
