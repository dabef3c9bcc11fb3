-- Each turn reads the first of the styles that are left and merges it, so all are merged in their order; one that does not read is the only one.
use mathlib.Core.Path.{◌≡◌}
use Prim.Native.Nat.{◌+◌, ◌-◌}
use native.Mathlib.Omega.{arith}
use Rattle.stepping.proofs.StyleLaws as laws
use Rattle.stepping.proofs.merging.merge_counted.Goals as goal

pub loop-init : goal.loop-init
loop-init c = let q : c.args.count - 0 ≡ c.args.count = omega arith in rw q (laws.styles-begin _ _ _ _ _ _ _ c.requires.counted_lent)

pub returns-in_default : goal.returns-in_default
returns-in_default c = laws.styles-fault _ _ _ _ _ _ _ _ _ _ c.loop.invariant (omega arith) _ c.read_style.ensures.value _ c.in_default.is

pub loop-preserved : goal.loop-preserved
loop-preserved c = let q : c.args.count - (c.loop.counter + 1) ≡ c.args.count - c.loop.counter - 1 = omega arith in rw q (laws.styles-more _ _ _ _ _ _ _ _ _ _ c.loop.invariant (omega arith) _ c.read_style.ensures.value _ c.in-Ok.is _ c.merge_computed_style.ensures)

pub returns : goal.returns
returns c = laws.styles-done _ _ _ _ _ _ _ _ _ _ c.loop.invariant (omega arith)
