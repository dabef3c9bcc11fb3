-- The scalar values so far are passed; the text is well formed exactly if the rest is.
use native.Mathlib.Omega.{arith}
use Rattle.std.proofs.Common.{refl}
use Rattle.characters.proofs.Reading as laws
use Rattle.characters.proofs.utf8.is_valid.Goals as goal

pub loop-i-preserved-then-is_ascii : goal.loop-i-preserved-then-is_ascii
loop-i-preserved-then-is_ascii c = laws.checking-ascii _ _ c.loop-i.invariant c.loop-i-test.true _ refl (search arith)

pub overflow_add-i-else-is_ascii : goal.overflow_add-i-else-is_ascii
overflow_add-i-else-is_ascii c = omega (arith, laws.checking-step _ _ c.loop-i.invariant _ c.scalar_at.ensures _ _ c.in-Some.is)

pub loop-i-smaller : goal.loop-i-smaller
loop-i-smaller c = omega (arith, laws.checking-step _ _ c.loop-i.invariant _ c.scalar_at.ensures _ _ c.in-Some.is)

pub loop-i-preserved : goal.loop-i-preserved
loop-i-preserved c = laws.checking-more _ _ c.loop-i.invariant _ c.scalar_at.ensures _ _ c.in-Some.is

pub returns-in_default : goal.returns-in_default
returns-in_default c = laws.checking-fault _ _ c.loop-i.invariant _ c.scalar_at.ensures c.loop-i-test.true c.in_default.is

pub returns : goal.returns
returns c = laws.checking-done _ _ c.loop-i.invariant c.loop-i-test.false
