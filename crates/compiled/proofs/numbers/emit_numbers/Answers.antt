-- What is written, with the numbers that are left, is all of them.
use native.Mathlib.Omega.{arith}
use Rattle.compiled.proofs.Written as laws
use Rattle.compiled.proofs.numbers.emit_numbers.Goals as goal

pub loop-number-init : goal.loop-number-init
loop-number-init c = laws.numbering-begin _ _

pub loop-number-preserved : goal.loop-number-preserved
loop-number-preserved c = laws.numbering-more _ _ _ _ c.loop-number.invariant c.loop-number-test.true c.emit_number.ensures

pub returns : goal.returns
returns c = laws.numbering-done _ _ _ _ c.loop-number.invariant (omega (arith, c.loop-number-test.false))
