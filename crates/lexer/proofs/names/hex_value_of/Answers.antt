-- At each turn the digits left, behind the number so far, write the whole number (`Reading`); six digits stay below 16^6, so no product overflows.
use Rattle.std.proofs.Common.{refl, arith}
use Rattle.lexer.proofs.Escapes as laws
use Rattle.lexer.proofs.names.hex_value_of.Goals as goal

pub loop-i-init : goal.loop-i-init
loop-i-init c = laws.value-begin _ _

pub overflow_mul-v : goal.overflow_mul-v
overflow_mul-v c = omega (arith, laws.value-fits _ _ _ _ c.loop-i.invariant c.requires c.loop-i-test.true 0 _ refl)

pub overflow_add-v : goal.overflow_add-v
overflow_add-v c = omega (arith, laws.value-fits _ _ _ _ c.loop-i.invariant c.requires c.loop-i-test.true _ _ c.hex_digit_of.ensures)

pub loop-i-preserved : goal.loop-i-preserved
loop-i-preserved c = laws.value-more _ _ _ _ c.loop-i.invariant c.loop-i-test.true _ _ c.peek.ensures c.hex_digit_of.ensures

pub returns : goal.returns
returns c = laws.value-done _ _ _ _ c.loop-i.invariant c.loop-i-test.false
