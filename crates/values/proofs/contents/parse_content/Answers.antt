-- The lengths of the strings so far, with what is left from the token on, give the whole; a token that is no string ends it. The texts are disjoint, so the sum
-- fits.
use native.Mathlib.Omega.{arith}
use Rattle.values.proofs.ContentLaws as laws
use Rattle.values.proofs.contents.parse_content.Goals as goal

pub loop-i-init : goal.loop-i-init
loop-i-init c = laws.joining-begin _ _ _ c.requires

pub overflow_add-length : goal.overflow_add-length
overflow_add-length c = omega (arith, laws.joining-room _ _ _ _ _ c.loop-i.invariant (rw c.count-i-end.ensures at c.loop-i-test.true) _ c.is_kind.ensures c.if-not-is_kind.false _ c.text.ensures)

pub loop-i-preserved : goal.loop-i-preserved
loop-i-preserved c = laws.joining-more _ _ _ _ _ c.loop-i.invariant (rw c.count-i-end.ensures at c.loop-i-test.true) _ c.is_kind.ensures c.if-not-is_kind.false _ c.text.ensures

pub returns-then-not-is_kind : goal.returns-then-not-is_kind
returns-then-not-is_kind c = laws.joining-stop _ _ _ _ _ c.loop-i.invariant (rw c.count-i-end.ensures at c.loop-i-test.true) _ c.is_kind.ensures c.if-not-is_kind.true

pub returns : goal.returns
returns c = laws.joining-done _ _ _ _ _ c.loop-i.invariant (rw c.count-i-end.ensures at c.loop-i-test.false)
