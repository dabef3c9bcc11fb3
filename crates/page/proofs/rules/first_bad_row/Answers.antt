-- The rows so far keep the rules, and depth and totals are those of the row before; the first that does not is the answer.
use native.Mathlib.Omega.{arith}
use Rattle.page.proofs.RowLaws as laws
use Rattle.page.proofs.rules.first_bad_row.Goals as goal

pub loop-row-init : goal.loop-row-init
loop-row-init c = laws.checking-begin _ _ _

pub loop-row-preserved : goal.loop-row-preserved
loop-row-preserved c = laws.checking-on _ _ _ _ _ _ _ c.loop-row.invariant c.loop-row-test.true _ c.check_row.ensures _ c.in-Some.is

pub returns-in_default : goal.returns-in_default
returns-in_default c = laws.checking-stop _ _ _ _ _ _ _ c.loop-row.invariant (omega arith) _ c.check_row.ensures c.in_default.is c.node_count-row-end.ensures

pub returns : goal.returns
returns c = laws.checking-done _ _ _ _ _ _ _ c.loop-row.invariant (omega arith) c.node_count-row-end.ensures
