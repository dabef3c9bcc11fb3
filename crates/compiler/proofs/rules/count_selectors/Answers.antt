-- What is counted, with what is left from the place on, is the whole; there are few enough to be added.
use native.Mathlib.Omega.{arith}
use Rattle.compiler.proofs.RuleWriting as laws
use Rattle.compiler.proofs.rules.count_selectors.Goals as goal

pub loop-preserved : goal.loop-preserved
loop-preserved c = laws.counting-next _ _ _ _ _ _ c.loop.invariant (omega arith) _ c.count_rule.ensures c.skip_rule-place.result c.skip_rule-place.ensures

pub returns : goal.returns
returns c = laws.counting-done _ _ _ _ _ _ c.loop.invariant (omega arith)
