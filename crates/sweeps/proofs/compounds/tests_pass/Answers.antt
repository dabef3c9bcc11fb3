-- The tests that are left decide as all of them do (`Testing`): what is no test that passes ends the walk with no, and when none is left all have passed.
use mathlib.Core.Path.{◌≡◌, ap, ◌∙◌}
use Prim.Native.Nat.{◌+◌, ◌-◌}
use native.Mathlib.Omega.{arith}
use borrow.Author.Rules.{rules}
use Rattle.std.proofs.Common.{Some}
use Rattle.sweeps.proofs.CodeCompoundLaws as laws
use Rattle.sweeps.proofs.compounds.tests_pass.Goals as goal

pub loop-preserved : goal.loop-preserved
loop-preserved c = let q : c.args.count - (c.loop.counter + 1) ≡ c.args.count - c.loop.counter - 1 = omega arith in rw q (laws.tests-more _ _ _ _ _ _ c.loop.invariant (omega arith) _ c.read_met.ensures _ _ (c.in-Some-Test-default-true.is ∙ ap Some c.in-Some-Test-default-true.field-0-is) c.in-Some-Test-default-true.field-0-1-test)

pub returns-in_default : goal.returns-in_default
returns-in_default c = let f = laws.tests-failed _ _ _ _ _ _ c.loop.invariant (omega arith) _ c.read_met.ensures _ c.in_default.is in search (rules, f)

pub returns-in_default-2 : goal.returns-in_default-2
returns-in_default-2 c = laws.tests-step-met _ _ _ _ _ _ c.loop.invariant (omega arith) _ c.read_met.ensures _ c.in_default.is (search rules)

pub returns-in_default-3 : goal.returns-in_default-3
returns-in_default-3 c = laws.tests-fault _ _ _ _ _ _ c.loop.invariant (omega arith) _ c.read_met.ensures (search rules)

pub returns : goal.returns
returns c = laws.tests-end _ _ _ _ _ _ c.loop.invariant (omega arith)
