-- The components that are left decide as all of them do (`Ending`): a step ends the compound, and a fault or the limit ends it with no.
use mathlib.Core.Path.{◌≡◌, ap, ◌∙◌}
use Prim.Native.Nat.{◌+◌, ◌-◌}
use native.Mathlib.Omega.{arith}
use mathlib.Core.Logic.{inl, inr}
use borrow.Author.Rules.{rules}
use Rattle.std.proofs.Common.{Some}
use Rattle.sweeps.proofs.CodeCompoundLaws as laws
use Rattle.sweeps.proofs.compounds.compound_at.Goals as goal

pub loop-preserved : goal.loop-preserved
loop-preserved c = let q : c.args.limit - (c.loop.counter + 1) ≡ c.args.limit - c.loop.counter - 1 = omega arith in rw q (laws.compound-test _ _ _ _ _ _ _ _ c.loop.invariant (omega arith) _ c.read_met.ensures _ _ (c.in-Some-Test.is ∙ ap Some c.in-Some-Test.field-0-is))

pub returns-in-Some-Child : goal.returns-in-Some-Child
returns-in-Some-Child c = laws.compound-by-step _ _ _ _ _ _ _ _ c.loop.invariant (omega arith) _ c.read_met.ensures _ c.in-Some-Child.is _ (inl (search rules))

pub returns-in-Some-Child-2 : goal.returns-in-Some-Child-2
returns-in-Some-Child-2 c = laws.compound-by-step _ _ _ _ _ _ _ _ c.loop.invariant (omega arith) _ c.read_met.ensures _ c.in-Some-Child.is _ (inr (search rules))

pub returns-in-None : goal.returns-in-None
returns-in-None c = laws.compound-fault _ _ _ _ _ _ _ _ c.loop.invariant (omega arith) _ c.read_met.ensures c.in-None.is

pub returns : goal.returns
returns c = laws.compound-end _ _ _ _ _ _ _ _ c.loop.invariant (omega arith)
