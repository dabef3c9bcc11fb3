-- What is left to read says the same segment as all of it: a test and a child step are counted, a descendant step begins the next segment or ends the walk.
use mathlib.Core.Path.{◌≡◌, ap, ◌∙◌}
use Prim.Native.Nat.{◌+◌, ◌-◌}
use native.Mathlib.Omega.{arith}
use borrow.Author.Rules.{rules}
use Rattle.std.proofs.Common.{Some}
use Rattle.sweeps.proofs.CodeCompoundLaws as laws
use Rattle.sweeps.proofs.compounds.segment_before.Goals.{in-Some-Test, in-Some-Child, in-Some-Descendant}
use Rattle.sweeps.proofs.compounds.segment_before.Goals as goal

pub loop-init : goal.loop-init
loop-init c = let q : c.args.count - 0 ≡ c.args.count = omega arith in rw (q, c.beginning-segment.ensures) (laws.seek-begin _ _ _ _)

pub returns-in_default-clause-tests_value : goal.returns-in_default-clause-tests_value
returns-in_default-clause-tests_value c = laws.seek_stop _ _ _ _ _ _ _ _ _ c.loop.invariant (omega arith) _ c.pass_met.ensures _ (c.in-Some-Descendant.is ∙ ap Some c.in-Some-Descendant.field-0-is) c.if-behind-stop.false

pub returns-in_default-2-clause-tests_value : goal.returns-in_default-2-clause-tests_value
returns-in_default-2-clause-tests_value c = laws.seek-fault _ _ _ _ _ _ _ _ _ c.loop.invariant (omega arith) _ c.pass_met.ensures c.in_default.is

pub loop-preserved : goal.loop-preserved
loop-preserved c = let q : c.args.count - (c.loop.counter + 1) ≡ c.args.count - c.loop.counter - 1 = omega arith in rw q (elim c.match-pass_met-2.branch [
  | in-Some-Test w ↦ rw (w.segment-is, w.next-is) (let f = laws.seek-test _ _ _ _ _ _ _ _ _ c.loop.invariant (omega arith) _ c.pass_met.ensures in search (rules, f))
  | in-Some-Child w ↦ rw (w.segment-is, w.next-is) (let f = laws.seek-child _ _ _ _ _ _ _ _ _ c.loop.invariant (omega arith) _ c.pass_met.ensures in search (rules, f))
  | in-Some-Descendant w ↦ rw (w.segment-is, w.next-is, w.beginning-segment-in-Some-Descendant.ensures) (let f = laws.seek-next _ _ _ _ _ _ _ _ _ c.loop.invariant (omega arith) _ c.pass_met.ensures in let t = w.if-behind-stop.true in search (rules, f, t))
])

pub returns-clause-tests_value : goal.returns-clause-tests_value
returns-clause-tests_value c = laws.seek-end _ _ _ _ _ _ _ _ _ c.loop.invariant (omega arith)
