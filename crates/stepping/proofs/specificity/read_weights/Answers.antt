-- What was added with what the components left add is the whole, so at the end nothing is missing; the first fault ends it.
use mathlib.Core.Path.{◌≡◌, refl, ◌∙◌}
use Prim.Native.Nat.{◌+◌, ◌-◌}
use native.Mathlib.Omega.{arith}
use borrow.Author.Rules.{rules}
use Rattle.compiled.proofs.Answers.{raised}
use Rattle.stepping.proofs.WeightLaws as laws
use Rattle.stepping.proofs.specificity.read_weights.Goals as goal
use Rattle.stepping.proofs.specificity.read_weights.Goals.{in-Some-eq1, in-Some, in-None+in_ok-weight-in-None}

pub loop-init : goal.loop-init
loop-init c = let q : c.args.count - 0 ≡ c.args.count = omega arith in rw q (laws.add_begin _ _ _)

pub with_name-value-requires : goal.with_name-value-requires
with_name-value-requires c = laws.add-fits _ _ _ _ _ _ c.loop.invariant (omega arith) _ (laws.short-named _ _ _ c.in-Some.ensures c.in-Some.size-test.1 _ c.from.ensures _ (laws.name-adds _ _ refl)) _ refl (search rules)

pub add-value-requires : goal.add-value-requires
add-value-requires c = laws.add-fits _ _ _ _ _ _ c.loop.invariant (omega arith) _ c.read_long_weight.ensures _ c.in_ok-weight-in-None.was (search rules)

pub returns-in_err-weight-in-None : goal.returns-in_err-weight-in-None
returns-in_err-weight-in-None c = raised _ _ c.from_residual.ensures.1 ∙ laws.add-fault _ _ _ _ _ _ c.loop.invariant (omega arith) _ c.read_long_weight.ensures _ c.in_err-weight-in-None.was

pub loop-preserved : goal.loop-preserved
loop-preserved c = let q : c.args.count - (c.loop.counter + 1) ≡ c.args.count - c.loop.counter - 1 = omega arith in
    rw q
    (elim c.match-short_size.branch [
      | in-Some-eq1 w ↦ rw (w.value-is, w.next-is) (laws.add-none _ _ _ _ _ _ c.loop.invariant (omega arith) _ (laws.short-alone _ _ _ w.in-Some-eq1.ensures w.in-Some-eq1.field-0-test) _ refl)
      | in-Some w ↦ rw (w.value-is, w.next-is) (laws.add-more _ _ _ _ _ _ c.loop.invariant (omega arith) _ (laws.short-named _ _ _ w.in-Some.ensures w.in-Some.size-test.1 _ w.from.ensures _ (laws.name-adds _ _ refl)) _ refl _ w.with_name-value.ensures)
      | in-None+in_ok-weight-in-None w ↦ rw (w.value-is, w.next-is) (laws.add-more _ _ _ _ _ _ c.loop.invariant (omega arith) _ w.read_long_weight.ensures _ w.in_ok-weight-in-None.was _ w.add-value.ensures)
    ])

pub returns : goal.returns
returns c = laws.add-end _ _ _ _ _ _ c.loop.invariant (omega arith)
