-- The characters so far are White_Space; what is counted is what the definition repeats.
use Rattle.std.proofs.Common.{arith, rules, sym, ◌∙◌}
use Rattle.combinators.specs.Choice.{pick}
use Rattle.combinators.proofs.Repeating.{repeat-more, repeat-stop, lent, lent-le}
use Rattle.characters.specs.Trim.{white_taken}
use Rattle.characters.proofs.Scalars.{scalar-some}
use Rattle.characters.proofs.Trimming as laws
use Rattle.characters.proofs.trim.trim_start.Goals as goal

pub overflow_add-i : goal.overflow_add-i
unfolding pick
overflow_add-i c = omega (arith, lent-le white_taken laws.white-le c.args.s.now c.loop-c.i _ c.loop-c.invariant.within_text (laws.white-value _ _ c.scalar_at.ensures _ _ c.in-Some.is _ _ c.is_white_space.ensures c.if-is_white_space.true))

pub loop-c-smaller : goal.loop-c-smaller
unfolding pick
loop-c-smaller c =
    omega (arith, lent-le white_taken laws.white-le c.args.s.now c.loop-c.i _ c.loop-c.invariant.within_text (laws.white-value _ _ c.scalar_at.ensures _ _ c.in-Some.is _ _ c.is_white_space.ensures c.if-is_white_space.true), scalar-some _ _ _ (sym c.scalar_at.ensures ∙ c.in-Some.is))

pub loop-c-preserved : goal.loop-c-preserved
unfolding pick
loop-c-preserved c =
    let n = laws.white-value _ _ c.scalar_at.ensures _ _ c.in-Some.is _ _ c.is_white_space.ensures c.if-is_white_space.true in
    let some = scalar-some _ _ _ (sym c.scalar_at.ensures ∙ c.in-Some.is) in
    repeat-more _ _ _ c.loop-c.invariant _ (lent white_taken c.args.s.now c.loop-c.i _ n)
    (lent-le white_taken laws.white-le c.args.s.now c.loop-c.i _ c.loop-c.invariant.within_text n) (λ z. omega (arith, some))

pub returns-else-is_white_space-clause-value : goal.returns-else-is_white_space-clause-value
unfolding pick
returns-else-is_white_space-clause-value c =
    repeat-stop _ _ _ c.loop-c.invariant (lent white_taken c.args.s.now c.loop-c.i _ (laws.white-value _ _ c.scalar_at.ensures _ _ c.in-Some.is _ _ c.is_white_space.ensures c.if-is_white_space.false))

pub returns-in-loop-c-clause-value : goal.returns-in-loop-c-clause-value
returns-in-loop-c-clause-value c = repeat-stop _ _ _ c.loop-c.invariant (lent white_taken c.args.s.now c.loop-c.i _ (laws.white-none _ _ c.scalar_at.ensures (search rules)))
