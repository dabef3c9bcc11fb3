-- The characters so far are no White_Space; what is counted is what the definition repeats.
use Rattle.std.proofs.Common.{arith, sym, ◌∙◌}
use Rattle.combinators.specs.Choice.{pick}
use Rattle.combinators.proofs.Repeating.{repeat-more, repeat-stop, repeat-end, lent, lent-le}
use Rattle.characters.specs.Trim.{word_taken}
use Rattle.characters.proofs.Scalars.{scalar-some}
use Rattle.characters.proofs.Trimming as laws
use Rattle.combinators.proofs.Lists.{length-rest}
use Rattle.characters.proofs.trim.word_end.Goals as goal

pub overflow_add-i : goal.overflow_add-i
unfolding pick
overflow_add-i c = omega (arith, lent-le word_taken laws.word-le c.args.s.now c.loop-i.i _ c.loop-i.invariant.within_text (laws.word_value _ _ c.scalar_at.ensures (λ z. omega (arith, length-rest c.args.s.now c.loop-i.i, c.loop-i-test.true, z)) _ _ c.in-Some.is _ _ c.is_white_space.ensures c.if-is_white_space.false))

pub loop-i-smaller-in-Some-2 : goal.loop-i-smaller-in-Some-2
unfolding pick
loop-i-smaller-in-Some-2 c =
    omega (arith, lent-le word_taken laws.word-le c.args.s.now c.loop-i.i _ c.loop-i.invariant.within_text (laws.word_value _ _ c.scalar_at.ensures (λ z. omega (arith, length-rest c.args.s.now c.loop-i.i, c.loop-i-test.true, z)) _ _ c.in-Some.is _ _ c.is_white_space.ensures c.if-is_white_space.false), scalar-some _ _ _ (sym c.scalar_at.ensures ∙ c.in-Some.is))

pub loop-i-preserved-in-Some-2 : goal.loop-i-preserved-in-Some-2
unfolding pick
loop-i-preserved-in-Some-2 c =
    let n = laws.word_value _ _ c.scalar_at.ensures (λ z. omega (arith, length-rest c.args.s.now c.loop-i.i, c.loop-i-test.true, z)) _ _ c.in-Some.is _ _ c.is_white_space.ensures c.if-is_white_space.false in
    let some = scalar-some _ _ _ (sym c.scalar_at.ensures ∙ c.in-Some.is) in
    repeat-more _ _ _ c.loop-i.invariant _ (lent word_taken c.args.s.now c.loop-i.i _ n)
    (lent-le word_taken laws.word-le c.args.s.now c.loop-i.i _ c.loop-i.invariant.within_text n) (λ z. omega (arith, some))

pub loop-i-preserved : goal.loop-i-preserved
loop-i-preserved c =
    repeat-more _ _ _ c.loop-i.invariant _ (lent word_taken c.args.s.now c.loop-i.i _ (laws.word_none _ _ c.scalar_at.ensures (λ z. omega (arith, length-rest c.args.s.now c.loop-i.i, c.loop-i-test.true, z)) c.in-None.is)) (omega (arith, c.loop-i-test.true)) (λ z. omega arith)

pub returns-in-Some-clause-value : goal.returns-in-Some-clause-value
unfolding pick
returns-in-Some-clause-value c =
    repeat-stop _ _ _ c.loop-i.invariant (lent word_taken c.args.s.now c.loop-i.i _ (laws.word_value _ _ c.scalar_at.ensures (λ z. omega (arith, length-rest c.args.s.now c.loop-i.i, c.loop-i-test.true, z)) _ _ c.in-Some.is _ _ c.is_white_space.ensures c.if-is_white_space.true))

pub returns-after-loop-i-clause-value : goal.returns-after-loop-i-clause-value
returns-after-loop-i-clause-value c = repeat-end _ _ _ c.loop-i.invariant c.loop-i-test.false
