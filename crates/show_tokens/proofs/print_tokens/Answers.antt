-- A token takes a byte at least and ends within the text, and its texts are no longer than the bytes taken and two more, which the store has.
use Rattle.std.proofs.Common.{refl, arith}
use Rattle.show_tokens.proofs.Printing.{shown}
use Rattle.show_tokens.proofs.print_tokens.Goals as goal

pub overflow_add-line : goal.overflow_add-line
overflow_add-line g c =
    let read = shown c.args.s.now c.loop-start.at _ _ refl c.parse_token.ensures.value _ c.in-Some.is in
    omega (arith, c.loop-start.invariant, read.starts)

pub overflow_add-line-in-Some : goal.overflow_add-line-in-Some
overflow_add-line-in-Some g c =
    let read = shown c.args.s.now c.loop-start.at _ _ refl c.parse_token.ensures.value _ c.in-Some.is in
    omega (arith, c.loop-start.invariant, read.ends)

pub invariant_of-line : goal.invariant_of-line
invariant_of-line g c =
    let read = shown c.args.s.now c.loop-start.at _ _ refl c.parse_token.ensures.value _ c.in-Some.is in
    record { texts_fit = omega (arith, read.texts, c.parse_token.auto.store, c.loop-start.auto.store, c.requires) }

pub overflow_add-at : goal.overflow_add-at
overflow_add-at g c =
    let read = shown c.args.s.now c.loop-start.at _ _ refl c.parse_token.ensures.value _ c.in-Some.is in
    omega (arith, c.loop-start.invariant, read.ends)

pub loop-start-smaller : goal.loop-start-smaller
loop-start-smaller g c =
    let read = shown c.args.s.now c.loop-start.at _ _ refl c.parse_token.ensures.value _ c.in-Some.is in
    omega (arith, c.loop-start.invariant, read.some, read.ends)

pub loop-start-preserved : goal.loop-start-preserved
loop-start-preserved g c =
    let read = shown c.args.s.now c.loop-start.at _ _ refl c.parse_token.ensures.value _ c.in-Some.is in
    omega (arith, c.loop-start.invariant, read.ends)
