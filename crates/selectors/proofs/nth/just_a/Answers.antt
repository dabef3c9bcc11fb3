-- The letter is there, and the number before it fits or the crate panics.
use Rattle.std.proofs.lemmas.Result.{err_from_is_err_and}
use Rattle.selectors.proofs.NthLaws as laws
use Rattle.selectors.proofs.ReadingLaws.{not-there}
use Rattle.selectors.proofs.nth.just_a.Goals as goal

pub returns-then-not-byte_is : goal.returns-then-not-byte_is
returns-then-not-byte_is c = laws.a-none _ _ c.signed_integer-first.ensures.value _ c.byte_is.ensures c.if-not-byte_is.true

pub returns-in_err-a : goal.returns-in_err-a
returns-in_err-a c =
    let p = err_from_is_err_and c.from_residual.result c.from_residual.ensures.1 in
    let n = not-there _ _ _ c.in_err-a.ensures.value in
    rw (p.1, p.2, n.1) (laws.a-over _ _ c.signed_integer-first.ensures.value _ c.byte_is.ensures c.if-not-byte_is.false n.0)

pub returns : goal.returns
returns c = laws.a-number _ _ c.signed_integer-first.ensures.value _ c.byte_is.ensures c.if-not-byte_is.false _ c.in_ok-a.ensures.ok_part
