-- Digits are there, and their number fits or the crate panics.
use Rattle.std.proofs.lemmas.Result.{err_from_is_err_and}
use Rattle.selectors.proofs.NthLaws as laws
use Rattle.selectors.proofs.ReadingLaws.{not-there}
use Rattle.selectors.proofs.nth.just_b.Goals as goal

pub returns-then-second : goal.returns-then-second
returns-then-second c = laws.b-none _ _ c.signed_integer-second.ensures.value c.if-second.true

pub returns-in_err-b : goal.returns-in_err-b
returns-in_err-b c =
    let p = err_from_is_err_and c.from_residual.result c.from_residual.ensures.1 in
    let n = not-there _ _ _ c.in_err-b.ensures.value in
    rw (p.1, p.2, n.1) (laws.b-over _ _ c.signed_integer-second.ensures.value c.if-second.false n.0)

pub returns : goal.returns
returns c = laws.b-number _ _ c.signed_integer-second.ensures.value c.if-second.false _ c.in_ok-b.ensures.ok_part
