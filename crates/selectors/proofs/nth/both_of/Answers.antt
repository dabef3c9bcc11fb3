-- Each condition of the definition by its own test; the first number that does not fit is where the crate panics.
use Rattle.std.proofs.lemmas.Result.{err_from_is_err_and}
use Rattle.selectors.proofs.NthLaws as laws
use Rattle.selectors.proofs.ReadingLaws.{not-there}
use borrow.Author.Rules.{rules}
use Rattle.selectors.proofs.nth.both_of.Goals as goal

pub returns-then-not-byte_is : goal.returns-then-not-byte_is
returns-then-not-byte_is c = laws.both-none _ _ c.signed_integer-first.ensures.value _ c.byte_is.ensures c.if-not-byte_is.true

pub skip_from-at-requires : goal.skip_from-at-requires
skip_from-at-requires c = laws.letter-there _ _ c.signed_integer-first.ensures.value _ c.byte_is.ensures c.if-not-byte_is.false

pub returns-then-second-eq0 : goal.returns-then-second-eq0
returns-then-second-eq0 c = laws.both-no-number _ _ c.signed_integer-first.ensures.value _ c.byte_is.ensures c.if-not-byte_is.false _ c.skip_from-at.ensures.value _ c.signed_integer-second.ensures.value c.then-second-eq0.either

pub returns-in_err-a : goal.returns-in_err-a
returns-in_err-a c =
    let p = err_from_is_err_and c.from_residual.result c.from_residual.ensures.1 in
    let n = not-there _ _ _ c.in_err-a.ensures.value in
    rw (p.1, p.2, n.1) (laws.both-over-a _ _ c.signed_integer-first.ensures.value _ c.byte_is.ensures c.if-not-byte_is.false _ c.skip_from-at.ensures.value _ c.signed_integer-second.ensures.value c.if-second-eq0.false c.if-second.false n.0)

pub overflow_add-at : goal.overflow_add-at
overflow_add-at c = let h = laws.both-sign-le c.args.s.now _ _ c.signed_integer-second.ensures.value c.skip_from-at.ensures.upper_bound c.signed_integer-second.ensures.taken_in_bounds in search rules

pub returns-in_err-b : goal.returns-in_err-b
returns-in_err-b c =
    let p = err_from_is_err_and c.from_residual-in_err-b.result c.from_residual-in_err-b.ensures.1 in
    let n = not-there _ _ _ c.in_err-b.ensures.value in
    rw (p.1, p.2, n.1) (laws.both-over-b _ _ c.signed_integer-first.ensures.value _ c.byte_is.ensures c.if-not-byte_is.false _ c.skip_from-at.ensures.value _ c.signed_integer-second.ensures.value c.if-second-eq0.false c.if-second.false _ c.in_ok-a.ensures.ok_part n.0)

pub returns : goal.returns
returns c = laws.both-numbers _ _ c.signed_integer-first.ensures.value _ c.byte_is.ensures c.if-not-byte_is.false _ c.skip_from-at.ensures.value _ c.signed_integer-second.ensures.value c.if-second-eq0.false c.if-second.false _ c.in_ok-a.ensures.ok_part _ c.in_ok-b.ensures.ok_part
