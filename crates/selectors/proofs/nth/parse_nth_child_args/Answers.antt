-- Both brackets with an argument between them, or nothing; a panic is told from the bracket on. What is read lies within the text.
use mathlib.Core.Path.{◌∙◌, ap}
use Rattle.std.proofs.Common.{Ok, Err}
use Rattle.std.proofs.lemmas.Result.{err_from_is_err_and}
use Rattle.selectors.proofs.NthLaws as laws
use Rattle.selectors.proofs.ReadingLaws.{moved-fits, moved-ok, moved-err}
use borrow.Author.Rules.{rules}
use Rattle.selectors.proofs.nth.parse_nth_child_args.Goals as goal

pub returns-then-not-byte_is : goal.returns-then-not-byte_is
returns-then-not-byte_is c = laws.args_none _ _ c.byte_is.ensures c.if-not-byte_is.true

pub skip_from-start-requires : goal.skip_from-start-requires
skip_from-start-requires c = laws.bracket-there c.args.s.now _ c.byte_is.ensures c.if-not-byte_is.false

pub moved-requires : goal.moved-requires
moved-requires c = moved-fits _ _ (λ q e. let h = laws.args-panic-le c.args.s.now _ c.byte_is.ensures c.if-not-byte_is.false _ c.skip_from-start.ensures.value c.skip_from-start.ensures.upper_bound _ c.parse_nth.ensures q.place e in search rules)

pub returns-in_default : goal.returns-in_default
returns-in_default c = laws.args-not-read _ _ c.byte_is.ensures c.if-not-byte_is.false _ c.skip_from-start.ensures.value c.skip_from-start.ensures.upper_bound _ c.parse_nth.ensures (moved-ok _ _ _ c.moved.ensures _ (c.in_ok-nth.was ∙ ap Ok c.in_default.is))

pub returns-in_err-nth : goal.returns-in_err-nth
returns-in_err-nth c =
    let p = err_from_is_err_and c.from_residual.result c.from_residual.ensures.1 in
    let m = moved-err _ _ _ c.moved.ensures _ c.in_err-nth.was in
    rw (p.1, p.2) (ap Err m.2 ∙ laws.args-panic _ _ c.byte_is.ensures c.if-not-byte_is.false _ c.skip_from-start.ensures.value c.skip_from-start.ensures.upper_bound _ c.parse_nth.ensures m.0 m.1)

pub overflow_add-start : goal.overflow_add-start
overflow_add-start c = let h = laws.args-le c.args.s.now _ c.byte_is.ensures c.if-not-byte_is.false _ c.skip_from-start.ensures.value c.skip_from-start.ensures.upper_bound _ c.parse_nth.ensures _ _ (moved-ok _ _ _ c.moved.ensures _ (c.in_ok-nth.was ∙ ap Ok c.in-Some.is)) in search rules

pub skip_from-end-requires : goal.skip_from-end-requires
skip_from-end-requires c = laws.args-le c.args.s.now _ c.byte_is.ensures c.if-not-byte_is.false _ c.skip_from-start.ensures.value c.skip_from-start.ensures.upper_bound _ c.parse_nth.ensures _ _ (moved-ok _ _ _ c.moved.ensures _ (c.in_ok-nth.was ∙ ap Ok c.in-Some.is))

pub returns-then-not-byte_is-2 : goal.returns-then-not-byte_is-2
returns-then-not-byte_is-2 c = laws.args-open _ _ c.byte_is.ensures c.if-not-byte_is.false _ c.skip_from-start.ensures.value c.skip_from-start.ensures.upper_bound _ c.parse_nth.ensures _ _ (moved-ok _ _ _ c.moved.ensures _ (c.in_ok-nth.was ∙ ap Ok c.in-Some.is)) _ c.skip_from-end.ensures.value _ c.byte_is-2.ensures c.if-not-byte_is-2.true

pub returns : goal.returns
returns c = laws.args_read _ _ c.byte_is.ensures c.if-not-byte_is.false _ c.skip_from-start.ensures.value c.skip_from-start.ensures.upper_bound _ c.parse_nth.ensures _ _ (moved-ok _ _ _ c.moved.ensures _ (c.in_ok-nth.was ∙ ap Ok c.in-Some.is)) _ c.skip_from-end.ensures.value _ c.byte_is-2.ensures c.if-not-byte_is-2.false
