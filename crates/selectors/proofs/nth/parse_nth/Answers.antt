-- The five alternatives in the crate's order.
use mathlib.Core.Path.{◌∙◌, ap, sym}
use Rattle.std.proofs.Common.{Ok}
use Rattle.std.proofs.lemmas.Result.{err_from_is_err_and}
use Rattle.selectors.proofs.NthLaws as laws
use Rattle.selectors.proofs.nth.parse_nth.Goals as goal

pub returns-then-starts_with : goal.returns-then-starts_with
returns-then-starts_with c = laws.nth-even _ _ c.starts_with.ensures c.if-starts_with.true

pub returns-then-starts_with-2 : goal.returns-then-starts_with-2
returns-then-starts_with-2 c = laws.nth-odd _ _ c.starts_with.ensures c.if-starts_with.false _ c.starts_with-2.ensures c.if-starts_with-2.true

pub returns-in_err-both : goal.returns-in_err-both
returns-in_err-both c =
    let p = err_from_is_err_and c.from_residual.result c.from_residual.ensures.1 in
    rw (p.1, p.2) (laws.nth-both _ _ c.starts_with.ensures c.if-starts_with.false _ c.starts_with-2.ensures c.if-starts_with-2.false _ c.in_err-both.ensures (λ e. cc))

pub returns-in-Some : goal.returns-in-Some
returns-in-Some c = laws.nth-both _ _ c.starts_with.ensures c.if-starts_with.false _ c.starts_with-2.ensures c.if-starts_with-2.false _ (sym (c.in_ok-both.was ∙ ap Ok c.in-Some.is) ∙ c.both_of.ensures) (λ e. cc)

pub returns-in_err-first : goal.returns-in_err-first
returns-in_err-first c =
    let p = err_from_is_err_and c.from_residual-in_err-first.result c.from_residual-in_err-first.ensures.1 in
    rw (p.1, p.2) (laws.nth-a _ _ c.starts_with.ensures c.if-starts_with.false _ c.starts_with-2.ensures c.if-starts_with-2.false _ c.both_of.ensures (c.in_ok-both.was ∙ ap Ok c.in_default.is) _ c.in_err-first.ensures (λ e. cc))

pub returns-in-Some-2 : goal.returns-in-Some-2
returns-in-Some-2 c = laws.nth-a _ _ c.starts_with.ensures c.if-starts_with.false _ c.starts_with-2.ensures c.if-starts_with-2.false _ c.both_of.ensures (c.in_ok-both.was ∙ ap Ok c.in_default.is) _ (sym (c.in_ok-first.was ∙ ap Ok c.in-Some-2.is) ∙ c.just_a.ensures) (λ e. cc)

pub returns : goal.returns
returns c = laws.nth-b _ _ c.starts_with.ensures c.if-starts_with.false _ c.starts_with-2.ensures c.if-starts_with-2.false _ c.both_of.ensures (c.in_ok-both.was ∙ ap Ok c.in_default.is) _ c.just_a.ensures (c.in_ok-first.was ∙ ap Ok c.in_default-2.is) _ c.just_b.ensures
