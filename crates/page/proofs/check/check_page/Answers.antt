-- The refusals in the order of their numbers, each found by its own search; a page that passes all is accepted.
use Rattle.page.proofs.PageLaws as laws
use Rattle.page.proofs.check.check_page.Goals as goal

pub returns-then-not-within_limits : goal.returns-then-not-within_limits
returns-then-not-within_limits c = laws.page-too-large _ _ _ _ c.within_limits.ensures c.if-not-within_limits.true

pub returns-then-node_count-eq0 : goal.returns-then-node_count-eq0
returns-then-node_count-eq0 c = laws.page-empty _ _ _ _ c.within_limits.ensures c.if-not-within_limits.false _ c.node_count.ensures c.if-node_count-eq0.true

pub returns-in-Some : goal.returns-in-Some
returns-in-Some c = laws.page-bad-row _ _ _ _ c.within_limits.ensures c.if-not-within_limits.false _ c.node_count.ensures c.if-node_count-eq0.false _ c.first_bad_row.ensures _ c.in-Some.is

pub returns-in-Some-first_bad_text : goal.returns-in-Some-first_bad_text
returns-in-Some-first_bad_text c = laws.page-bad-text _ _ _ _ c.within_limits.ensures c.if-not-within_limits.false _ c.node_count.ensures c.if-node_count-eq0.false _ c.first_bad_row.ensures c.in_default.is
    _ c.first_bad_text.ensures _ c.in-Some-first_bad_text.is

pub returns : goal.returns
returns c = laws.page-accepted _ _ _ _ c.within_limits.ensures c.if-not-within_limits.false _ c.node_count.ensures c.if-node_count-eq0.false _ c.first_bad_row.ensures c.in_default.is
    _ c.first_bad_text.ensures c.in_default-first_bad_text.is
