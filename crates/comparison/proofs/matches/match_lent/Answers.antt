-- The refusals in their order, each by its own test; a page that is accepted is asked for the row.
use Rattle.comparison.proofs.MatchResults as results
use Rattle.comparison.proofs.matches.match_lent.Goals as goal

pub returns-then-selector-gt-SHEET_LIMIT : goal.returns-then-selector-gt-SHEET_LIMIT
returns-then-selector-gt-SHEET_LIMIT c = results.too_many c.args.selector.components.now c.args.selector.left c.args.selector.store.now c.args.page.nodes.now c.args.page.attributes.now c.args.page.text.now c.args.row c.if-selector-gt-SHEET_LIMIT.true

pub returns-then-selector : goal.returns-then-selector
returns-then-selector c = results.too_few c.args.selector.components.now c.args.selector.left c.args.selector.store.now c.args.page.nodes.now c.args.page.attributes.now c.args.page.text.now c.args.row c.if-selector-gt-SHEET_LIMIT.false c.if-selector.true

pub match_row-requires : goal.match_row-requires
match_row-requires c = record { left_le_component_limit = c.if-selector-gt-SHEET_LIMIT.false; accepted = results.accepts c.args.selector.components.now c.args.selector.left c.args.selector.store.now c.args.page.nodes.now c.args.page.attributes.now c.args.page.text.now c.args.row c.if-selector-gt-SHEET_LIMIT.false c.if-selector.false c.check_page.ensures c.in_ok-check_page.was }

pub returns-in_err-check_page : goal.returns-in_err-check_page
returns-in_err-check_page c = results.no-page c.args.selector.components.now c.args.selector.left c.args.selector.store.now c.args.page.nodes.now c.args.page.attributes.now c.args.page.text.now c.args.row c.if-selector-gt-SHEET_LIMIT.false c.if-selector.false c.check_page.ensures c.in_err-check_page.was _ c.from_residual.ensures.1

pub returns : goal.returns
returns c = results.on-page c.args.selector.components.now c.args.selector.left c.args.selector.store.now c.args.page.nodes.now c.args.page.attributes.now c.args.page.text.now c.args.row c.if-selector-gt-SHEET_LIMIT.false c.if-selector.false c.check_page.ensures c.in_ok-check_page.was _ c.match_row.ensures
