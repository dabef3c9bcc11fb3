-- A row that is no element is refused; any other is an element of an accepted page, so the matcher may be asked.
use Rattle.comparison.proofs.MatchResults as results
use Rattle.comparison.proofs.matches.match_row.Goals as goal

pub returns-then-not-is_element : goal.returns-then-not-is_element
returns-then-not-is_element c = results.row_other _ _ _ _ _ _ _ c.is_element.ensures c.if-not-is_element.true

pub invariant_of-do_matches : goal.invariant_of-do_matches
invariant_of-do_matches c = record { rooted = results.row-rooted c.args.selector.components.now c.args.selector.left c.args.selector.store.now c.args.page.nodes.now c.args.page.attributes.now c.args.page.text.now _ c.is_element.ensures c.if-not-is_element.false c.requires.accepted }

pub returns : goal.returns
returns c = results.row-asked _ _ _ _ _ _ _ c.is_element.ensures c.if-not-is_element.false c.do_matches.ensures c.specificity.ensures
