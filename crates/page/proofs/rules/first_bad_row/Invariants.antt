-- The rows so far keep the rules, and depth and totals are those of the row before; the first that does not is the answer.
use Rattle.page.proofs.RowLaws as laws
use Rattle.page.proofs.rules.first_bad_row.Given as goal

abbrev pub invariant-loop-row : goal.invariant-loop-row
invariant-loop-row l = laws.Checking l.page.nodes.now l.page.attributes.now l.row-end l.row l.before.depth l.before.totals.first l.before.totals.start
