-- The work left from a row on is the whole work.
use Rattle.page.specs.Lent.{page_in}
use Rattle.running.proofs.RowSteps as laws
use Rattle.running.proofs.rows.run_rows.Given as goal

abbrev pub invariant-loop-row : goal.invariant-loop-row
invariant-loop-row l = laws.Looping l.input.compiled.now l.input.settings (page_in l.input.page) l.initial.rows l.initial.state l.initial.stores l.rows l.state l.stores l.fill l.row
