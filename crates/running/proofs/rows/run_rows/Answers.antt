-- The work left from a row on is the whole work.
use Rattle.page.specs.Lent.{page_in}
use Rattle.running.proofs.RowSteps as laws
use Rattle.running.proofs.rows.run_rows.Goals as goal

pub loop-row-init : goal.loop-row-init
loop-row-init c = let a = c.args in laws.begins a.input.compiled.now a.input.settings (page_in a.input.page) a.rows.now a.state.now a.stores.now

pub loop-row-preserved : goal.loop-row-preserved
loop-row-preserved c = laws.again c.loop-row.invariant _ c.node_count-count.ensures c.loop-row-test.true _ _ _ _ c.run_row-fill.ensures.texts_after c.run_row-fill.ensures.upper_bound c.run_row-fill.auto.rows c.run_row-fill.auto.state c.run_row-fill.ensures.kept

pub returns-clause-texts_after : goal.returns-clause-texts_after
returns-clause-texts_after c = laws.ends c.loop-row.invariant _ c.node_count-count.ensures c.loop-row-test.false
