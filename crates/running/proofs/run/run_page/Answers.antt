-- All rows are styled, then all that lies behind them and the work stores are cleared.
use mathlib.Core.Path.{◌∙◌}
use native.Mathlib.Omega.{arith}
use borrow.Author.Rules.{rules}
use Rattle.running.proofs.RunCalls as laws
use Rattle.running.proofs.run.run_page.Goals as goal

pub returns-clause-left : goal.returns-clause-left
returns-clause-left c = laws.page-left c.args.input.settings c.requires _ _ _ _ _ _ _ _ c.run_rows-fill.ensures.texts_after c.run_rows-fill.ensures.kept.within c.run_rows-fill.auto.state c.run_rows-fill.ensures.kept.lengths.rules c.run_rows-fill.ensures.kept.lengths.tokens c.run_rows-fill.ensures.kept.lengths.brackets c.run_rows-fill.ensures.kept.lengths.texts c.node_count-styled.ensures _ _ _ _ _ _ (laws.filled-behind _ _ _ (omega (arith, c.requires.lengths.for-rows, c.node_count-styled.ensures, c.run_rows-fill.auto.rows)) (c.fill.ensures.after (search rules))) (c.clear_work.ensures.texts_unchanged ∙ laws.filled-behind _ _ _ c.run_rows-fill.ensures.kept.within (c.fill-2.ensures.after (search rules))) c.clear_work.ensures.rules_after c.clear_work.ensures.tokens_after c.clear_work.ensures.brackets_after (c.fill-3.ensures.after (search rules)) _ (laws.styled-numbers _)
