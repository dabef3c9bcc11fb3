-- Each turn merges the first of the styles that are left, so all are merged in their order.
use Rattle.path_styles.proofs.RulesMerging as laws
use native.Mathlib.Omega.{arith}
use Rattle.path_styles.proofs.rules.SheetMerge.merge_styles.Goals as goal

pub loop-preserved : goal.loop-preserved
loop-preserved c = laws.styles-more _ _ _ _ _ _ _ _ _ _ _ c.loop.invariant (omega arith) _ (omega arith) _ c.style_at-style.ensures _ c.merge_computed_style.ensures _ c.forward-place.ensures.rows_value

pub returns : goal.returns
returns c = laws.styles-done _ _ _ _ _ _ _ _ _ _ _ c.loop.invariant (omega arith)
