-- Each turn merges what the first of the rules that are left says and goes behind it and its styles, so all are merged in their order.
use Rattle.path_styles.proofs.RulesMerging as laws
use Rattle.path_styles.proofs.TopsLaws as numbers
use native.Mathlib.Omega.{arith}
use Rattle.path_styles.proofs.rules.SheetMerge.merge_rules.Goals as goal

pub loop-init : goal.loop-init
loop-init c = (laws.rules-begin _ _ _ _ _ _ _ _ _ _ _ (omega arith), numbers.rules-right _ _ _ _ _ _ _ _ c.args.sheet.styled.rules.count _ _ (omega arith) c.requires.right_tops)

pub merge_rule-requires : goal.merge_rule-requires
merge_rule-requires c = record { right_tops = numbers.rule-tops _ _ _ _ _ _ _ _ _ _ c.loop.invariant.1 (omega arith) }

pub loop-preserved : goal.loop-preserved
loop-preserved c = (
  laws.rules-more _ _ _ _ _ _ _ _ _ _ _ _ _ _ c.loop.invariant.0 (omega arith) _ (omega arith) _ c.merge_rule.ensures.out_after _ c.merge_rule.ensures.rows_value _ c.skip_kept.ensures,
  numbers.later-tops _ _ _ _ _ _ _ _ _ _ c.loop.invariant.1 (omega arith) _ c.number_at-selectors.ensures _ c.merge_rule.ensures.rows_value _ c.forward.ensures.rows_value _ (omega arith),
)

pub returns : goal.returns
returns c = laws.rules-done _ _ _ _ _ _ _ _ _ _ _ _ _ _ c.loop.invariant.0 (omega arith)
