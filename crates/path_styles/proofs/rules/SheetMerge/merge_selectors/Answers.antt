-- Each turn merges what the first of the selectors that are left says and goes behind it, so all are merged and passed.
use Rattle.path_styles.proofs.RulesMerging as laws
use Rattle.path_styles.proofs.TopsLaws as numbers
use native.Mathlib.Omega.{arith}
use Rattle.path_styles.proofs.rules.SheetMerge.merge_selectors.Goals as goal

pub loop-init : goal.loop-init
loop-init c = (laws.selectors-begin _ _ _ _ _ _ _ _ _ _ (omega arith), numbers.selectors-right _ _ _ _ _ _ _ _ c.args.selectors _ _ (omega arith) c.requires.right_tops)

pub merge_selector-requires : goal.merge_selector-requires
merge_selector-requires c = record { right_number = numbers.first-top _ _ _ _ _ _ _ _ _ _ c.loop.invariant.1 (omega arith) _ c.top_at-top.ensures }

pub loop-preserved : goal.loop-preserved
loop-preserved c = (
  laws.selectors-more _ _ _ _ _ _ _ _ _ _ _ _ c.loop.invariant.0 (omega arith) _ (omega arith) _ c.merge_selector.ensures _ c.skip_selector-place.ensures,
  numbers.next-tops _ _ _ _ _ _ _ _ _ _ c.loop.invariant.1 (omega arith) _ c.skip_selector-place.ensures _ c.forward-top_place.ensures.rows_value _ (omega arith),
)

pub returns : goal.returns
returns c = let t : goal.returns-raw c = laws.selectors-done _ _ _ _ _ _ _ _ _ _ _ _ c.loop.invariant.0 (omega arith) in record { out_after = t.0; rows_value = t.1 }
