-- What is left to store is what was to be stored, rule by rule.
use Rattle.path_styles.proofs.TopsLaws as laws
use borrow.Author.Rules.{rules}
use native.Mathlib.Omega.{arith}
use Rattle.path_styles.proofs.tops.PathSelectors.find_rules_tops.Goals as goal

pub loop-init : goal.loop-init
loop-init c = laws.rules-begin _ _ _ _ _ _ _ _ _ _ c.requires _ (omega arith)

pub overflow_add-behind : goal.overflow_add-behind
overflow_add-behind c = search (rules, (laws.rule-room _ _ _ _ _ _ _ _ _ _ _ _ _ _ c.loop.invariant (omega arith) _ c.number_at.ensures).room)

pub slice_bounds-find_selectors_tops-end : goal.slice_bounds-find_selectors_tops-end
slice_bounds-find_selectors_tops-end c = search (rules, (laws.rule-room _ _ _ _ _ _ _ _ _ _ _ _ _ _ c.loop.invariant (omega arith) _ c.number_at.ensures).room)

pub loop-preserved : goal.loop-preserved
loop-preserved c = laws.rules-more _ _ _ _ _ _ _ _ _ _ _ _ _ _ c.loop.invariant (omega arith) _ c.number_at.ensures c.forward-first.result c.forward-first.ensures.rows_value _ (laws.rule-part _ _ _ _ _ _ _ _ _ _ _ _ _ _ c.loop.invariant (omega arith) _ c.number_at.ensures) _ c.find_selectors_tops.ensures _ c.skip_rule-from.ensures _ (omega arith)

pub returns : goal.returns
returns c = let t : goal.returns-raw c = laws.rules-done _ _ _ _ _ _ _ _ _ _ _ _ _ _ c.loop.invariant (omega arith) in record { tokens_after = t.0; value = t.1 }
