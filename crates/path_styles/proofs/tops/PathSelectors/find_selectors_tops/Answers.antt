-- What is left to store is what was to be stored.
use Rattle.path_styles.proofs.TopsLaws as laws
use native.Mathlib.Omega.{arith}
use Rattle.path_styles.proofs.tops.PathSelectors.find_selectors_tops.Goals as goal

pub loop-top-init : goal.loop-top-init
loop-top-init c = laws.store-begin _ _ _ _ _ _ _ _ _ (omega arith)

pub loop-top-preserved : goal.loop-top-preserved
loop-top-preserved c = laws.store-more _ _ _ _ _ _ _ _ _ _ _ _ c.loop-top.invariant (omega arith) _ c.find_top.ensures _ c.skip_selector-from.ensures _ (omega arith)

pub returns : goal.returns
returns c = laws.store-done _ _ _ _ _ _ _ _ _ _ _ _ c.loop-top.invariant (omega arith)
