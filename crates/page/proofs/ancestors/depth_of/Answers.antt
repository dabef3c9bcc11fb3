-- The steps so far and the depth of the row above are the depth of the row.
use mathlib.Core.Path.{refl}
use Rattle.page.proofs.Ancestry as laws
use borrow.Author.Rules.{rules}
use Rattle.page.proofs.ancestors.depth_of.Goals as goal

pub overflow_add-depth : goal.overflow_add-depth
overflow_add-depth c = let h = laws.depth-few _ _ _ _ _ c.loop-above.invariant c.in-Some.ensures.0 c.in-Some.ensures.1 in search rules

pub loop-above-preserved : goal.loop-above-preserved
loop-above-preserved c = laws.depth-more _ _ _ _ _ c.loop-above.invariant c.in-Some.ensures.0 c.in-Some.ensures.1

pub returns : goal.returns
returns c = laws.depth-done _ _ _ _ _ c.loop-above.invariant refl c.in_default.ensures
