-- The climb from here arrives where it would from the start, and the depth that is left is that of the row.
use mathlib.Core.Path.{refl, ◌∙◌}
use Rattle.page.proofs.Ancestry as laws
use borrow.Author.Rules.{rules}
use Rattle.page.proofs.ancestors.climb_to.Goals as goal

pub returns-in_err-row : goal.returns-in_err-row
returns-in_err-row c = c.from_residual.ensures ∙ laws.climb-stop _ _ _ _ _ c.loop-row.invariant c.loop-row-test.true _ refl c.in_err-row.ensures

pub overflow_sub-left : goal.overflow_sub-left
overflow_sub-left c = let h = laws.climb-deep _ _ _ _ _ c.loop-row.invariant c.loop-row-test.true _ c.in_ok-row.ensures.0 c.in_ok-row.ensures.1 in search rules

pub loop-row-preserved : goal.loop-row-preserved
loop-row-preserved c = laws.climb-on _ _ _ _ _ c.loop-row.invariant c.loop-row-test.true _ c.in_ok-row.ensures.0 c.in_ok-row.ensures.1

pub returns : goal.returns
returns c = laws.climb-done _ _ _ _ _ c.loop-row.invariant c.loop-row-test.false
