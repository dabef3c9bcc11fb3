-- The parent has to be one, to lie on the line above the row before, and to leave room for a level more.
use mathlib.Core.Path.{◌∙◌}
use native.Mathlib.Omega.{arith}
use Rattle.page.proofs.RowLaws as laws
use Rattle.page.proofs.rules.check_parent.Goals as goal

pub returns-then-not-is_parent : goal.returns-then-not-is_parent
returns-then-not-is_parent c = laws.parent-none _ _ _ c.requires _ c.parent_of-parent.ensures.value _ c.is_parent.ensures c.if-not-is_parent.true

pub returns-in_err-above : goal.returns-in_err-above
returns-in_err-above c = c.from_residual.ensures ∙ laws.parent-away _ _ _ c.requires _ c.parent_of-parent.ensures.value _ c.is_parent.ensures _ c.climb_to.ensures c.in_err-above.was

pub overflow_add-above : goal.overflow_add-above
overflow_add-above c = let l = laws.depth-within _ _ _ c.requires _ c.parent_of-parent.ensures.value _ c.is_parent.ensures _ c.climb_to.ensures _ c.in_ok-above.was in omega (arith, l, c.ranges.row)

pub returns : goal.returns
returns c = c.then_some.ensures ∙ laws.depth-told _ _ _ c.requires _ c.parent_of-parent.ensures.value _ c.is_parent.ensures _ c.climb_to.ensures _ c.in_ok-above.was c.if-not-is_parent.false
