-- 0, an odd number for one below 0, an even one for one above.
use mathlib.Core.Path.{◌∙◌}
use Rattle.selectors.proofs.NthNumbers as laws
use Rattle.selectors.proofs.nth.signed_number.Goals as goal

pub returns-then-minus : goal.returns-then-minus
returns-then-minus c = c.saturating_sub.ensures ∙ laws.signed-minus _ _ c.if-minus.true

pub returns-else-minus : goal.returns-else-minus
returns-else-minus c = laws.signed-plus _ _ c.if-minus.false
