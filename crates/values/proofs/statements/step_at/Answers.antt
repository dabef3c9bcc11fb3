-- The store of brackets is a stack of those awaited; each kind of token does to it what the definition does.
use native.Mathlib.Omega.{arith}
use Rattle.values.proofs.Nesting as laws
use Rattle.values.proofs.statements.step_at.Goals as goal

pub returns-in-Opens : goal.returns-in-Opens
returns-in-Opens c t e = laws.moved-opens _ _ _ (c.bracket_of.ensures t e) _ _ _ c.in-Opens.is c.requires

pub returns-in-Closes : goal.returns-in-Closes
returns-in-Closes c t e = laws.moved-closes _ _ _ (c.bracket_of.ensures t e) _ _ _ c.in-Closes.is _ (laws.closed-part _ _ _ (omega arith) _ (c.closing_step.ensures.brackets_value, c.closing_step.ensures.depth_value))

pub returns-in-Ends : goal.returns-in-Ends
returns-in-Ends c t e = laws.moved_ends _ _ _ (c.bracket_of.ensures t e) _ _ c.in-Ends.is _ c.ending_step.ensures

pub returns-in-NoBracket : goal.returns-in-NoBracket
returns-in-NoBracket c t e = laws.moved_none _ _ _ (c.bracket_of.ensures t e) _ _ c.in-NoBracket.is
