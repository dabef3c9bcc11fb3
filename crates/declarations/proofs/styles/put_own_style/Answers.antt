-- A declaration puts the row of its style, or nothing.
use Rattle.declarations.proofs.Styling as laws
use Rattle.declarations.proofs.styles.put_own_style.Goals as goal

pub returns-in-Some : goal.returns-in-Some
returns-in-Some c = laws.own_put _ _ c.own_style_at.ensures _ _ c.in-Some.is _ c.put_style.ensures

pub returns-in-None : goal.returns-in-None
returns-in-None c = laws.own-none _ _ c.own_style_at.ensures _ c.in-None.is
