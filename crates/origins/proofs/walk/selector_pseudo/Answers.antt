-- Each of the three numbers stands for itself, and any other for the last.
use mathlib.Core.Path.{◌∙◌}
use Rattle.origins.proofs.WalkLaws as laws
use Rattle.origins.proofs.walk.selector_pseudo.Goals as goal

pub returns : goal.returns
returns c = c.min.ensures ∙ laws.pseudo-there c.args.rows.now c.args.at _ c.number_at.ensures
