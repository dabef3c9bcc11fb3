-- Behind the head and its components the selector ends.
use Rattle.origins.proofs.WalkLaws as laws
use Rattle.origins.proofs.walk.skip_selector.Goals as goal

pub returns : goal.returns
returns c = laws.behind-selector _ _ _ c.forward.result c.number_at-components.ensures c.forward.ensures.rows_value
