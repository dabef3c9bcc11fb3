-- 0 is off, all else on.
use Rattle.engine.proofs.Results as results
use Rattle.engine.proofs.style.settings_from.Goals as goal

pub returns : goal.returns
returns c = results.switched _
