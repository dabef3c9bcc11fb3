-- Head and components are read before anything is merged, and the styles declare nothing where they do not read, so that a selector which does not read leaves the row as it was.
use Rattle.stepping.proofs.FoundLaws as laws
use Rattle.stepping.proofs.merging.merge_found.Goals as goal

pub returns-in_default : goal.returns-in_default
returns-in_default c = laws.head-none _ _ _ c.read_head.ensures.value _ c.in_default.is _

pub returns-in-Ok-read_weights : goal.returns-in-Ok-read_weights
returns-in-Ok-read_weights c = laws.found-merged _ _ _ c.read_head.ensures.value _ c.in-Ok.is _ c.read_weights.ensures _ c.in-Ok-read_weights.is _ _ c.merge_styles.ensures

pub returns-in_default-read_weights : goal.returns-in_default-read_weights
returns-in_default-read_weights c = laws.components-none _ _ _ c.read_head.ensures.value _ c.in-Ok.is _ c.read_weights.ensures _ c.in_default-read_weights.is _
