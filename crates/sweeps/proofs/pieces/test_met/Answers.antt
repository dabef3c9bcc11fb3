-- A component of one text is tested by that text; any other as it is read.
use Rattle.sweeps.proofs.CodePieceLaws as laws
use Rattle.sweeps.proofs.pieces.test_met.Goals as goal

pub returns-in-Some : goal.returns-in-Some
returns-in-Some c = laws.named-tested _ _ _ _ c.name_at.ensures _ c.in-Some.is _ c.part_of-word.ensures _ c.name_passes-passes.ensures

pub test_other-requires : goal.test_other-requires
test_other-requires c = laws.nameless _ _ _ c.name_at.ensures c.in-None.is
