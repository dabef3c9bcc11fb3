-- A short component by its size and its kind; any other as it is read.
use Rattle.sweeps.proofs.CodePieceLaws as laws
use Rattle.sweeps.proofs.pieces.pass_met.Goals as goal

pub returns-in-Some : goal.returns-in-Some
returns-in-Some c = laws.short-passed _ _ _ c.in-Some.ensures _ c.in-Some.size-test.1

pub returns-in-Some-eq1 : goal.returns-in-Some-eq1
returns-in-Some-eq1 c = laws.short-mark _ _ _ c.in-Some-eq1.ensures _ c.in-Some-eq1.field-0-test _ c.from.ensures _ c.mark_met.ensures
