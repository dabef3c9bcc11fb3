-- An element that has passed so far is tested; the document passes star alone, and where the tests so far have failed one more changes nothing.
use mathlib.Core.Path.{sym, ◌∙◌}
use Rattle.combinators.proofs.Rules.{never}
use Rattle.sweeps.proofs.CodePieceLaws as laws
use Rattle.sweeps.proofs.pieces.read_met.Goals.{in_default-via-in-Some+else-ok, in_default-via-in_default}
use Rattle.sweeps.proofs.pieces.read_met.Goals as goal

pub returns-in-Some : goal.returns-in-Some
returns-in-Some c = laws.met-asked _ _ _ _ c.in-Some.is _ c.if-ok.true _ c.test_met.ensures

pub returns-in_default : goal.returns-in_default
returns-in_default c = laws.met-passed _ _ _ _ (elim c.in_default.branch [ in_default-via-in-Some+else-ok w ↦ λ t. never (sym w.if-ok.false ∙ t) | in_default-via-in_default w ↦ λ t. w.in_default.not-Some ]) _ c.pass_met.ensures
