-- A flag of the table that is not set excludes the component.
use native.Mathlib.Omega.{arith}
use Rattle.hints.proofs.HintLaws as laws
use Rattle.hints.proofs.hints.Hint.name_fails.Goals as goal

pub returns-then-kind-lt-KINDS : goal.returns-then-kind-lt-KINDS
returns-then-kind-lt-KINDS c = λ e. laws.flag-fails _ _ _ _ c.if-kind-lt-KINDS.true (laws.flag-unset _ _ (omega arith) _ _ _ c.place_of.ensures.value e)
