-- Three bytes say the kind, the length and the first byte of the text, by which the hint excludes it; otherwise nothing is told.
use mathlib.Core.Path.{refl}
use native.Mathlib.Omega.{arith}
use Rattle.std.proofs.lemmas.Bool.Decides.{nat_tests}
use Rattle.hints.proofs.CodeFailLaws as laws
use Rattle.hints.proofs.hints.Hint.test_fails.Goals as goal

pub returns-then-contains : goal.returns-then-contains
returns-then-contains c = let z = c.if-contains.ensures.cases in λ e. laws.test-fails _ _ _ _ _ _ (omega (arith, c.saturating_sub.ensures, c.if-at-saturating_sub.false)) c.from-kind.ensures c.from-size.ensures refl (grind (arith, nat_tests)) (grind (arith, nat_tests)) (c.name_fails.ensures e)
