-- A child step is its kind alone.
use native.Mathlib.Omega.{arith}
use Rattle.std.proofs.lemmas.Bool.Decides.{nat_tests}
use Rattle.hints.specs.Skipping.{BehindChild}
use Rattle.hints.proofs.CodeStepLaws as laws
use Rattle.hints.proofs.skipping.behind_child.Goals as goal

pub returns : goal.returns
returns c = laws.size-if c.args.compiled.now (λ place. BehindChild c.args.compiled.now c.args.at place) _ _ _ c.then_some.ensures (λ t. let z = c.in_ok-get.ensures.lookup in let y = c.from-kind.ensures in laws.child-there _ _ (grind (arith, nat_tests)) (grind (arith, nat_tests)))
