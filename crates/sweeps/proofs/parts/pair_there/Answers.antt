-- Two bytes, the lower first.
use native.Mathlib.Omega.{arith}
use Rattle.segments.specs.Sweep.{pair_at}
use Rattle.std.proofs.lemmas.Grind.{common_steps}
use Rattle.sweeps.proofs.parts.pair_there.Goals as goal

pub returns-clause-value : goal.returns-clause-value
unfolding pair_at
returns-clause-value c = grind (arith, common_steps)
