-- What was added with what the components left add is the whole, so at the end nothing is missing; the first fault ends it.
use Prim.Native.Nat.{◌-◌}
use Rattle.stepping.proofs.WeightLaws as laws
use Rattle.stepping.proofs.specificity.read_weights.Given as goal

abbrev pub invariant-loop : goal.invariant-loop
invariant-loop l = laws.Adding l.compiled l.at l.count l.value l.next (l.count - l.counter)
