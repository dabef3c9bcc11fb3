-- What was added, of the components so far, is their specificity; each adds at most one to a count, so the sums fit.
use Rattle.matching.proofs.ComponentLaws.{Adding}
use Rattle.matching.proofs.components.specificity.Given as goal

abbrev pub invariant-loop-i : goal.invariant-loop-i
invariant-loop-i l = Adding l.components l.n l.i l.result
