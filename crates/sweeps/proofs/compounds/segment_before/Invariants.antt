-- What is left to read says the same segment as all of it: a test and a child step are counted, a descendant step begins the next segment or ends the walk.
use Prim.Native.Nat.{◌-◌}
use Rattle.sweeps.proofs.CodeCompoundLaws as laws
use Rattle.sweeps.proofs.compounds.segment_before.Given as goal

abbrev pub invariant-loop : goal.invariant-loop
invariant-loop l = laws.Seeking l.compiled l.stop l.count l.first l.next (l.count - l.counter) l.segment.start l.segment.steps l.segment.tests
