-- What is counted, with what is left from the place on, is the whole; there are few enough to be added.
use Prim.Native.Nat.{◌-◌}
use Rattle.compiler.proofs.RuleWriting as laws
use Rattle.compiler.proofs.rules.count_selectors.Given as goal

abbrev pub invariant-loop : goal.invariant-loop
invariant-loop l = laws.Counting l.rows l.count l.at l.total l.place (l.count - l.counter)
