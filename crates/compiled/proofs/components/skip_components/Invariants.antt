-- What is left to pass from the place on is the rest of the whole; the first fault ends it.
use Prim.Native.Nat.{◌-◌}
use Rattle.compiled.specs.Component.{component_at}
use Rattle.compiled.proofs.Passing as laws
use Rattle.compiled.proofs.components.skip_components.Given as goal

abbrev pub invariant-loop : goal.invariant-loop
invariant-loop l = laws.Passing (component_at l.s) l.count l.at (l.count - l.counter) l.next
