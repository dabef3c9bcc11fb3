-- What is left to pass from the place on, with the origin so far, is the rest of the whole; the first fault ends it.
use Prim.Native.Nat.{◌-◌}
use Rattle.compiled.proofs.SheetCode as laws
use Rattle.compiled.proofs.bytes.SheetBytes.skip_selectors.Given as goal

abbrev pub invariant-loop : goal.invariant-loop
invariant-loop l = laws.Selecting l.self.bytes.now l.count l.least l.at (l.count - l.counter) l.last.value l.last.next
