-- Value and scale so far, with what is left to read from the place on, give the whole; there are at most five groups.
use Prim.Native.Nat.{◌+◌, ◌-◌}
use Rattle.compiled.specs.Number.{most_groups}
use Rattle.compiled.proofs.NumberReading as laws
use Rattle.compiled.proofs.numbers.read_groups.Given as goal

abbrev pub invariant-loop-i : goal.invariant-loop-i
invariant-loop-i l = laws.Reading l.fn.s l.fn.start l.value l.scale (l.fn.start + l.i) (most_groups - l.i)
