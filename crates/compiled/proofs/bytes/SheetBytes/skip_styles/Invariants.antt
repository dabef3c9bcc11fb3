-- The count is read, and so many styles are passed one behind the other; the first fault ends it.
use Prim.Native.Nat.{◌-◌}
use Rattle.compiled.specs.Style.{style_at}
use Rattle.compiled.proofs.Passing as laws
use Rattle.compiled.proofs.bytes.SheetBytes.skip_styles.Given as goal

abbrev pub invariant-loop : goal.invariant-loop
invariant-loop l = laws.Passing (style_at l.self.bytes.now) l.count l.initial.next (l.count - l.counter) l.next
