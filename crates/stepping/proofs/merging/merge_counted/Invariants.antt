-- Each turn reads the first of the styles that are left and merges it, so all are merged in their order.
use Prim.Native.Nat.{◌-◌}
use Rattle.stepping.proofs.StyleLaws as laws
use Rattle.stepping.proofs.merging.merge_counted.Given as goal

abbrev pub invariant-loop : goal.invariant-loop
invariant-loop l = laws.StylesMerging l.sheet.bytes.now l.count l.at l.origin l.pseudo l.spec l.initial.out (l.count - l.counter) l.next l.out
