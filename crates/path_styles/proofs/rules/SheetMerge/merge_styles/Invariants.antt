-- Each turn merges the first of the styles that are left, so all are merged in their order.
use Rattle.path_styles.proofs.RulesMerging as laws
use Prim.Native.Nat.{◌-◌}
use Rattle.path_styles.proofs.rules.SheetMerge.merge_styles.Given as goal

abbrev pub invariant-loop : goal.invariant-loop
invariant-loop l = laws.StylesMerging l.self.cascade l.pseudo l.self.origin l.spec l.self.styles.now l.count l.at l.initial.out (l.count - l.counter) l.place l.out
