-- The selectors that are left have the same first one that has a style as all of them: a selector without styles ends behind the count of its styles. So it is that of `styled_from`.
use Prim.Native.Nat.{◌-◌}
use Rattle.visits.proofs.CodeStyledLaws as laws
use Rattle.visits.proofs.document.first_styled.Given as goal

abbrev pub invariant-loop : goal.invariant-loop
invariant-loop l = laws.Finding l.compiled l.count l.at (l.count - l.counter) l.next
