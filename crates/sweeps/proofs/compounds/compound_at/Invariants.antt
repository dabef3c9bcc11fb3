-- The components that are left decide as all of them do (`Ending`): a step ends the compound, and a fault or the limit ends it with no.
use Prim.Native.Nat.{◌-◌}
use Rattle.sweeps.specs.Met.{row_alone}
use Rattle.sweeps.proofs.CodeCompoundLaws as laws
use Rattle.sweeps.proofs.compounds.compound_at.Given as goal

abbrev pub invariant-loop : goal.invariant-loop
invariant-loop l = laws.Ending l.row.compiled.now (row_alone l.row.element) l.limit l.may l.at l.place (l.limit - l.counter) l.ends
