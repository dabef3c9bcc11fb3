-- The tests that are left decide as all of them do (`Testing`): what is no test that passes ends the walk with no, and when none is left all have passed.
use Prim.Native.Nat.{◌-◌}
use Rattle.sweeps.specs.Met.{row_alone}
use Rattle.sweeps.proofs.CodeCompoundLaws as laws
use Rattle.sweeps.proofs.compounds.tests_pass.Given as goal

abbrev pub invariant-loop : goal.invariant-loop
invariant-loop l = laws.Testing l.row.compiled.now (row_alone l.row.element) l.count l.at l.next (l.count - l.counter)
