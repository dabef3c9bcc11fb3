-- What was stored and what is left to sweep make up the sweep of all compounds (`Sweeping`).
use Prim.Native.Nat.{◌+◌, ◌-◌}
use Rattle.sweeps.specs.Met.{row_alone}
use Rattle.sweeps.proofs.CodeSweepLaws as laws
use Rattle.sweeps.proofs.sweeping.sweep_rest.Given as goal

abbrev pub invariant-loop-to : goal.invariant-loop-to
invariant-loop-to l = laws.Sweeping l.row.compiled.now (row_alone l.row.element) l.row.above.now l.initial.own l.at l.first l.limit l.own l.to l.next (l.at + l.limit - l.to)
