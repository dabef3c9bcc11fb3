-- Each turn stores the block of one selector, and the visit says where the next one is.
use Prim.Native.Nat.{◌-◌}
use Rattle.sweeps.specs.Met.{row_alone}
use Rattle.visits.proofs.CodePassLaws as laws
use Rattle.visits.proofs.passing.pass_blocks.Given as goal

abbrev pub invariant-loop : goal.invariant-loop
invariant-loop l = laws.Passing l.row.compiled.now (row_alone l.row.element) l.row.above.now l.initial.own l.first l.count l.own l.place (l.count - l.counter)
