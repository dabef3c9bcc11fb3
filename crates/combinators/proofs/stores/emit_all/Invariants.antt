-- Emitting what is left into the store as it is gives what emitting the whole gives.
use Rattle.combinators.proofs.Emitted as laws
use Rattle.combinators.proofs.stores.emit_all.Given as goal

abbrev pub invariant-loop-x : goal.invariant-loop-x
invariant-loop-x g l = laws.Emitting l.xs (record { bytes = l.initial.store; fill = l.fill }) (record { bytes = l.store; fill = l.f }) l.x-index
