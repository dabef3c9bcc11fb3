-- Emitting what is left into the store as it is gives what emitting the whole gives.
use Rattle.combinators.proofs.Emitted as laws
use Rattle.combinators.proofs.stores.emit_all.Goals as goal

pub loop-x-preserved : goal.loop-x-preserved
loop-x-preserved g c = laws.emitting-more _ _ _ _ c.loop-x.invariant c.loop-x-test.true _ c.x-item.is _ c.emit-f.ensures

pub returns : goal.returns
returns g c = laws.emitting-done _ _ _ _ c.loop-x.invariant c.loop-x-test.false
