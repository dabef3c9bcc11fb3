-- The components that are left are written from the last on, which is the order of the bytes.
use Rattle.std.proofs.Common.{arith, ◌∙◌}
use Rattle.compiler.proofs.SelectorWriting as laws
use Rattle.compiler.proofs.selector.emit_components.Goals as goal

pub loop-before-preserved : goal.loop-before-preserved
loop-before-preserved c = record {
  kept = c.emit_component_at.ensures.same_store ∙ c.loop-before.invariant.kept;
  work = laws.returning-more _ _ _ _ _ _ _ c.loop-before.invariant.work c.loop-before-test.true c.forward-place.result c.forward-place.ensures.rows_value _ c.emit_component_at.ensures.written;
}

pub returns : goal.returns
returns c = record { same_store = c.loop-before.invariant.kept; written = laws.returning-done _ _ _ _ _ _ _ c.loop-before.invariant.work (omega (arith, c.loop-before-test.false)) }
