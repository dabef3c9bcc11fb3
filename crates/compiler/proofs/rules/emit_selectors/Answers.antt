-- What is left to write from the place on is the rest of the whole; once the fill is past the store nothing more changes.
use Rattle.std.proofs.Common.{arith, ◌∙◌}
use Rattle.compiler.proofs.EmittingLaws as laws
use Rattle.compiler.proofs.rules.emit_selectors.Goals as goal

pub returns-then-is_past : goal.returns-then-is_past
returns-then-is_past c = record { same_store = c.loop.invariant.kept; written = laws.emitting-past _ _ _ _ _ _ _ _ _ c.loop.invariant.work (laws.past-known _ _ c.is_past.ensures c.if-is_past.true) }

pub loop-preserved : goal.loop-preserved
loop-preserved c = record {
  kept = c.emit_selector.ensures.same_store ∙ c.loop.invariant.kept;
  work = laws.emitting-next _ _ _ _ _ _ _ _ _ c.loop.invariant.work (omega arith) _ c.emit_selector.ensures.written _ (c.skip_selector-place.ensures _);
}

pub returns : goal.returns
returns c = record { same_store = c.loop.invariant.kept; written = laws.emitting-done _ _ _ _ _ _ _ _ _ c.loop.invariant.work (omega arith) }
