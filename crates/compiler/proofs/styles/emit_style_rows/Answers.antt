-- What is left to write from the place on is the rest of the whole; once the fill is past the store nothing more changes.
use Rattle.std.proofs.Common.{arith, ◌∙◌}
use Rattle.compiler.proofs.StyleWriting.{behind-style}
use Rattle.compiler.proofs.EmittingLaws as laws
use Rattle.syntax.specs.Layout.{styles_at}
use Rattle.compiler.proofs.styles.emit_style_rows.Goals as goal

pub returns-then-is_past : goal.returns-then-is_past
unfolding styles_at
returns-then-is_past c = record { same_store = c.loop.invariant.kept; written = laws.emitting-past _ _ _ _ _ _ _ _ _ c.loop.invariant.work (laws.past-known _ _ c.is_past.ensures c.if-is_past.true) }

pub loop-preserved : goal.loop-preserved
loop-preserved c = record {
  kept = c.emit_style_at.ensures.same_store ∙ c.loop.invariant.kept;
  work = laws.emitting-next _ _ _ _ _ _ _ _ _ c.loop.invariant.work (omega arith) _ c.emit_style_at.ensures.written _
      (behind-style c.args.rows.numbers.now c.loop.place _ c.forward-place.result c.forward-place.ensures.rows_value);
}

pub returns : goal.returns
unfolding styles_at
returns c = record { same_store = c.loop.invariant.kept; written = laws.emitting-done _ _ _ _ _ _ _ _ _ c.loop.invariant.work (omega arith) }
