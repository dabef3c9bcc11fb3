-- What is left to write from the place on is the rest of the whole; once the fill is past the store nothing more changes.
use Rattle.std.proofs.Common.{arith, ◌∙◌}
use Rattle.compiler.proofs.RuleWriting as laws
use Rattle.compiler.proofs.EmittingLaws.{past-known}
use Rattle.compiler.proofs.rules.emit_rules.Goals as goal

pub returns-then-is_past : goal.returns-then-is_past
returns-then-is_past c = let t = laws.writing-past _ _ _ _ _ _ _ _ _ _ _ c.loop.invariant.work (past-known _ _ c.is_past.ensures c.if-is_past.true) in
    record { tokens_unchanged = t.0; wrote = record { same_store = c.loop.invariant.kept; written = t.1 } }

pub emit_rule-requires : goal.emit_rule-requires
emit_rule-requires c = laws.lent-first _ _ _ (omega arith) c.loop.invariant.work.lent

pub loop-preserved : goal.loop-preserved
loop-preserved c = record {
  kept = c.emit_rule.ensures.wrote.same_store ∙ c.loop.invariant.kept;
  work = laws.writing-next _ _ _ _ _ _ _ _ _ _ _ c.loop.invariant.work (omega arith) _ c.emit_rule.ensures.tokens_unchanged _ c.emit_rule.ensures.wrote.written _ c.skip_rule-place.ensures;
}

pub returns : goal.returns
returns c = let t = laws.writing-done _ _ _ _ _ _ _ _ _ _ _ c.loop.invariant.work (omega arith) in record { tokens_unchanged = t.0; wrote = record { same_store = c.loop.invariant.kept; written = t.1 } }
