-- Each turn writes a byte's pair behind those before it.
use Rattle.std.proofs.Common.{◌∙◌, ap}
use Rattle.combinators.specs.Store.{emits}
use Rattle.compile_sheet.proofs.HexadecimalLaws as laws
use Rattle.compile_sheet.proofs.hexadecimal.emit_ended_pairs.Goals as goal

pub returns-in_default-clause-written : goal.returns-in_default-clause-written
returns-in_default-clause-written c = c.emit.ensures.written ∙ ap (emits _) (laws.none-ended _ _ c.in_default.len_below)

pub loop-byte-init : goal.loop-byte-init
loop-byte-init c = laws.lining-begin _ _ _ _ c.emit_pair.ensures.same_store c.emit_pair.ensures.written

pub loop-byte-preserved : goal.loop-byte-preserved
loop-byte-preserved c =
    laws.lining-more _ _ _ _ _ c.loop-byte.invariant c.loop-byte-test.true _ c.emit_next_pair.ensures.same_store c.emit_next_pair.ensures.written

pub returns-clause-written : goal.returns-clause-written
returns-clause-written c =
    laws.lining-done _ _ _ _ _ c.loop-byte.invariant _ c.loop-byte-test.false _ c.emit-2.ensures.written ∙ ap (emits _) (laws.some-ended _ _ c.in-len1-up.len_at_least)
