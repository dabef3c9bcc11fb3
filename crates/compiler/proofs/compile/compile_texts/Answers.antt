-- All buffers are cleared, so that the sheets are read into zeros; a panic is answered as it is met, and otherwise the bytes that were written fit the room or
-- do not.
use mathlib.Core.Path.{◌∙◌}
use native.Mathlib.Omega.{arith}
use borrow.Author.Rules.{rules}
use Rattle.std.proofs.lemmas.Result.{err_from_is_err_and}
use Rattle.combinators.proofs.Cleared.{all_cleared}
use Rattle.origins.proofs.SheetsKnown.{room-cleared}
use Rattle.compiler.proofs.CompileTurns as laws
use Rattle.compiler.proofs.compile.compile_texts.Goals as goal

pub read_sheets-requires : goal.read_sheets-requires
read_sheets-requires c = room-cleared c.requires c.clear.ensures.texts_after c.clear.ensures.rules_after c.clear.ensures.tokens_after c.clear.ensures.brackets_after (omega arith)

pub returns-in_err-read-clause-buffers_after : goal.returns-in_err-read-clause-buffers_after
returns-in_err-read-clause-buffers_after c = let p = err_from_is_err_and c.from_residual.result c.from_residual.ensures.1 in rw (p.1, p.2) (laws.panics c.requires c.args.compiled.now (all_cleared _ _ (c.fill.ensures.after (search rules))) c.clear.ensures.texts_after c.clear.ensures.rules_after c.clear.ensures.tokens_after c.clear.ensures.brackets_after c.read_sheets.ensures.value c.read_sheets.ensures.rules_after c.read_sheets.ensures.work_unchanged.tokens c.read_sheets.ensures.work_unchanged.brackets c.read_sheets.ensures.texts_after c.in_err-read.was)

pub write_within-bytes-requires : goal.write_within-bytes-requires
write_within-bytes-requires c = laws.lies c.requires c.args.compiled.now (all_cleared _ _ (c.fill.ensures.after (search rules))) c.clear.ensures.texts_after c.clear.ensures.rules_after c.clear.ensures.tokens_after c.clear.ensures.brackets_after c.read_sheets.ensures.value c.read_sheets.ensures.rules_after c.read_sheets.ensures.work_unchanged.tokens c.read_sheets.ensures.work_unchanged.brackets c.read_sheets.ensures.texts_after c.in_ok-read.was

pub shape_of-compiled : goal.shape_of-compiled
shape_of-compiled c = c.write_within-bytes.auto.compiled ∙ c.fill.auto.self

pub returns-clause-buffers_after : goal.returns-clause-buffers_after
returns-clause-buffers_after c = laws.fits c.requires c.args.compiled.now (all_cleared _ _ (c.fill.ensures.after (search rules))) c.clear.ensures.texts_after c.clear.ensures.rules_after c.clear.ensures.tokens_after c.clear.ensures.brackets_after c.read_sheets.ensures.value c.read_sheets.ensures.rules_after c.read_sheets.ensures.work_unchanged.tokens c.read_sheets.ensures.work_unchanged.brackets c.read_sheets.ensures.texts_after c.in_ok-read.was c.write_within-bytes.ensures.tokens_unchanged c.write_within-bytes.ensures.value c.write_within-bytes.ensures.compiled_after (all_cleared _ _ (c.fill-2.ensures.after (search rules))) c.room_of.ensures c.if-bytes-room_of.false

pub shape_of-compiled-then-bytes-room_of : goal.shape_of-compiled-then-bytes-room_of
shape_of-compiled-then-bytes-room_of c = c.fill-then-bytes-room_of.auto.self ∙ c.write_within-bytes.auto.compiled ∙ c.fill.auto.self

pub returns-then-bytes-room_of-clause-buffers_after : goal.returns-then-bytes-room_of-clause-buffers_after
returns-then-bytes-room_of-clause-buffers_after c = laws.over c.requires c.args.compiled.now (all_cleared _ _ (c.fill.ensures.after (search rules))) c.clear.ensures.texts_after c.clear.ensures.rules_after c.clear.ensures.tokens_after c.clear.ensures.brackets_after c.read_sheets.ensures.value c.read_sheets.ensures.rules_after c.read_sheets.ensures.work_unchanged.tokens c.read_sheets.ensures.work_unchanged.brackets c.read_sheets.ensures.texts_after c.in_ok-read.was c.write_within-bytes.ensures.tokens_unchanged c.write_within-bytes.ensures.value c.write_within-bytes.ensures.compiled_after (all_cleared _ _ (c.fill-2.ensures.after (search rules))) c.room_of.ensures c.if-bytes-room_of.true (all_cleared _ _ (c.fill-then-bytes-room_of.ensures.after (search rules))) (all_cleared _ _ (c.fill-then-bytes-room_of-2.ensures.after (search rules)))
