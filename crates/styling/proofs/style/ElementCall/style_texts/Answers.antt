-- All buffers are cleared, the sheets are read; where the crate panics all is zero, else the element is styled by them.
use native.Mathlib.Omega.{arith}
use Rattle.std.proofs.lemmas.Result.{err_from_is_err_and}
use Rattle.origins.proofs.SheetsKnown.{room-cleared}
use Rattle.styling.proofs.StyleCalls as laws
use Rattle.styling.proofs.style.ElementCall.style_texts.Goals as goal

pub read_sheets-requires : goal.read_sheets-requires
read_sheets-requires c = room-cleared c.requires.lent c.clear_all.ensures.texts_after c.clear_all.ensures.rules_after c.clear_all.ensures.tokens_after c.clear_all.ensures.brackets_after (omega arith)

pub returns-in_err-read-clause-left : goal.returns-in_err-read-clause-left
returns-in_err-read-clause-left c = let p = err_from_is_err_and c.from_residual.result c.from_residual.ensures.1 in rw (p.1, p.2) (laws.panics c.args.self.now.call.cascade c.args.self.now.call.settings _ c.requires.lent c.args.out.now c.requires.call_lent c.clear_all.ensures.out_after c.clear_all.ensures.texts_after c.clear_all.ensures.rules_after c.clear_all.ensures.tokens_after c.clear_all.ensures.brackets_after c.read_sheets.ensures.value c.read_sheets.ensures.rules_after c.read_sheets.ensures.work_unchanged.tokens c.read_sheets.ensures.work_unchanged.brackets c.read_sheets.ensures.texts_after c.in_err-read.was (laws.told-panic _) (laws.refused-numbers _))

pub style_read-requires : goal.style_read-requires
style_read-requires c = record { read_room = laws.read-room c.args.self.now.call.cascade c.args.self.now.call.settings _ c.requires.lent c.args.out.now c.requires.call_lent c.clear_all.ensures.out_after c.clear_all.ensures.texts_after c.clear_all.ensures.rules_after c.clear_all.ensures.tokens_after c.clear_all.ensures.brackets_after c.read_sheets.ensures.value c.read_sheets.ensures.rules_after c.read_sheets.ensures.work_unchanged.tokens c.read_sheets.ensures.work_unchanged.brackets c.read_sheets.ensures.texts_after c.in_ok-read.was }

pub returns-clause-left : goal.returns-clause-left
returns-clause-left c = laws.styled c.args.self.now.call.cascade c.args.self.now.call.settings _ c.requires.lent c.args.out.now c.requires.call_lent c.clear_all.ensures.out_after c.clear_all.ensures.texts_after c.clear_all.ensures.rules_after c.clear_all.ensures.tokens_after c.clear_all.ensures.brackets_after c.read_sheets.ensures.value c.read_sheets.ensures.rules_after c.read_sheets.ensures.work_unchanged.tokens c.read_sheets.ensures.work_unchanged.brackets c.read_sheets.ensures.texts_after c.in_ok-read.was c.style_read.ensures.out_after c.style_read.ensures.value c.style_read.ensures.texts_after c.style_read.ensures.rules_after c.style_read.ensures.tokens_after c.style_read.ensures.brackets_after (laws.styled-numbers _)
