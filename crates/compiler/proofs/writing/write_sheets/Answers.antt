-- The count and the three sheets, one behind the other, are the whole sheet.
use Rattle.compiler.proofs.WritingLaws as laws
use Rattle.std.proofs.Common.{rules}
use Rattle.compiler.proofs.writing.write_sheets.Goals as goal

pub returns-clause-result_after : goal.returns-clause-result_after
returns-clause-result_after c = let a = c.args in
    let e = laws.all-written a.rows.numbers.now a.rows.texts.now a.sheets _ _ _ _ _ _ c.count_all-count.ensures c.emit_number.ensures.written c.write_sheet.ensures.wrote.written c.write_sheet-2.ensures.wrote.written c.write_sheet-3.ensures.wrote.written in
    search rules
