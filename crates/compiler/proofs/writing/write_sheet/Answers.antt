-- The rules of the sheet lie in the rows, and their texts from its place of the text store on.
use Rattle.compiler.proofs.WritingLaws as laws
use Rattle.compiler.proofs.writing.write_sheet.Goals as goal

pub returns : goal.returns
returns c = let a = c.args in
    record {
      tokens_unchanged = c.emit_rules.ensures.tokens_unchanged;
      wrote = record { same_store = c.emit_rules.ensures.wrote.same_store; written = laws.sheet-written a.rows.numbers.now a.rows.texts.now a.sheet _ _ _ c.emit_rules.ensures.wrote.written };
    }
