-- The stores are cleared, so that the sheet has room and what is left of it is the definition.
use native.Mathlib.Omega.{arith}
use Rattle.std.proofs.lemmas.Result.{err_from_is_err_and}
use Rattle.sheets.proofs.SheetLaws as laws
use Rattle.sheets.proofs.sheet.read_text.Goals as goal

pub parse_stylesheet-requires : goal.parse_stylesheet-requires
parse_stylesheet-requires c = laws.room c.requires c.clear.ensures.rules_after c.clear.ensures.tokens_after c.clear.ensures.brackets_after c.clear.ensures.texts_after (omega arith)

pub returns-clause-stores_after : goal.returns-clause-stores_after
returns-clause-stores_after c = laws.sheet-read c.requires c.clear.ensures.rules_after c.clear.ensures.tokens_after c.clear.ensures.brackets_after c.clear.ensures.texts_after c.parse_stylesheet.ensures.value c.parse_stylesheet.ensures.rules_after c.parse_stylesheet.ensures.work_unchanged.tokens c.parse_stylesheet.ensures.work_unchanged.brackets c.parse_stylesheet.ensures.texts_after c.in_ok-parse_stylesheet.was

pub returns-in_err-parse_stylesheet-clause-stores_after : goal.returns-in_err-parse_stylesheet-clause-stores_after
returns-in_err-parse_stylesheet-clause-stores_after c =
    let p = err_from_is_err_and c.from_residual.result c.from_residual.ensures.1 in
    rw (p.1, p.2) (laws.sheet-panics c.requires c.clear.ensures.rules_after c.clear.ensures.tokens_after c.clear.ensures.brackets_after c.clear.ensures.texts_after c.parse_stylesheet.ensures.value c.parse_stylesheet.ensures.rules_after c.parse_stylesheet.ensures.work_unchanged.tokens c.parse_stylesheet.ensures.work_unchanged.brackets c.parse_stylesheet.ensures.texts_after c.in_err-parse_stylesheet.was)
