-- The page is refused, the bytes are, or the page is styled.
use Rattle.page.specs.Lent.{page_in}
use Rattle.running.proofs.RunCalls as laws
use Rattle.running.proofs.run.run_checked.Goals as goal

pub returns-in_err-check_page-clause-left : goal.returns-in_err-check_page-clause-left
returns-in_err-check_page-clause-left c = let a = c.args in laws.page-refused a.rows.now a.stores.now.texts.now a.state.now a.stores.now.rules.now a.stores.now.tokens.now a.stores.now.brackets.now a.input.compiled.now a.input.settings (page_in a.input.page) c.requires c.check_page.ensures c.in_err-check_page.was _ c.from_residual.ensures.1

pub returns-in_err-check_sheet-clause-left : goal.returns-in_err-check_sheet-clause-left
returns-in_err-check_sheet-clause-left c = let a = c.args in laws.bytes-refused a.rows.now a.stores.now.texts.now a.state.now a.stores.now.rules.now a.stores.now.tokens.now a.stores.now.brackets.now a.input.compiled.now a.input.settings (page_in a.input.page) c.requires c.check_page.ensures c.in_ok-check_page.was c.check_sheet.ensures.result_value c.in_err-check_sheet.was _ c.from_residual-in_err-check_sheet.ensures.1

pub run_page-requires : goal.run_page-requires
run_page-requires c = let a = c.args in laws.all-ready a.rows.now a.stores.now.texts.now a.state.now a.stores.now.rules.now a.stores.now.tokens.now a.stores.now.brackets.now a.input.compiled.now a.input.settings (page_in a.input.page) c.requires c.check_page.ensures c.in_ok-check_page.was c.check_sheet.ensures.result_value c.in_ok-check_sheet.was

pub returns-clause-left : goal.returns-clause-left
returns-clause-left c = let a = c.args in laws.page-run a.rows.now a.stores.now.texts.now a.state.now a.stores.now.rules.now a.stores.now.tokens.now a.stores.now.brackets.now a.input.compiled.now a.input.settings (page_in a.input.page) c.requires c.check_page.ensures c.in_ok-check_page.was c.check_sheet.ensures.result_value c.in_ok-check_sheet.was c.run_page.ensures.left
