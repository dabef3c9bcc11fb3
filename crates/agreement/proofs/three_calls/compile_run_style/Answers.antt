-- Each call leaves what its own contract says, and what the three leave agrees by demand 3.
use Rattle.page.specs.Lent.{page_in}
use Rattle.styles.specs.Lent.{sheets_in}
use Rattle.agreement.specs.Calls.{compile_lent, run_lent, style_lent}
use Rattle.agreement.proofs.Returning as laws
use Rattle.agreement.proofs.three_calls.compile_run_style.Goals as goal

pub returns-clause-agreed : goal.returns-clause-agreed
returns-clause-agreed c =
    let a = c.args in
    let both = c.compile_and_run-run.ensures in
    laws.calls-agree (sheets_in a.sheets) (page_in a.page) a.settings (compile_lent a.compiled.now a.compile_stores.now) (run_lent a.rows.now a.state.now a.run_stores.now) a.row (style_lent a.out.now a.style_stores.now) both.compile_after both.run_after c.style-styling.ensures.left
