-- The refusals in their order; where 1 and 2 do not apply, the page and the bytes are looked at.
use Rattle.page.specs.Lent.{page_in}
use Rattle.running.proofs.RunCalls as laws
use Rattle.running.proofs.run.run.Goals as goal

pub returns-then-input-gt-COMPILED_LIMIT-clause-left : goal.returns-then-input-gt-COMPILED_LIMIT-clause-left
returns-then-input-gt-COMPILED_LIMIT-clause-left c = let a = c.args in laws.too_long_lem a.rows.now a.stores.now.texts.now a.state.now a.stores.now.rules.now a.stores.now.tokens.now a.stores.now.brackets.now a.input.compiled.now a.input.settings (page_in a.input.page) c.if-input-gt-COMPILED_LIMIT.true

pub run_checked-requires : goal.run_checked-requires
run_checked-requires c = let a = c.args in laws.long-enough a.rows.now a.stores.now.texts.now a.state.now a.stores.now.rules.now a.stores.now.tokens.now a.stores.now.brackets.now a.input.compiled.now a.input.settings (page_in a.input.page) c.if-input-gt-COMPILED_LIMIT.false c.lent_suffices.ensures c.if-not-lent_suffices.false

pub returns-clause-left : goal.returns-clause-left
returns-clause-left c = c.run_checked.ensures.left

pub returns-then-not-lent_suffices-clause-left : goal.returns-then-not-lent_suffices-clause-left
returns-then-not-lent_suffices-clause-left c = let a = c.args in laws.short-store a.rows.now a.stores.now.texts.now a.state.now a.stores.now.rules.now a.stores.now.tokens.now a.stores.now.brackets.now a.input.compiled.now a.input.settings (page_in a.input.page) c.if-input-gt-COMPILED_LIMIT.false c.lent_suffices.ensures c.if-not-lent_suffices.true
