-- Each sheet is read behind those before it, and the three answers are joined.
use Rattle.std.proofs.lemmas.Result.{err_from_is_err_and}
use Rattle.origins.proofs.SheetsLaws as laws
use Rattle.origins.proofs.reading.read_sheets.Goals as goal

pub read_next-requires : goal.read_next-requires
read_next-requires c = laws.first-room c.requires

pub returns-in_err-agents-clause-value : goal.returns-in_err-agents-clause-value
returns-in_err-agents-clause-value c = let p = err_from_is_err_and c.from_residual.result c.from_residual.ensures.1 in rw (p.1, p.2) (laws.agent-panics c.requires c.read_next.ensures.value c.read_next.ensures.rules_after c.read_next.ensures.work_unchanged.tokens c.read_next.ensures.work_unchanged.brackets c.read_next.ensures.texts_after c.read_next.ensures.rules_bounds c.in_err-agents.was).0

pub returns-in_err-agents-clause-rules_after : goal.returns-in_err-agents-clause-rules_after
returns-in_err-agents-clause-rules_after c = (laws.agent-panics c.requires c.read_next.ensures.value c.read_next.ensures.rules_after c.read_next.ensures.work_unchanged.tokens c.read_next.ensures.work_unchanged.brackets c.read_next.ensures.texts_after c.read_next.ensures.rules_bounds c.in_err-agents.was).1.0

pub returns-in_err-agents-clause-texts_after : goal.returns-in_err-agents-clause-texts_after
returns-in_err-agents-clause-texts_after c = (laws.agent-panics c.requires c.read_next.ensures.value c.read_next.ensures.rules_after c.read_next.ensures.work_unchanged.tokens c.read_next.ensures.work_unchanged.brackets c.read_next.ensures.texts_after c.read_next.ensures.rules_bounds c.in_err-agents.was).1.1.1.1

pub read_next-requires-2 : goal.read_next-requires-2
read_next-requires-2 c = laws.second-room c.requires c.read_next.ensures.value c.read_next.ensures.rules_after c.read_next.ensures.work_unchanged.tokens c.read_next.ensures.work_unchanged.brackets c.read_next.ensures.texts_after c.read_next.ensures.rules_bounds c.in_ok-agents.was

pub returns-in_err-users-clause-value : goal.returns-in_err-users-clause-value
returns-in_err-users-clause-value c = let p = err_from_is_err_and c.from_residual-in_err-users.result c.from_residual-in_err-users.ensures.1 in rw (p.1, p.2) (laws.user-panics c.requires c.read_next.ensures.value c.read_next.ensures.rules_after c.read_next.ensures.work_unchanged.tokens c.read_next.ensures.work_unchanged.brackets c.read_next.ensures.texts_after c.read_next.ensures.rules_bounds c.in_ok-agents.was c.read_next-2.ensures.value c.read_next-2.ensures.rules_after c.read_next-2.ensures.work_unchanged.tokens c.read_next-2.ensures.work_unchanged.brackets c.read_next-2.ensures.texts_after c.read_next-2.ensures.rules_bounds c.in_err-users.was).0

pub returns-in_err-users-clause-rules_after : goal.returns-in_err-users-clause-rules_after
returns-in_err-users-clause-rules_after c = (laws.user-panics c.requires c.read_next.ensures.value c.read_next.ensures.rules_after c.read_next.ensures.work_unchanged.tokens c.read_next.ensures.work_unchanged.brackets c.read_next.ensures.texts_after c.read_next.ensures.rules_bounds c.in_ok-agents.was c.read_next-2.ensures.value c.read_next-2.ensures.rules_after c.read_next-2.ensures.work_unchanged.tokens c.read_next-2.ensures.work_unchanged.brackets c.read_next-2.ensures.texts_after c.read_next-2.ensures.rules_bounds c.in_err-users.was).1.0

pub returns-in_err-users-clause-texts_after : goal.returns-in_err-users-clause-texts_after
returns-in_err-users-clause-texts_after c = (laws.user-panics c.requires c.read_next.ensures.value c.read_next.ensures.rules_after c.read_next.ensures.work_unchanged.tokens c.read_next.ensures.work_unchanged.brackets c.read_next.ensures.texts_after c.read_next.ensures.rules_bounds c.in_ok-agents.was c.read_next-2.ensures.value c.read_next-2.ensures.rules_after c.read_next-2.ensures.work_unchanged.tokens c.read_next-2.ensures.work_unchanged.brackets c.read_next-2.ensures.texts_after c.read_next-2.ensures.rules_bounds c.in_err-users.was).1.1.1.1

pub overflow_add-place : goal.overflow_add-place
overflow_add-place c = record { fits = laws.places-fit c.requires c.read_next.ensures.value c.read_next.ensures.rules_after c.read_next.ensures.work_unchanged.tokens c.read_next.ensures.work_unchanged.brackets c.read_next.ensures.texts_after c.read_next.ensures.rules_bounds c.in_ok-agents.was c.read_next-2.ensures.value c.read_next-2.ensures.rules_after c.read_next-2.ensures.work_unchanged.tokens c.read_next-2.ensures.work_unchanged.brackets c.read_next-2.ensures.texts_after c.read_next-2.ensures.rules_bounds c.in_ok-users.was }

pub overflow_add-from : goal.overflow_add-from
overflow_add-from c = record { fits = laws.fills-fit c.requires c.read_next.ensures.value c.read_next.ensures.rules_after c.read_next.ensures.work_unchanged.tokens c.read_next.ensures.work_unchanged.brackets c.read_next.ensures.texts_after c.read_next.ensures.rules_bounds c.in_ok-agents.was c.read_next-2.ensures.value c.read_next-2.ensures.rules_after c.read_next-2.ensures.work_unchanged.tokens c.read_next-2.ensures.work_unchanged.brackets c.read_next-2.ensures.texts_after c.read_next-2.ensures.rules_bounds c.in_ok-users.was }

pub read_next-requires-3 : goal.read_next-requires-3
read_next-requires-3 c = laws.third-room c.requires c.read_next.ensures.value c.read_next.ensures.rules_after c.read_next.ensures.work_unchanged.tokens c.read_next.ensures.work_unchanged.brackets c.read_next.ensures.texts_after c.read_next.ensures.rules_bounds c.in_ok-agents.was c.read_next-2.ensures.value c.read_next-2.ensures.rules_after c.read_next-2.ensures.work_unchanged.tokens c.read_next-2.ensures.work_unchanged.brackets c.read_next-2.ensures.texts_after c.read_next-2.ensures.rules_bounds c.in_ok-users.was

pub returns-in_err-authors-clause-value : goal.returns-in_err-authors-clause-value
returns-in_err-authors-clause-value c = let p = err_from_is_err_and c.from_residual-in_err-authors.result c.from_residual-in_err-authors.ensures.1 in rw (p.1, p.2) (laws.author-panics c.requires c.read_next.ensures.value c.read_next.ensures.rules_after c.read_next.ensures.work_unchanged.tokens c.read_next.ensures.work_unchanged.brackets c.read_next.ensures.texts_after c.read_next.ensures.rules_bounds c.in_ok-agents.was c.read_next-2.ensures.value c.read_next-2.ensures.rules_after c.read_next-2.ensures.work_unchanged.tokens c.read_next-2.ensures.work_unchanged.brackets c.read_next-2.ensures.texts_after c.read_next-2.ensures.rules_bounds c.in_ok-users.was c.read_next-3.ensures.value c.read_next-3.ensures.rules_after c.read_next-3.ensures.work_unchanged.tokens c.read_next-3.ensures.work_unchanged.brackets c.read_next-3.ensures.texts_after c.read_next-3.ensures.rules_bounds c.in_err-authors.was).0

pub returns-in_err-authors-clause-rules_after : goal.returns-in_err-authors-clause-rules_after
returns-in_err-authors-clause-rules_after c = (laws.author-panics c.requires c.read_next.ensures.value c.read_next.ensures.rules_after c.read_next.ensures.work_unchanged.tokens c.read_next.ensures.work_unchanged.brackets c.read_next.ensures.texts_after c.read_next.ensures.rules_bounds c.in_ok-agents.was c.read_next-2.ensures.value c.read_next-2.ensures.rules_after c.read_next-2.ensures.work_unchanged.tokens c.read_next-2.ensures.work_unchanged.brackets c.read_next-2.ensures.texts_after c.read_next-2.ensures.rules_bounds c.in_ok-users.was c.read_next-3.ensures.value c.read_next-3.ensures.rules_after c.read_next-3.ensures.work_unchanged.tokens c.read_next-3.ensures.work_unchanged.brackets c.read_next-3.ensures.texts_after c.read_next-3.ensures.rules_bounds c.in_err-authors.was).1.0

pub returns-in_err-authors-clause-texts_after : goal.returns-in_err-authors-clause-texts_after
returns-in_err-authors-clause-texts_after c = (laws.author-panics c.requires c.read_next.ensures.value c.read_next.ensures.rules_after c.read_next.ensures.work_unchanged.tokens c.read_next.ensures.work_unchanged.brackets c.read_next.ensures.texts_after c.read_next.ensures.rules_bounds c.in_ok-agents.was c.read_next-2.ensures.value c.read_next-2.ensures.rules_after c.read_next-2.ensures.work_unchanged.tokens c.read_next-2.ensures.work_unchanged.brackets c.read_next-2.ensures.texts_after c.read_next-2.ensures.rules_bounds c.in_ok-users.was c.read_next-3.ensures.value c.read_next-3.ensures.rules_after c.read_next-3.ensures.work_unchanged.tokens c.read_next-3.ensures.work_unchanged.brackets c.read_next-3.ensures.texts_after c.read_next-3.ensures.rules_bounds c.in_err-authors.was).1.1.1.1

pub overflow_add-result : goal.overflow_add-result
overflow_add-result c = record { fits = laws.texts-fit c.requires c.read_next.ensures.value c.read_next.ensures.rules_after c.read_next.ensures.work_unchanged.tokens c.read_next.ensures.work_unchanged.brackets c.read_next.ensures.texts_after c.read_next.ensures.rules_bounds c.in_ok-agents.was c.read_next-2.ensures.value c.read_next-2.ensures.rules_after c.read_next-2.ensures.work_unchanged.tokens c.read_next-2.ensures.work_unchanged.brackets c.read_next-2.ensures.texts_after c.read_next-2.ensures.rules_bounds c.in_ok-users.was c.read_next-3.ensures.value c.read_next-3.ensures.rules_after c.read_next-3.ensures.work_unchanged.tokens c.read_next-3.ensures.work_unchanged.brackets c.read_next-3.ensures.texts_after c.read_next-3.ensures.rules_bounds c.in_ok-authors.was }

pub returns-clause-value : goal.returns-clause-value
returns-clause-value c = (laws.all_read c.requires c.read_next.ensures.value c.read_next.ensures.rules_after c.read_next.ensures.work_unchanged.tokens c.read_next.ensures.work_unchanged.brackets c.read_next.ensures.texts_after c.read_next.ensures.rules_bounds c.in_ok-agents.was c.read_next-2.ensures.value c.read_next-2.ensures.rules_after c.read_next-2.ensures.work_unchanged.tokens c.read_next-2.ensures.work_unchanged.brackets c.read_next-2.ensures.texts_after c.read_next-2.ensures.rules_bounds c.in_ok-users.was c.read_next-3.ensures.value c.read_next-3.ensures.rules_after c.read_next-3.ensures.work_unchanged.tokens c.read_next-3.ensures.work_unchanged.brackets c.read_next-3.ensures.texts_after c.read_next-3.ensures.rules_bounds c.in_ok-authors.was).0

pub returns-clause-rules_after : goal.returns-clause-rules_after
returns-clause-rules_after c = (laws.all_read c.requires c.read_next.ensures.value c.read_next.ensures.rules_after c.read_next.ensures.work_unchanged.tokens c.read_next.ensures.work_unchanged.brackets c.read_next.ensures.texts_after c.read_next.ensures.rules_bounds c.in_ok-agents.was c.read_next-2.ensures.value c.read_next-2.ensures.rules_after c.read_next-2.ensures.work_unchanged.tokens c.read_next-2.ensures.work_unchanged.brackets c.read_next-2.ensures.texts_after c.read_next-2.ensures.rules_bounds c.in_ok-users.was c.read_next-3.ensures.value c.read_next-3.ensures.rules_after c.read_next-3.ensures.work_unchanged.tokens c.read_next-3.ensures.work_unchanged.brackets c.read_next-3.ensures.texts_after c.read_next-3.ensures.rules_bounds c.in_ok-authors.was).1.0

pub returns-clause-texts_after : goal.returns-clause-texts_after
returns-clause-texts_after c = (laws.all_read c.requires c.read_next.ensures.value c.read_next.ensures.rules_after c.read_next.ensures.work_unchanged.tokens c.read_next.ensures.work_unchanged.brackets c.read_next.ensures.texts_after c.read_next.ensures.rules_bounds c.in_ok-agents.was c.read_next-2.ensures.value c.read_next-2.ensures.rules_after c.read_next-2.ensures.work_unchanged.tokens c.read_next-2.ensures.work_unchanged.brackets c.read_next-2.ensures.texts_after c.read_next-2.ensures.rules_bounds c.in_ok-users.was c.read_next-3.ensures.value c.read_next-3.ensures.rules_after c.read_next-3.ensures.work_unchanged.tokens c.read_next-3.ensures.work_unchanged.brackets c.read_next-3.ensures.texts_after c.read_next-3.ensures.rules_bounds c.in_ok-authors.was).1.1.1.1
