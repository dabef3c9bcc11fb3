-- The statement's tokens, and whether their last two are the mark; or the brackets did not close.
use Rattle.std.proofs.Common.{◌≡◌, Err, rules}
use Rattle.values.proofs.ValueLaws as laws
use Rattle.values.proofs.statements.parse_value.Goals as goal

pub first-requires : goal.first-requires
first-requires c = laws.value-counted _ _ _ _ _ _ c.requires c.parse_to_end_of_statement.ensures.work_after c.in_ok-statement.was

pub returns-in_err-statement-clause-work_after : goal.returns-in_err-statement-clause-work_after
returns-in_err-statement-clause-work_after c = let q : c.from_residual.result ≡ Err c.in_err-statement.field-0.0 = search rules in rw q (laws.no-value-left _ _ _ _ _ _ c.requires c.parse_to_end_of_statement.ensures.work_after c.in_err-statement.was)

pub returns-clause-work_after : goal.returns-clause-work_after
returns-clause-work_after c = laws.value-left _ _ _ _ _ _ c.requires c.parse_to_end_of_statement.ensures.work_after c.in_ok-statement.was (rw c.first.ensures at c.is_important-important.ensures)
