-- Outside all brackets a semicolon ends the statement, inside it is a token like others.
use Rattle.combinators.proofs.Rules.{cases}
use Rattle.values.specs.Layout.{ending_by}
use Rattle.values.proofs.statements.ending_step.Goals as goal

pub returns-then-d-gt0 : goal.returns-then-d-gt0
unfolding ending_by
returns-then-d-gt0 c = search cases

pub returns-then-include_semicolon : goal.returns-then-include_semicolon
unfolding ending_by
returns-then-include_semicolon c = search cases

pub returns-else-include_semicolon : goal.returns-else-include_semicolon
unfolding ending_by
returns-else-include_semicolon c = search cases
