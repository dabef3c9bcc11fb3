-- The statement's tokens and texts are wiped, so that the stores are as they were, whether its brackets close or not.
use mathlib.Core.Path.{◌∙◌}
use native.Mathlib.Omega.{arith}
use Rattle.combinators.proofs.LentLaws.{same-then, with_kept}
use Rattle.sheets.proofs.AtRuleLaws as laws
use Rattle.sheets.proofs.at_rules.parse_statement_end.Goals as goal

pub wipe_statement-requires : goal.wipe_statement-requires
wipe_statement-requires c = laws.some-count c.args.s.now c.args.n c.args.stores.now.tokens.now c.args.stores.now.brackets.now c.args.stores.now.texts.now c.args.fill c.requires.work_room c.requires.n_in_bounds c.parse_to_end_of_statement.ensures.work_after c.in-Ok.is

pub overflow_add-result : goal.overflow_add-result
overflow_add-result c = omega (arith, laws.some_end c.args.s.now c.args.n c.args.stores.now.tokens.now c.args.stores.now.brackets.now c.args.stores.now.texts.now c.args.fill c.requires.work_room c.requires.n_in_bounds c.parse_to_end_of_statement.ensures.work_after c.in-Ok.is)

pub returns-in-Ok : goal.returns-in-Ok
returns-in-Ok c = let t : goal.returns-in-Ok-raw c = with_kept (same-then c.parse_to_end_of_statement.ensures.same c.wipe_statement.ensures.same) (c.wipe_statement.ensures.rules_unchanged ∙ c.parse_to_end_of_statement.ensures.rules_unchanged) (laws.some-ended c.args.s.now c.args.n c.args.stores.now.tokens.now c.args.stores.now.brackets.now c.args.stores.now.texts.now c.args.fill c.requires.work_room c.requires.n_in_bounds c.parse_to_end_of_statement.ensures.work_after c.in-Ok.is c.wipe_statement.ensures.tokens_after c.wipe_statement.ensures.brackets_after c.wipe_statement.ensures.texts_after) in record { same = t.0; work_unchanged = t.1.0; value = t.1.1.0; rules_unchanged = t.1.1.1.0; texts_unchanged = t.1.1.1.1 }

pub wipe_statement-requires-in-Err : goal.wipe_statement-requires-in-Err
wipe_statement-requires-in-Err c = laws.none-count c.args.s.now c.args.n c.args.stores.now.tokens.now c.args.stores.now.brackets.now c.args.stores.now.texts.now c.args.fill c.requires.work_room c.requires.n_in_bounds c.parse_to_end_of_statement.ensures.work_after c.in-Err.is

pub returns-in-Err : goal.returns-in-Err
returns-in-Err c = let t : goal.returns-in-Err-raw c = with_kept (same-then c.parse_to_end_of_statement.ensures.same c.wipe_statement-in-Err.ensures.same) (c.wipe_statement-in-Err.ensures.rules_unchanged ∙ c.parse_to_end_of_statement.ensures.rules_unchanged) (laws.none-ended c.args.s.now c.args.n c.args.stores.now.tokens.now c.args.stores.now.brackets.now c.args.stores.now.texts.now c.args.fill c.requires.work_room c.requires.n_in_bounds c.parse_to_end_of_statement.ensures.work_after c.in-Err.is c.wipe_statement-in-Err.ensures.tokens_after c.wipe_statement-in-Err.ensures.brackets_after c.wipe_statement-in-Err.ensures.texts_after) in record { same = t.0; work_unchanged = t.1.0; value = t.1.1.0; rules_unchanged = t.1.1.1.0; texts_unchanged = t.1.1.1.1 }
