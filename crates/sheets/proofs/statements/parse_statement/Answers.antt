-- A rule, or else an at-rule, which keeps nothing.
use mathlib.Core.Path.{◌∙◌, ap}
use Rattle.std.proofs.Common.{Ok}
use Rattle.std.proofs.lemmas.Result.{err_from_is_err_and}
use Rattle.combinators.proofs.LentLaws.{same-then, with_work}
use Rattle.sheets.proofs.StatementLaws as laws
use Rattle.sheets.proofs.statements.parse_statement.Goals as goal

pub returns-in_err-rule : goal.returns-in_err-rule
returns-in_err-rule c =
    let p = err_from_is_err_and c.from_residual.result c.from_residual.ensures.1 in
    let t = laws.panic-stated c.args.s.now c.args.at c.args.stores.now.rules.now c.args.place c.args.stores.now.tokens.now c.args.stores.now.brackets.now c.args.stores.now.texts.now c.args.fill c.requires (c.parse_ruleset.ensures.value, (c.parse_ruleset.ensures.rules_after, (c.parse_ruleset.ensures.work_unchanged.tokens, (c.parse_ruleset.ensures.work_unchanged.brackets, c.parse_ruleset.ensures.texts_after)))) c.in_err-rule.was in
    record { same = c.parse_ruleset.ensures.same; work_unchanged = record { tokens = t.1.1.0; brackets = t.1.1.1.0 }; value = rw (p.1, p.2) t.0; rules_after = t.1.0; texts_after = t.1.1.1.1 }

pub returns-in-Some : goal.returns-in-Some
returns-in-Some c = let t : goal.returns-in-Some-raw c = with_work (c.parse_ruleset.ensures.same) (laws.rule-stated c.args.s.now c.args.at c.args.stores.now.rules.now c.args.place c.args.stores.now.tokens.now c.args.stores.now.brackets.now c.args.stores.now.texts.now c.args.fill c.requires (c.parse_ruleset.ensures.value, (c.parse_ruleset.ensures.rules_after, (c.parse_ruleset.ensures.work_unchanged.tokens, (c.parse_ruleset.ensures.work_unchanged.brackets, c.parse_ruleset.ensures.texts_after)))) (c.in_ok-rule.was ∙ ap Ok c.in-Some.is)) in record { same = t.0; work_unchanged = t.1.0; value = t.1.1.0; rules_after = t.1.1.1.0; texts_after = t.1.1.1.1 }

pub parse_at_rule-requires : goal.parse_at_rule-requires
parse_at_rule-requires c = laws.at_room c.args.s.now c.args.at c.args.stores.now.rules.now c.args.place c.args.stores.now.tokens.now c.args.stores.now.brackets.now c.args.stores.now.texts.now c.args.fill c.requires (c.parse_ruleset.ensures.value, (c.parse_ruleset.ensures.rules_after, (c.parse_ruleset.ensures.work_unchanged.tokens, (c.parse_ruleset.ensures.work_unchanged.brackets, c.parse_ruleset.ensures.texts_after)))) (c.in_ok-rule.was ∙ ap Ok c.in-None.is)

pub returns-in-None : goal.returns-in-None
returns-in-None c = let t = laws.at-stated c.args.s.now c.args.at c.args.stores.now.rules.now c.args.place c.args.stores.now.tokens.now c.args.stores.now.brackets.now c.args.stores.now.texts.now c.args.fill c.requires (c.parse_ruleset.ensures.value, (c.parse_ruleset.ensures.rules_after, (c.parse_ruleset.ensures.work_unchanged.tokens, (c.parse_ruleset.ensures.work_unchanged.brackets, c.parse_ruleset.ensures.texts_after)))) (c.in_ok-rule.was ∙ ap Ok c.in-None.is) (c.parse_at_rule.ensures.value, (c.parse_at_rule.ensures.work_unchanged.tokens, (c.parse_at_rule.ensures.work_unchanged.brackets, c.parse_at_rule.ensures.texts_unchanged))) in record { same = same-then c.parse_ruleset.ensures.same c.parse_at_rule.ensures.same; work_unchanged = record { tokens = t.1.1.0; brackets = t.1.1.1.0 }; value = t.0; rules_after = c.parse_at_rule.ensures.rules_unchanged ∙ t.1.0; texts_after = t.1.1.1.1 }
