-- Without `@` and a name nothing is read; with them the statement is read to its end and the name is wiped.
use mathlib.Core.Path.{refl, ap, ◌∙◌}
use Rattle.std.proofs.Common.{Ok}
use native.Mathlib.Omega.{arith}
use Rattle.combinators.proofs.LentLaws.{with_kept}
use Rattle.sheets.proofs.AtRuleLaws as laws
use Rattle.sheets.proofs.at_rules.parse_at_rule.Goals as goal

pub skip_from-i-requires : goal.skip_from-i-requires
skip_from-i-requires c = omega (arith, laws.at_there c.args.s.now c.args.stores.now.tokens.now c.args.stores.now.brackets.now c.args.stores.now.texts.now c.args.fill c.requires c.skip_optional_whitespace-a.ensures.value c.byte_is.ensures c.if-not-byte_is.false)

pub overflow_add-i : goal.overflow_add-i
overflow_add-i c = omega (arith, laws.name-end c.args.s.now c.args.stores.now.tokens.now c.args.stores.now.brackets.now c.args.stores.now.texts.now c.args.fill c.requires c.skip_optional_whitespace-a.ensures.value c.byte_is.ensures c.if-not-byte_is.false c.skip_from-i.ensures.value c.skip_from-i.ensures.upper_bound c.parse_ident.ensures.value c.parse_ident.ensures.store_after c.in_ok-name.was)

pub parse_statement_end-requires : goal.parse_statement_end-requires
parse_statement_end-requires c = record { work_room = laws.name-room c.args.s.now c.args.stores.now.tokens.now c.args.stores.now.brackets.now c.args.stores.now.texts.now c.args.fill c.requires c.skip_optional_whitespace-a.ensures.value c.byte_is.ensures c.if-not-byte_is.false c.skip_from-i.ensures.value c.skip_from-i.ensures.upper_bound c.parse_ident.ensures.value c.parse_ident.ensures.store_after c.in_ok-name.was c.fill_part.ensures; n_in_bounds = laws.name-end c.args.s.now c.args.stores.now.tokens.now c.args.stores.now.brackets.now c.args.stores.now.texts.now c.args.fill c.requires c.skip_optional_whitespace-a.ensures.value c.byte_is.ensures c.if-not-byte_is.false c.skip_from-i.ensures.value c.skip_from-i.ensures.upper_bound c.parse_ident.ensures.value c.parse_ident.ensures.store_after c.in_ok-name.was }

pub returns : goal.returns
returns c = let t : goal.returns-raw c = with_kept (record { rules = c.parse_statement_end.ensures.same.rules; tokens = c.parse_statement_end.ensures.same.tokens; brackets = c.parse_statement_end.ensures.same.brackets; texts = c.parse_statement_end.ensures.same.texts }) (c.parse_statement_end.ensures.rules_unchanged) (laws.name-told c.args.s.now c.args.stores.now.tokens.now c.args.stores.now.brackets.now c.args.stores.now.texts.now c.args.fill c.requires c.skip_optional_whitespace-a.ensures.value c.byte_is.ensures c.if-not-byte_is.false c.skip_from-i.ensures.value c.skip_from-i.ensures.upper_bound c.parse_ident.ensures.value c.parse_ident.ensures.store_after c.in_ok-name.was c.fill_part.ensures (c.parse_statement_end.ensures.value, (c.parse_statement_end.ensures.work_unchanged.tokens, (c.parse_statement_end.ensures.work_unchanged.brackets, c.parse_statement_end.ensures.texts_unchanged)))) in record { same = t.0; work_unchanged = t.1.0; value = t.1.1.0; rules_unchanged = t.1.1.1.0; texts_unchanged = t.1.1.1.1 }

pub returns-in_err-name : goal.returns-in_err-name
returns-in_err-name c = let t = with_kept (record { rules = refl; tokens = refl; brackets = refl; texts = refl }) (refl) (laws.name-missing c.args.s.now c.args.stores.now.tokens.now c.args.stores.now.brackets.now c.args.stores.now.texts.now c.args.fill c.requires c.skip_optional_whitespace-a.ensures.value c.byte_is.ensures c.if-not-byte_is.false c.skip_from-i.ensures.value c.skip_from-i.ensures.upper_bound c.parse_ident.ensures.value c.parse_ident.ensures.store_after c.in_err-name.was) in record { same = t.0; work_unchanged = t.1.0; value = ap Ok c.from_residual.ensures ∙ t.1.1.0; rules_unchanged = t.1.1.1.0; texts_unchanged = t.1.1.1.1 }

pub returns-then-not-byte_is : goal.returns-then-not-byte_is
returns-then-not-byte_is c = let t : goal.returns-then-not-byte_is-raw c = with_kept (record { rules = refl; tokens = refl; brackets = refl; texts = refl }) (refl) (laws.at-missing c.args.s.now c.args.stores.now.tokens.now c.args.stores.now.brackets.now c.args.stores.now.texts.now c.args.fill c.requires c.skip_optional_whitespace-a.ensures.value c.byte_is.ensures c.if-not-byte_is.true) in record { same = t.0; work_unchanged = t.1.0; value = t.1.1.0; rules_unchanged = t.1.1.1.0; texts_unchanged = t.1.1.1.1 }
