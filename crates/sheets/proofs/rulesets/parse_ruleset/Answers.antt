-- The selectors, then the block: each return is the law of what the two readers answered.
use native.Mathlib.Omega.{arith}
use mathlib.Core.Path.{◌∙◌, ap}
use Rattle.std.proofs.Common.{Err}
use Rattle.std.proofs.lemmas.Result.{err_from_is_err_and}
use Rattle.combinators.proofs.LentLaws.{same-then, with_work, with_work_back}
use Rattle.selectors.proofs.ReadingLaws.{moved-fits, moved-ok, moved-err}
use Rattle.sheets.proofs.RuleSetLaws as laws
use Rattle.sheets.proofs.rulesets.parse_ruleset.Goals as goal

pub parse_selectors-requires : goal.parse_selectors-requires
parse_selectors-requires c = record { row_room = laws.rows-room c.args.s.now c.args.at c.args.stores.now.rules.now c.args.place c.args.stores.now.tokens.now c.args.stores.now.brackets.now c.args.stores.now.texts.now c.args.fill c.requires c.skip_optional_whitespace-w.ensures.value c.skip_optional_whitespace-w.ensures.upper_bound; text_room = laws.texts-room c.args.s.now c.args.at c.args.stores.now.rules.now c.args.place c.args.stores.now.tokens.now c.args.stores.now.brackets.now c.args.stores.now.texts.now c.args.fill c.requires c.skip_optional_whitespace-w.ensures.value c.skip_optional_whitespace-w.ensures.upper_bound }

pub moved-requires : goal.moved-requires
moved-requires c = moved-fits _ _ (λ q e. omega (arith, laws.list-place c.args.s.now c.args.at c.args.stores.now.rules.now c.args.place c.args.stores.now.tokens.now c.args.stores.now.brackets.now c.args.stores.now.texts.now c.args.fill c.requires c.skip_optional_whitespace-w.ensures.value c.skip_optional_whitespace-w.ensures.upper_bound (c.parse_selectors.ensures.value, (c.parse_selectors.ensures.rules_after, c.parse_selectors.ensures.texts_after)) {p = q.place} e))

pub returns-in_err-list : goal.returns-in_err-list
returns-in_err-list c =
    let p = err_from_is_err_and c.from_residual.result c.from_residual.ensures.1 in
    let m = moved-err _ _ _ c.moved.ensures _ c.in_err-list.was in
    let t = laws.list-panics c.args.s.now c.args.at c.args.stores.now.rules.now c.args.place c.args.stores.now.tokens.now c.args.stores.now.brackets.now c.args.stores.now.texts.now c.args.fill c.requires c.skip_optional_whitespace-w.ensures.value c.skip_optional_whitespace-w.ensures.upper_bound (c.parse_selectors.ensures.value, (c.parse_selectors.ensures.rules_after, c.parse_selectors.ensures.texts_after)) m.1 in
    record { same = c.parse_selectors.ensures.same; work_unchanged = c.parse_selectors.ensures.work_unchanged; value = rw (p.1, p.2) (ap Err m.2 ∙ t.0); rules_after = t.1.0; texts_after = t.1.1.1.1 }

pub overflow_add-place-3 : goal.overflow_add-place-3
overflow_add-place-3 c = omega (arith, laws.row_fits c.args.s.now c.args.at c.args.stores.now.rules.now c.args.place c.args.stores.now.tokens.now c.args.stores.now.brackets.now c.args.stores.now.texts.now c.args.fill c.requires c.skip_optional_whitespace-w.ensures.value c.skip_optional_whitespace-w.ensures.upper_bound (c.parse_selectors.ensures.value, (c.parse_selectors.ensures.rules_after, c.parse_selectors.ensures.texts_after)) (moved-ok _ _ _ c.moved.ensures _ c.in_ok-list.was))

pub overflow_add-w : goal.overflow_add-w
overflow_add-w c = omega (arith, laws.list-end c.args.s.now c.args.at c.args.stores.now.rules.now c.args.place c.args.stores.now.tokens.now c.args.stores.now.brackets.now c.args.stores.now.texts.now c.args.fill c.requires c.skip_optional_whitespace-w.ensures.value c.skip_optional_whitespace-w.ensures.upper_bound (c.parse_selectors.ensures.value, (c.parse_selectors.ensures.rules_after, c.parse_selectors.ensures.texts_after)) (moved-ok _ _ _ c.moved.ensures _ c.in_ok-list.was))

pub overflow_add-fill : goal.overflow_add-fill
overflow_add-fill c = omega (arith, laws.fill-fits c.args.s.now c.args.at c.args.stores.now.rules.now c.args.place c.args.stores.now.tokens.now c.args.stores.now.brackets.now c.args.stores.now.texts.now c.args.fill c.requires c.skip_optional_whitespace-w.ensures.value c.skip_optional_whitespace-w.ensures.upper_bound (c.parse_selectors.ensures.value, (c.parse_selectors.ensures.rules_after, c.parse_selectors.ensures.texts_after)) (moved-ok _ _ _ c.moved.ensures _ c.in_ok-list.was))

pub parse_block-requires : goal.parse_block-requires
parse_block-requires c = laws.block-room-as c.parse_selectors.ensures.work_unchanged.tokens c.parse_selectors.ensures.work_unchanged.brackets (laws.block_room c.args.s.now c.args.at c.args.stores.now.rules.now c.args.place c.args.stores.now.tokens.now c.args.stores.now.brackets.now c.args.stores.now.texts.now c.args.fill c.requires c.skip_optional_whitespace-w.ensures.value c.skip_optional_whitespace-w.ensures.upper_bound (c.parse_selectors.ensures.value, (c.parse_selectors.ensures.rules_after, c.parse_selectors.ensures.texts_after)) (moved-ok _ _ _ c.moved.ensures _ c.in_ok-list.was))

pub put_rule_head-requires : goal.put_rule_head-requires
put_rule_head-requires c = laws.head-fits c.args.s.now c.args.at c.args.stores.now.rules.now c.args.place c.args.stores.now.tokens.now c.args.stores.now.brackets.now c.args.stores.now.texts.now c.args.fill c.requires c.skip_optional_whitespace-w.ensures.value c.skip_optional_whitespace-w.ensures.upper_bound (c.parse_selectors.ensures.value, (c.parse_selectors.ensures.rules_after, c.parse_selectors.ensures.texts_after)) (moved-ok _ _ _ c.moved.ensures _ c.in_ok-list.was) (c.parse_block.ensures.value, (c.parse_block.ensures.rules_after, (c.parse_block.ensures.work_unchanged.tokens ∙ c.parse_selectors.ensures.work_unchanged.tokens, (c.parse_block.ensures.work_unchanged.brackets ∙ c.parse_selectors.ensures.work_unchanged.brackets, c.parse_block.ensures.texts_after)))) c.in-Some.is

pub overflow_add-result : goal.overflow_add-result
overflow_add-result c = omega (arith, laws.numbers_fit c.args.s.now c.args.at c.args.stores.now.rules.now c.args.place c.args.stores.now.tokens.now c.args.stores.now.brackets.now c.args.stores.now.texts.now c.args.fill c.requires c.skip_optional_whitespace-w.ensures.value c.skip_optional_whitespace-w.ensures.upper_bound (c.parse_selectors.ensures.value, (c.parse_selectors.ensures.rules_after, c.parse_selectors.ensures.texts_after)) (moved-ok _ _ _ c.moved.ensures _ c.in_ok-list.was) (c.parse_block.ensures.value, (c.parse_block.ensures.rules_after, (c.parse_block.ensures.work_unchanged.tokens ∙ c.parse_selectors.ensures.work_unchanged.tokens, (c.parse_block.ensures.work_unchanged.brackets ∙ c.parse_selectors.ensures.work_unchanged.brackets, c.parse_block.ensures.texts_after)))) c.in-Some.is)

pub overflow_add-result-2 : goal.overflow_add-result-2
overflow_add-result-2 c = omega (arith, laws.numbers_fit c.args.s.now c.args.at c.args.stores.now.rules.now c.args.place c.args.stores.now.tokens.now c.args.stores.now.brackets.now c.args.stores.now.texts.now c.args.fill c.requires c.skip_optional_whitespace-w.ensures.value c.skip_optional_whitespace-w.ensures.upper_bound (c.parse_selectors.ensures.value, (c.parse_selectors.ensures.rules_after, c.parse_selectors.ensures.texts_after)) (moved-ok _ _ _ c.moved.ensures _ c.in_ok-list.was) (c.parse_block.ensures.value, (c.parse_block.ensures.rules_after, (c.parse_block.ensures.work_unchanged.tokens ∙ c.parse_selectors.ensures.work_unchanged.tokens, (c.parse_block.ensures.work_unchanged.brackets ∙ c.parse_selectors.ensures.work_unchanged.brackets, c.parse_block.ensures.texts_after)))) c.in-Some.is)

pub overflow_add-result-3 : goal.overflow_add-result-3
overflow_add-result-3 c = omega (arith, laws.texts-fit c.args.s.now c.args.at c.args.stores.now.rules.now c.args.place c.args.stores.now.tokens.now c.args.stores.now.brackets.now c.args.stores.now.texts.now c.args.fill c.requires c.skip_optional_whitespace-w.ensures.value c.skip_optional_whitespace-w.ensures.upper_bound (c.parse_selectors.ensures.value, (c.parse_selectors.ensures.rules_after, c.parse_selectors.ensures.texts_after)) (moved-ok _ _ _ c.moved.ensures _ c.in_ok-list.was) (c.parse_block.ensures.value, (c.parse_block.ensures.rules_after, (c.parse_block.ensures.work_unchanged.tokens ∙ c.parse_selectors.ensures.work_unchanged.tokens, (c.parse_block.ensures.work_unchanged.brackets ∙ c.parse_selectors.ensures.work_unchanged.brackets, c.parse_block.ensures.texts_after)))) c.in-Some.is)

pub returns : goal.returns
returns c = let t : goal.returns-raw c = with_work ((let s = (same-then c.parse_selectors.ensures.same c.parse_block.ensures.same) in record { rules = s.rules; tokens = s.tokens; brackets = s.brackets; texts = s.texts })) (laws.rule-read c.args.s.now c.args.at c.args.stores.now.rules.now c.args.place c.args.stores.now.tokens.now c.args.stores.now.brackets.now c.args.stores.now.texts.now c.args.fill c.requires c.skip_optional_whitespace-w.ensures.value c.skip_optional_whitespace-w.ensures.upper_bound (c.parse_selectors.ensures.value, (c.parse_selectors.ensures.rules_after, c.parse_selectors.ensures.texts_after)) (moved-ok _ _ _ c.moved.ensures _ c.in_ok-list.was) (c.parse_block.ensures.value, (c.parse_block.ensures.rules_after, (c.parse_block.ensures.work_unchanged.tokens ∙ c.parse_selectors.ensures.work_unchanged.tokens, (c.parse_block.ensures.work_unchanged.brackets ∙ c.parse_selectors.ensures.work_unchanged.brackets, c.parse_block.ensures.texts_after)))) c.in-Some.is c.put_rule_head.ensures) in record { same = t.0; work_unchanged = t.1.0; value = t.1.1.0; rules_after = t.1.1.1.0; texts_after = t.1.1.1.1 }

pub returns-in_default : goal.returns-in_default
returns-in_default c = let t : goal.returns-in_default-raw c = with_work_back (same-then c.parse_selectors.ensures.same c.parse_block.ensures.same) c.take_back.ensures.same c.take_back.ensures.work_unchanged (laws.block-fails c.args.s.now c.args.at c.args.stores.now.rules.now c.args.place c.args.stores.now.tokens.now c.args.stores.now.brackets.now c.args.stores.now.texts.now c.args.fill c.requires c.skip_optional_whitespace-w.ensures.value c.skip_optional_whitespace-w.ensures.upper_bound (c.parse_selectors.ensures.value, (c.parse_selectors.ensures.rules_after, c.parse_selectors.ensures.texts_after)) (moved-ok _ _ _ c.moved.ensures _ c.in_ok-list.was) (c.parse_block.ensures.value, (c.parse_block.ensures.rules_after, (c.parse_block.ensures.work_unchanged.tokens ∙ c.parse_selectors.ensures.work_unchanged.tokens, (c.parse_block.ensures.work_unchanged.brackets ∙ c.parse_selectors.ensures.work_unchanged.brackets, c.parse_block.ensures.texts_after)))) c.in_default.is c.take_back.ensures.rules_after c.take_back.ensures.texts_after) in record { same = t.0; work_unchanged = t.1.0; value = t.1.1.0; rules_after = t.1.1.1.0; texts_after = t.1.1.1.1 }
