-- Those that decide are few, so their count is a number of 32 bits; stored before their rows it makes what is kept.
use Rattle.rule_styles.proofs.PlacingKept as laws
use borrow.Author.Rules.{rules}
use Rattle.rule_styles.proofs.placing.keep_rule.Goals as goal

pub keep_deciding-deciding-requires : goal.keep_deciding-deciding-requires
keep_deciding-deciding-requires c = laws.deciding-room c.args.tokens.now c.args.place c.args.at c.args.count c.requires _ _ c.split_at_mut-kept.ensures.front c.split_at_mut-kept.ensures.back

pub slice_bounds-as_chunks-end : goal.slice_bounds-as_chunks-end
slice_bounds-as_chunks-end c = search (rules, laws.rows-in c.args.tokens.now c.args.place c.args.at c.args.count c.requires _ _ c.split_at_mut-kept.ensures.front c.split_at_mut-kept.ensures.back)

pub overflow_cast-kept : goal.overflow_cast-kept
overflow_cast-kept c = search (rules, laws.kept-few c.args.tokens.now c.args.place c.args.at c.args.count c.requires _ _ c.split_at_mut-kept.ensures.front c.split_at_mut-kept.ensures.back _ _ (laws.rows-counted c.args.tokens.now c.args.place c.args.at c.args.count c.requires _ _ c.split_at_mut-kept.ensures.front c.split_at_mut-kept.ensures.back) c.as_chunks.ensures.front _ _ c.keep_deciding-deciding.ensures.kept_after c.keep_deciding-deciding.ensures.value)

pub overflow_mul-result : goal.overflow_mul-result
overflow_mul-result c = search (rules, laws.kept-few c.args.tokens.now c.args.place c.args.at c.args.count c.requires _ _ c.split_at_mut-kept.ensures.front c.split_at_mut-kept.ensures.back _ _ (laws.rows-counted c.args.tokens.now c.args.place c.args.at c.args.count c.requires _ _ c.split_at_mut-kept.ensures.front c.split_at_mut-kept.ensures.back) c.as_chunks.ensures.front _ _ c.keep_deciding-deciding.ensures.kept_after c.keep_deciding-deciding.ensures.value)

pub overflow_add-result-2 : goal.overflow_add-result-2
overflow_add-result-2 c = search (rules, laws.kept-few c.args.tokens.now c.args.place c.args.at c.args.count c.requires _ _ c.split_at_mut-kept.ensures.front c.split_at_mut-kept.ensures.back _ _ (laws.rows-counted c.args.tokens.now c.args.place c.args.at c.args.count c.requires _ _ c.split_at_mut-kept.ensures.front c.split_at_mut-kept.ensures.back) c.as_chunks.ensures.front _ _ c.keep_deciding-deciding.ensures.kept_after c.keep_deciding-deciding.ensures.value)

pub returns : goal.returns
returns c = let t : goal.returns-raw c = laws.kept-left c.args.tokens.now c.args.place c.args.at c.args.count c.requires _ _ c.split_at_mut-kept.ensures.front c.split_at_mut-kept.ensures.back _ _ (laws.rows-counted c.args.tokens.now c.args.place c.args.at c.args.count c.requires _ _ c.split_at_mut-kept.ensures.front c.split_at_mut-kept.ensures.back) c.as_chunks.ensures.front _ _ c.keep_deciding-deciding.ensures.kept_after c.keep_deciding-deciding.ensures.value _ (c.fill.ensures.after (search rules)) in record { tokens_after = t.0; value = t.1 }
