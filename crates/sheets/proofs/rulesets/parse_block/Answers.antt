-- Each return by the tests on the way: no brace, no end, or the block as `parse_rules` left it.
use native.Mathlib.Omega.{arith}
use Rattle.combinators.proofs.LentLaws.{same-none, with_work, with_work_back}
use Rattle.sheets.proofs.BlockLaws as laws
use Rattle.sheets.proofs.rulesets.parse_block.Goals as goal

pub skip_from-d-requires : goal.skip_from-d-requires
skip_from-d-requires c = omega (arith, laws.brace-there c.args.s.now c.args.n c.args.at c.args.stores.now.rules.now c.args.place c.args.stores.now.tokens.now c.args.stores.now.brackets.now c.args.stores.now.texts.now c.args.fill c.requires c.skip_from-o.ensures.value c.byte_is.ensures c.if-not-byte_is.false)

pub overflow_mul-numbers : goal.overflow_mul-numbers
overflow_mul-numbers c = omega (arith, laws.numbers_fit c.args.s.now c.args.n c.args.at c.args.stores.now.rules.now c.args.place c.args.stores.now.tokens.now c.args.stores.now.brackets.now c.args.stores.now.texts.now c.args.fill c.requires c.skip_from-o.ensures.value c.byte_is.ensures c.if-not-byte_is.false c.skip_from-d.ensures.value c.skip_from-d.ensures.upper_bound c.parse_rules-read.ensures.stores_after)

pub overflow_add-d : goal.overflow_add-d
overflow_add-d c = omega (arith, laws.taken-within c.args.s.now c.args.n c.args.at c.args.stores.now.rules.now c.args.place c.args.stores.now.tokens.now c.args.stores.now.brackets.now c.args.stores.now.texts.now c.args.fill c.requires c.skip_from-o.ensures.value c.byte_is.ensures c.if-not-byte_is.false c.skip_from-d.ensures.value c.skip_from-d.ensures.upper_bound c.parse_rules-read.ensures.stores_after)

pub before_end-f-requires : goal.before_end-f-requires
before_end-f-requires c = laws.taken-within c.args.s.now c.args.n c.args.at c.args.stores.now.rules.now c.args.place c.args.stores.now.tokens.now c.args.stores.now.brackets.now c.args.stores.now.texts.now c.args.fill c.requires c.skip_from-o.ensures.value c.byte_is.ensures c.if-not-byte_is.false c.skip_from-d.ensures.value c.skip_from-d.ensures.upper_bound c.parse_rules-read.ensures.stores_after

pub skip_from-requires : goal.skip_from-requires
skip_from-requires c = omega (arith, laws.end-there c.args.s.now c.args.n c.args.at c.args.stores.now.rules.now c.args.place c.args.stores.now.tokens.now c.args.stores.now.brackets.now c.args.stores.now.texts.now c.args.fill c.requires c.skip_from-o.ensures.value c.byte_is.ensures c.if-not-byte_is.false c.skip_from-d.ensures.value c.skip_from-d.ensures.upper_bound c.parse_rules-read.ensures.stores_after c.before_end-f.ensures.value c.byte_is-2.ensures c.if-byte_is.true)

pub returns-then-byte_is : goal.returns-then-byte_is
returns-then-byte_is c = let t : goal.returns-then-byte_is-raw c = with_work (c.parse_rules-read.ensures.same) (laws.block_read c.args.s.now c.args.n c.args.at c.args.stores.now.rules.now c.args.place c.args.stores.now.tokens.now c.args.stores.now.brackets.now c.args.stores.now.texts.now c.args.fill c.requires c.skip_from-o.ensures.value c.byte_is.ensures c.if-not-byte_is.false c.skip_from-d.ensures.value c.skip_from-d.ensures.upper_bound c.parse_rules-read.ensures.stores_after c.before_end-f.ensures.value c.byte_is-2.ensures c.if-byte_is.true c.skip_from.ensures.value) in record { same = t.0; work_unchanged = t.1.0; value = t.1.1.0; rules_after = t.1.1.1.0; texts_after = t.1.1.1.1 }

pub returns : goal.returns
returns c = let t : goal.returns-raw c = with_work_back c.parse_rules-read.ensures.same c.take_back.ensures.same c.take_back.ensures.work_unchanged (laws.end-missing c.args.s.now c.args.n c.args.at c.args.stores.now.rules.now c.args.place c.args.stores.now.tokens.now c.args.stores.now.brackets.now c.args.stores.now.texts.now c.args.fill c.requires c.skip_from-o.ensures.value c.byte_is.ensures c.if-not-byte_is.false c.skip_from-d.ensures.value c.skip_from-d.ensures.upper_bound c.parse_rules-read.ensures.stores_after c.before_end-f.ensures.value c.byte_is-2.ensures c.if-byte_is.false c.take_back.ensures.rules_after c.take_back.ensures.texts_after) in record { same = t.0; work_unchanged = t.1.0; value = t.1.1.0; rules_after = t.1.1.1.0; texts_after = t.1.1.1.1 }

pub returns-then-not-byte_is : goal.returns-then-not-byte_is
returns-then-not-byte_is c = let t : goal.returns-then-not-byte_is-raw c = with_work (same-none) (laws.brace-missing c.args.s.now c.args.n c.args.at c.args.stores.now.rules.now c.args.place c.args.stores.now.tokens.now c.args.stores.now.brackets.now c.args.stores.now.texts.now c.args.fill c.requires c.skip_from-o.ensures.value c.byte_is.ensures c.if-not-byte_is.true) in record { same = t.0; work_unchanged = t.1.0; value = t.1.1.0; rules_after = t.1.1.1.0; texts_after = t.1.1.1.1 }
