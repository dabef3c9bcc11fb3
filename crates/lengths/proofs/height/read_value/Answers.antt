-- The answer is that of the token; then every store is cleared, the text store with the unit's name.
use Rattle.lengths.proofs.HeightLengthLaws as laws
use Rattle.lengths.proofs.height.read_value.Goals as goal

pub returns-clause-stores_after : goal.returns-clause-stores_after
returns-clause-stores_after c = laws.value_read c.args.s.now c.args.stores.now.rules.now c.args.stores.now.tokens.now c.args.stores.now.brackets.now c.args.stores.now.texts.now _ c.length_of-answer.ensures.value c.clear.ensures.rules_after c.clear.ensures.tokens_after c.clear.ensures.brackets_after c.clear.ensures.texts_after c.length_of-answer.auto.texts
