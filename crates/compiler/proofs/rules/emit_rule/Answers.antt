-- The styles are made in the store of tokens, the selectors are written with them, and the rows are wiped again.
use Rattle.compiler.proofs.RuleWriting as laws
use Rattle.compiler.proofs.rules.emit_rule.Goals as goal

pub returns : goal.returns
returns c = let a = c.args in let t =
    laws.rule-written a.rows.numbers.now a.at a.origin a.rows.texts.now _ _ _ c.styles_of_rule-count.result c.requires.zeros c.styles_of_rule-count.ensures.tokens_after c.styles_of_rule-count.ensures.result_value c.styles_of_rule-count.ensures.by_index _ _
    c.emit_styled.ensures.written c.fill_part.ensures in record { tokens_unchanged = t.0; wrote = record { same_store = c.emit_styled.ensures.same_store; written = t.1 } }
