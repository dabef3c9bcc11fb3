-- The declarations of the rule lie behind its selectors, and the store has room for a style of each and one more.
use native.Mathlib.Omega.{arith}
use Rattle.declarations.proofs.Styling as styling
use Rattle.origins.proofs.RuleStyles as laws
use Rattle.origins.proofs.styles.styles_of_rule.Goals as goal

pub styles_from_properties-requires : goal.styles_from_properties-requires
styles_from_properties-requires c =
    let there = laws.declared-there c.args.rules.now c.args.at c.rule_declarations.result c.forward-declarations.result _ c.rule_declarations.ensures c.forward-declarations.ensures.rows_value c.number_at-count.ensures _ c.requires in
    laws.room c.args.rules.now c.args.at c.rule_declarations.result c.forward-declarations.result _ c.rule_declarations.ensures c.forward-declarations.ensures.rows_value c.number_at-count.ensures _ c.requires _ (styling.rows-counted _ _ there _ c.as_chunks.ensures.front)

pub overflow_cast-result : goal.overflow_cast-result
overflow_cast-result c =
    let there = laws.declared-there c.args.rules.now c.args.at c.rule_declarations.result c.forward-declarations.result _ c.rule_declarations.ensures c.forward-declarations.ensures.rows_value c.number_at-count.ensures _ c.requires in
    let counted = styling.rows-counted _ _ there _ c.as_chunks.ensures.front in
    let left = rw counted at (c.styles_from_properties.ensures _ (styling.rows-cut _ _ there _ c.as_chunks.ensures.front)) in
    record { fits = laws.bits c.args.rules.now c.args.at c.rule_declarations.result c.forward-declarations.result _ c.rule_declarations.ensures c.forward-declarations.ensures.rows_value c.number_at-count.ensures _ left.counted (omega (arith, c.number_at-count.type_inv)) }

pub returns : goal.returns
returns c =
    let there = laws.declared-there c.args.rules.now c.args.at c.rule_declarations.result c.forward-declarations.result _ c.rule_declarations.ensures c.forward-declarations.ensures.rows_value c.number_at-count.ensures _ c.requires in
    let counted = styling.rows-counted _ _ there _ c.as_chunks.ensures.front in
    let left = rw counted at (c.styles_from_properties.ensures _ (styling.rows-cut _ _ there _ c.as_chunks.ensures.front)) in
    let t : goal.returns-raw c = laws.styles-left c.args.rules.now c.args.at c.rule_declarations.result c.forward-declarations.result _ c.rule_declarations.ensures c.forward-declarations.ensures.rows_value c.number_at-count.ensures _ _ _ left.stored left.counted left.meant in
    record { tokens_after = t.0; result_value = t.1.0; by_index = t.1.1 }
