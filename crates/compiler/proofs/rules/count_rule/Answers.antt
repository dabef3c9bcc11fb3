-- A rule without styles counts for nothing, any other with all its selectors.
use Rattle.compiler.proofs.RuleWriting as laws
use Rattle.compiler.proofs.rules.count_rule.Goals as goal

pub returns-then-styles-eq0 : goal.returns-then-styles-eq0
returns-then-styles-eq0 c = λ origin texts. laws.rule-uncounted c.args.rows.now c.args.at c.rule_declarations-declarations.result _ c.rule_declarations-declarations.ensures c.number_at.ensures _ c.count_styles-styles.ensures origin texts c.if-styles-eq0.true

pub returns : goal.returns
returns c = λ origin texts. laws.rule-counted c.args.rows.now c.args.at c.rule_declarations-declarations.result _ c.rule_declarations-declarations.ensures c.number_at.ensures _ c.count_styles-styles.ensures origin texts c.if-styles-eq0.false _ c.number_at-2.ensures
