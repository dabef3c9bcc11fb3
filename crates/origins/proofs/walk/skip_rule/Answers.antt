-- Behind the declarations the rule ends.
use Rattle.origins.proofs.WalkLaws as laws
use Rattle.origins.proofs.walk.skip_rule.Goals as goal

pub returns : goal.returns
returns c = let a = c.args in
    laws.behind-rule a.rows.now a.at _ c.rule_declarations.result c.forward.result c.number_at-declarations.ensures c.rule_declarations.ensures c.forward.ensures.rows_value
