-- The declarations lie behind the head and all selectors.
use Rattle.origins.proofs.WalkLaws as laws
use Rattle.origins.proofs.walk.rule_declarations.Goals as goal

pub returns : goal.returns
returns c = let a = c.args in
    laws.behind-selectors a.rows.now a.at _ c.forward.result c.skip_selectors.result c.number_at.ensures c.forward.ensures.rows_value c.skip_selectors.ensures
