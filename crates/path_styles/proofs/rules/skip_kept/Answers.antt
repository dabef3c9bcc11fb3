-- The styles that are kept for a rule are rows of one width behind their count.
use Rattle.path_styles.proofs.RulesMerging as laws
use Rattle.path_styles.proofs.rules.skip_kept.Goals as goal

pub returns : goal.returns
returns c = let a = c.args in
    laws.behind-kept a.styles.now a.at _ c.number_at-count.ensures c.forward.result c.forward.ensures.rows_value
