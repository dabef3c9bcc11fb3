-- The rows of the second style begin behind those of the first.
use Rattle.rule_styles.proofs.DecidingRows.{both-written}
use Rattle.rule_styles.proofs.deciding.write_both.Goals as goal

pub returns : goal.returns
returns c = let t : goal.returns-raw c = both-written _ _ _ _ _ _ _ _ (c.write_found-n.ensures.rows_after, (c.write_found-n.ensures.value, c.write_found-n.ensures.upper_bound)) (c.write_found.ensures.rows_after, (c.write_found.ensures.value, c.write_found.ensures.upper_bound)) in record { rows_after = t.0; value = t.1.0; upper_bound = t.1.1 }
