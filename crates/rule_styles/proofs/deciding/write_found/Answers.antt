-- One row is written where there is a style, and nothing where there is none.
use Rattle.rule_styles.proofs.DecidingRows.{found-written, missing-written}
use Rattle.rule_styles.proofs.deciding.write_found.Goals as goal

pub returns-in-Some : goal.returns-in-Some
returns-in-Some c = let t : goal.returns-in-Some-raw c = found-written _ _ _ _ _ c.in-Some.is c.write_style.ensures in record { rows_after = t.0; value = t.1.0; upper_bound = t.1.1 }

pub returns-in-None : goal.returns-in-None
returns-in-None c = let t : goal.returns-in-None-raw c = missing-written _ _ _ c.in-None.is in record { rows_after = t.0; value = t.1.0; upper_bound = t.1.1 }
