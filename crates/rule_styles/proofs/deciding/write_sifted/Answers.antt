-- The two kinds are written in the order that is known of them.
use Rattle.rule_styles.proofs.DecidingRows.{sifted-behind, sifted-before}
use borrow.Author.Rules.{rules}
use Rattle.rule_styles.proofs.deciding.write_sifted.Goals as goal

pub returns-then-sifted : goal.returns-then-sifted
returns-then-sifted c = let t : goal.returns-then-sifted-raw c = sifted-behind _ _ _ _ _ (search rules) (c.write_both.ensures.rows_after, (c.write_both.ensures.value, c.write_both.ensures.upper_bound)) in record { rows_after = t.0; value = t.1.0; upper_bound = t.1.1 }

pub returns-else-sifted : goal.returns-else-sifted
returns-else-sifted c = let t : goal.returns-else-sifted-raw c = sifted-before _ _ _ _ _ (search rules) (c.write_both-else-sifted.ensures.rows_after, (c.write_both-else-sifted.ensures.value, c.write_both-else-sifted.ensures.upper_bound)) in record { rows_after = t.0; value = t.1.0; upper_bound = t.1.1 }
