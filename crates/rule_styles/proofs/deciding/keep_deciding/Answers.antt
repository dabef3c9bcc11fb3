-- What is still to be written leaves what all slots leave.
use Rattle.rule_styles.proofs.DecidingRows.{keeping-begin, keeping-more, keeping-done}
use borrow.Author.Rules.{rules}
use Rattle.rule_styles.proofs.deciding.keep_deciding.Goals as goal

pub loop-slot-init : goal.loop-slot-init
loop-slot-init c = keeping-begin _ _ _

pub loop-slot-preserved : goal.loop-slot-preserved
loop-slot-preserved c = keeping-more _ _ _ c.loop-slot.kept c.loop-slot.deciding c.loop-slot.slot c.loop-slot.invariant c.sift_styles-sifted.result c.sift_styles-sifted.ensures _ _
    (search rules) (c.write_sifted-deciding.ensures.rows_after, (c.write_sifted-deciding.ensures.value, c.write_sifted-deciding.ensures.upper_bound))

pub shape_of-kept : goal.shape_of-kept
shape_of-kept c = c.loop-slot.invariant.long

pub returns : goal.returns
returns c = let t : goal.returns-raw c = keeping-done _ _ _ _ _ _ c.loop-slot.invariant (search rules) in record { kept_after = t.0; value = t.1 }
