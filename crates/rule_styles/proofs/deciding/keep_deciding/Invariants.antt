-- What is still to be written leaves what all slots leave.
use Rattle.rule_styles.specs.Placing.{styled_in}
use Rattle.rule_styles.proofs.DecidingRows.{Keeping}
use Rattle.rule_styles.proofs.deciding.keep_deciding.Given as goal

abbrev pub invariant-loop-slot : goal.invariant-loop-slot
invariant-loop-slot l = Keeping (styled_in l.styles) l.initial.kept l.place l.kept l.deciding l.slot
