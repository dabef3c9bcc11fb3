-- What is left to put from the row on is the rest of the whole; at the end a zero height with a hidden overflow adds one.
use Rattle.declarations.proofs.Styling as laws
use Rattle.declarations.proofs.styles.styles_from_properties.Given as goal

abbrev pub invariant-loop-row : goal.invariant-loop-row
invariant-loop-row l = laws.Turning l.rows l.initial.styles l.styles l.place l.zero_start l.overflow_hidden l.row-index
