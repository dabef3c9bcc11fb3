-- The digits so far are those of the table, so the first that differ decide, and they are the last that are looked at.
use Rattle.decimal.proofs.Steps as laws
use Rattle.decimal.proofs.test_digits.Given as goal

abbrev pub invariant-loop-i : goal.invariant-loop-i
invariant-loop-i l = laws.Compared l.s l.table l.i
