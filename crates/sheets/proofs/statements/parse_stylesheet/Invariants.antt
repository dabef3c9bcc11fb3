-- What was read and what is still to be read make up the whole at each turn (`Reading-on`); each return is the law of its case.
use Prim.Native.Nat.{◌-◌}
use lib.ListN.{length}
use Rattle.sheets.proofs.StatementTurns as laws
use Rattle.sheets.proofs.statements.parse_stylesheet.Given as goal

abbrev pub invariant-loop-read : goal.invariant-loop-read
invariant-loop-read l = laws.Going-on l.s l.initial.stores l.stores l.read.taken l.read.count l.read.numbers l.read.text

abbrev pub decreases-loop-read : goal.decreases-loop-read
decreases-loop-read l = length l.s - l.read.taken
