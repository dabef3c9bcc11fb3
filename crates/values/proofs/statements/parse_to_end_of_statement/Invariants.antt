-- What is left to read from the byte on, with the brackets awaited and into the stores as they are, leaves what the whole leaves; each turn takes a token,
-- which takes a byte.
use Prim.Native.Nat.{◌-◌}
use lib.ListN.{length}
use Rattle.values.proofs.Turns as laws
use Rattle.values.proofs.statements.parse_to_end_of_statement.Given as goal

abbrev pub invariant-loop-start : goal.invariant-loop-start
invariant-loop-start l = laws.Lending l.s l.include_semicolon l.initial.stores l.fill l.stores l.taken l.count l.place l.depth l.text

abbrev pub decreases-loop-start : goal.decreases-loop-start
decreases-loop-start l = length l.s - l.taken
