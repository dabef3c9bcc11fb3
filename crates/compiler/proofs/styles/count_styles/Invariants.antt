-- What is counted and noted, with what is left from the place on, is the whole; at the end a zero height with a hidden overflow adds one.
use Prim.Native.Nat.{◌-◌}
use Rattle.compiler.proofs.StyleWriting as laws
use Rattle.compiler.proofs.styles.count_styles.Given as goal

abbrev pub invariant-loop : goal.invariant-loop
invariant-loop l = laws.Finding l.rows l.count l.at l.own l.height_zero l.overflow_hidden l.place (l.count - l.counter)
