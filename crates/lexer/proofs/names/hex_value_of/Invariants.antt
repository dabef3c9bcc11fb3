-- At each turn the digits left, behind the number so far, write the whole number (`Reading`); six digits stay below 16^6, so no product overflows.
use Rattle.lexer.proofs.Escapes as laws
use Rattle.lexer.proofs.names.hex_value_of.Given as goal

abbrev pub invariant-loop-i : goal.invariant-loop-i
invariant-loop-i l = laws.Reading l.t l.n l.v l.i
