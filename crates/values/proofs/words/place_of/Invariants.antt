-- The words so far are others; the words that are left lie in the bytes that are left.
use Rattle.values.proofs.WordLaws as laws
use Rattle.values.proofs.words.place_of.Given as goal

abbrev pub invariant-loop-i : goal.invariant-loop-i
invariant-loop-i l = laws.Placing l.s l.joined l.lengths l.at l.i
