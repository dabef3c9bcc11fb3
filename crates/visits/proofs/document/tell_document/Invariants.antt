-- What is left to store into the part comes to what was to be stored in all: a selector stores its block if it has a style, and the others stand behind it.
use Rattle.visits.proofs.CodeTellLaws as laws
use Rattle.visits.proofs.document.tell_document.Given as goal

abbrev pub invariant-loop-left : goal.invariant-loop-left
invariant-loop-left l = laws.Telling l.compiled l.initial.part l.count l.at l.part l.left l.place
