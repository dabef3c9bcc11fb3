-- The words that are left have the answer of all; each turn passes one.
use lib.ListN.{length}
use Rattle.matching.proofs.Words.{Splitting}
use Rattle.matching.proofs.texts.has_word.Given as goal

abbrev pub invariant-loop-first : goal.invariant-loop-first
invariant-loop-first l = Splitting l.word l.s l.left

abbrev pub decreases-loop-first : goal.decreases-loop-first
decreases-loop-first l = length l.left
