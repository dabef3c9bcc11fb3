-- Spaces are counted byte by byte, and what follows the first other byte is decoded; both count what the definition repeats.
use Rattle.combinators.proofs.Repeating.{Repeating}
use Rattle.characters.specs.Trim.{white_taken}
use Rattle.matching.proofs.texts.white_space_length.Given as goal

abbrev pub invariant-loop-i : goal.invariant-loop-i
invariant-loop-i l = Repeating white_taken l.s l.i
