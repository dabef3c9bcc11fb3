-- Visible ASCII characters are counted byte by byte, and what follows the first other byte is decoded; both count what the definition repeats.
use Rattle.combinators.proofs.Repeating.{repeat-end}
use Rattle.matching.proofs.AsciiLaws.{space-stops, graphic-goes-on, counted-on}
use borrow.Author.Rules.{rules}
use Rattle.matching.proofs.texts.word_length.Goals as goal

pub returns-then-b-eq-SPACE : goal.returns-then-b-eq-SPACE
returns-then-b-eq-SPACE c = record { value = search (rules, space-stops); upper_bound = search rules }

pub loop-i-preserved : goal.loop-i-preserved
loop-i-preserved c = search (rules, graphic-goes-on)

pub returns-in-loop-i : goal.returns-in-loop-i
returns-in-loop-i c = record { value = search (rules, counted-on); upper_bound = search rules }

pub returns : goal.returns
returns c = record { value = search (rules, repeat-end); upper_bound = search rules }
