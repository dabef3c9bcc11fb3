-- Spaces are counted byte by byte, and what follows the first other byte is decoded; both count what the definition repeats.
use Rattle.combinators.proofs.Repeating.{repeat-end}
use Rattle.matching.proofs.AsciiLaws.{graphic-stops, space-goes-on, counted-on}
use borrow.Author.Rules.{rules}
use Rattle.matching.proofs.texts.white_space_length.Goals as goal

pub returns-then-is_ascii_graphic : goal.returns-then-is_ascii_graphic
returns-then-is_ascii_graphic c = record { value = search (rules, graphic-stops); upper_bound = search rules }

pub returns-then-b-ne-SPACE : goal.returns-then-b-ne-SPACE
returns-then-b-ne-SPACE c = record { value = search (rules, counted-on); upper_bound = search rules }

pub loop-i-preserved : goal.loop-i-preserved
loop-i-preserved c = search (rules, space-goes-on)

pub returns : goal.returns
returns c = record { value = search (rules, repeat-end); upper_bound = search rules }
