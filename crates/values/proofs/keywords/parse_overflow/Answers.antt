-- The table has the words of the overflows.
use mathlib.Core.Path.{◌∙◌}
use Rattle.characters.specs.Literal.{text}
use Rattle.characters.specs.Utf8.{utf8, continuation}
use Rattle.combinators.specs.Choice.{pick}
use Rattle.values.specs.KeywordAnswer.{overflow_word}
use Rattle.values.proofs.WordLaws.{mapped}
use Rattle.values.proofs.KeywordLaws as laws
use Rattle.values.proofs.keywords.parse_overflow.Goals as goal

pub returns : goal.returns
unfolding text utf8 continuation pick overflow_word mapped
returns c = c.first_word.ensures ∙ laws.overflow-told _
