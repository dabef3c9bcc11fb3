-- The table has the words of the white spaces, and `normal` stands for none.
use mathlib.Core.Path.{◌∙◌}
use Rattle.characters.specs.Literal.{text}
use Rattle.characters.specs.Utf8.{utf8, continuation}
use Rattle.combinators.specs.Choice.{pick}
use Rattle.values.specs.KeywordAnswer.{white_space_word}
use Rattle.values.proofs.WordLaws.{mapped}
use Rattle.values.proofs.KeywordLaws as laws
use Rattle.values.proofs.keywords.parse_white_space.Goals as goal

pub returns : goal.returns
unfolding text utf8 continuation pick white_space_word mapped
returns c = c.unwrap_or.ensures ∙ laws.white-space-told _ _ c.first_word.ensures
