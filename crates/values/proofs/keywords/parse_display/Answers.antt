-- The table has `none` alone.
use mathlib.Core.Path.{◌∙◌}
use Rattle.characters.specs.Literal.{text}
use Rattle.characters.specs.Utf8.{utf8, continuation}
use Rattle.combinators.specs.Choice.{pick}
use Rattle.values.proofs.KeywordLaws as laws
use Rattle.values.proofs.keywords.parse_display.Goals as goal

pub returns : goal.returns
unfolding text utf8 continuation pick
returns c = c.unwrap_or.ensures ∙ laws.display-told _ _ c.first_word.ensures
