-- One token is a word of the table or none; no token, and two and more, are no visibility.
use mathlib.Core.Path.{◌∙◌}
use Rattle.characters.specs.Literal.{text}
use Rattle.characters.specs.Utf8.{utf8, continuation}
use Rattle.combinators.specs.Choice.{pick}
use Rattle.values.proofs.KeywordLaws as laws
use Rattle.values.proofs.keywords.parse_visibility.Goals as goal

pub returns-then-count-ne1 : goal.returns-then-count-ne1
returns-then-count-ne1 c = laws.visibility-none _ _ _ (rw c.count.ensures at c.if-count-ne1.true)

pub returns : goal.returns
unfolding text utf8 continuation pick
returns c = c.word_at.ensures ∙ laws.visibility-one _ _ _ (rw c.count.ensures at c.if-count-ne1.false)
