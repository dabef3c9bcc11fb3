-- The table has the numbers of the colours.
use mathlib.Core.Path.{◌∙◌}
use Rattle.characters.specs.Literal.{text}
use Rattle.characters.specs.Utf8.{utf8, continuation}
use Rattle.combinators.specs.Choice.{pick}
use Rattle.syntax.specs.Layout.{colour_number}
use Rattle.values.specs.Colour.{rgb}
use Rattle.values.proofs.WordLaws.{mapped}
use Rattle.values.proofs.ColourLaws as laws
use Rattle.values.proofs.colours.named_colour.Goals as goal

pub returns : goal.returns
unfolding text utf8 continuation pick colour_number rgb mapped
returns c = c.lookup.ensures ∙ laws.named-told _
