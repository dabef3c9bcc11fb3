-- The name decides which slot the colour is for, if any.
use Rattle.characters.specs.Literal.{text}
use Rattle.characters.specs.Utf8.{utf8, continuation}
use Rattle.combinators.specs.Choice.{pick}
use Rattle.attributes.proofs.ColourLaws as laws
use Rattle.attributes.proofs.colours.merge_colour_attribute.Goals as goal

pub returns-in-Some-clause-out_after : goal.returns-in-Some-clause-out_after
unfolding text utf8 continuation pick
returns-in-Some-clause-out_after c = laws.colour-named _ _ _ _ _ _ c.lookup.ensures _ c.in-Some.is _ c.merge_colour.ensures.out_after

pub returns-in_default-clause-out_after : goal.returns-in_default-clause-out_after
unfolding text utf8 continuation pick
returns-in_default-clause-out_after c = laws.other-named _ _ _ _ _ _ c.lookup.ensures c.in_default.is
