-- Each digit of the number, seventeen times, is a part of the colour.
use Rattle.values.specs.Colour.{three_digits}
use Rattle.values.proofs.colours.three_digits.Goals as goal

pub returns : goal.returns
unfolding three_digits
returns c = c.colour_number.ensures
