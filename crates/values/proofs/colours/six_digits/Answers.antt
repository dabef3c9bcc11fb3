-- Each byte of the number but the highest is a part of the colour.
use Rattle.values.specs.Colour.{six_digits}
use Rattle.values.proofs.colours.six_digits.Goals as goal

pub returns : goal.returns
unfolding six_digits
returns c = rw c.to_be_bytes.ensures at c.colour_number.ensures
