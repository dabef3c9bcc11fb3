-- Three bytes make a number below 2^24, the first of the four being zero.
use native.Mathlib.Omega.{arith}
use Rattle.syntax.specs.Layout.{colour_number}
use Rattle.values.specs.Colour.{rgb}
use Rattle.values.proofs.colours.colour_number.Goals as goal

pub returns : goal.returns
unfolding colour_number rgb
returns c = omega (arith, c.from_be_bytes.ensures)
