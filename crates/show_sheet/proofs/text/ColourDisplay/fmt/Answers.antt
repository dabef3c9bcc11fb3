-- What the hole of the format writes is the number's digits behind zeros.
use Rattle.streams.specs.Printed.{hexadecimal}
use Rattle.streams.proofs.Printing.{zeros-before}
use Rattle.show_sheet.specs.Colours.{colour_text}
use Rattle.show_sheet.proofs.text.ColourDisplay.fmt.Goals as goal

pub returns-clause-writes : goal.returns-clause-writes
unfolding colour_text hexadecimal
returns-clause-writes g c plain ok =
    (rw (c.laid_out.ensures, c.in_radix.ensures, zeros-before) at c.write.ensures.writes) plain ok
