-- What the hole of the format writes is the number's digits behind zeros.
use Rattle.streams.specs.Printed.{escape, hexadecimal}
use Rattle.streams.proofs.Printing.{zeros-before}
use Rattle.streams.proofs.EscapeDisplay.fmt.Goals as goal

pub returns-clause-writes : goal.returns-clause-writes
unfolding escape hexadecimal
returns-clause-writes g c plain ok =
    (rw (c.laid_out.ensures, c.in_radix.ensures, zeros-before, c.from-code.ensures) at c.write.ensures.writes) plain ok
