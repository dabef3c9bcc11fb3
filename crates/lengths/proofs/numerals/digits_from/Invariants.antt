-- The digits left, behind what was counted, make what all make; beyond the most they only make it more.
use mathlib.Core.Path.{◌≡◌}
use lib.ListN.{drop}
use Rattle.lexer.specs.Name.{hex_digit}
use Rattle.values.specs.Colour.{numeral}
use Rattle.lengths.specs.Length.{ten}
use Rattle.lengths.specs.Numeral.{capped}
use Rattle.lengths.proofs.numerals.digits_from.Given as goal

abbrev pub invariant-loop-digit : goal.invariant-loop-digit
invariant-loop-digit l = capped (numeral ten hex_digit l.leading l.t) ≡ capped (numeral ten hex_digit l.value (drop l.digit-index l.t))
