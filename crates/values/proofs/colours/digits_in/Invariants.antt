-- The sum of the digits so far is their number, within the bound; a byte that is no digit, or a sum above the bound, makes the whole none.
use Rattle.lexer.specs.Name.{hex_digit}
use Rattle.values.specs.ColourAnswer.{is_digit_in}
use Rattle.values.proofs.ColourLaws as laws
use Rattle.values.proofs.colours.digits_in.Given as goal

abbrev pub invariant-loop-b : goal.invariant-loop-b
invariant-loop-b l = laws.Summing (is_digit_in l.base) l.base hex_digit l.most l.t l.value l.b-index
