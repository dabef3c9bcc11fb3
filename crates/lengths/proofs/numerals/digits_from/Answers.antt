-- The digits left, behind what was counted, make what all make; beyond the most they only make it more.
use mathlib.Core.Path.{refl, ◌∙◌}
use native.Mathlib.Omega.{arith}
use Rattle.lengths.proofs.NumeralLaws as laws
use borrow.Author.Rules.{rules}
use Rattle.lengths.proofs.numerals.digits_from.Goals as goal

pub loop-digit-init : goal.loop-digit-init
loop-digit-init c = refl

pub returns-then-value-gt-MOST_DIGITS : goal.returns-then-value-gt-MOST_DIGITS
returns-then-value-gt-MOST_DIGITS c = search (rules, laws.digits-over)

pub loop-digit-preserved : goal.loop-digit-preserved
loop-digit-preserved c = rw c.from.ensures (laws.digits_more _ _ _ _ c.loop-digit.invariant c.loop-digit-test.true _ c.hex_digit_of.ensures)

pub returns : goal.returns
returns c = c.min.ensures ∙ laws.digits-least _ _ _ _ c.loop-digit.invariant (omega arith)
