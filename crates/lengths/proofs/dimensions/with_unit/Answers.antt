-- Each test of the number's ten-thousandths is one of the definition's: decimals, above 10,000, below zero.
use native.Mathlib.Omega.{arith}
use mathlib.Core.Path.{sym}
use Rattle.std.proofs.lemmas.Bool.{ltb-false}
use Rattle.lengths.proofs.DimensionLaws as laws
use borrow.Author.Rules.{rules}
use Rattle.lengths.proofs.dimensions.with_unit.Goals as goal
use Rattle.lengths.proofs.dimensions.with_unit.Goals.{then-amount-gt-MOST_DIGITS-via-then-amount-gt-MOST_DIGITS, then-amount-gt-MOST_DIGITS-via-else-amount-gt-MOST_DIGITS+then-amount-gt0}

pub returns-in_default : goal.returns-in_default
returns-in_default c = laws.too_fine _ _ _ _ _ c.numeral_of-numeral.ensures (let l = c.in_default.ensures.lookup in ltb-false _ _ (sym l.0))

pub overflow_mul-amount : goal.overflow_mul-amount
overflow_mul-amount c = let l = c.in-Some.ensures.lookup in omega (arith, laws.amount-fits c.args.place c.args.kind c.args.factor _ _ c.numeral_of-numeral.ensures l.3.0 _ (l.3.1 0))

pub returns-then-amount-gt-MOST_DIGITS : goal.returns-then-amount-gt-MOST_DIGITS
returns-then-amount-gt-MOST_DIGITS c = let l = c.in-Some.ensures.lookup in elim c.then-amount-gt-MOST_DIGITS.branch [
  | then-amount-gt-MOST_DIGITS-via-then-amount-gt-MOST_DIGITS w ↦ laws.too_much _ _ _ _ _ c.numeral_of-numeral.ensures l.3.0 _ (l.3.1 0) w.if-amount-gt-MOST_DIGITS.true
  | then-amount-gt-MOST_DIGITS-via-else-amount-gt-MOST_DIGITS+then-amount-gt0 w ↦
      laws.below-zero _ _ _ _ _ c.numeral_of-numeral.ensures l.3.0 _ (l.3.1 0) w.if-amount-gt-MOST_DIGITS.false w.if-amount-gt0.true.0 w.if-amount-gt0.true.1
]

pub overflow_mul-result : goal.overflow_mul-result
overflow_mul-result c = rw c.from.ensures (omega (arith, laws.amount-product _ c.args.factor c.if-amount-gt-MOST_DIGITS.false (search rules)))

pub returns : goal.returns
returns c = let l = c.in-Some.ensures.lookup in rw c.from.ensures (laws.a-length _ _ _ _ _ c.numeral_of-numeral.ensures l.3.0 _ (l.3.1 0) c.if-amount-gt-MOST_DIGITS.false c.if-amount-gt0.either)
