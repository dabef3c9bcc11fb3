-- The sum of the digits so far is their number, within the bound; a byte that is no digit, or a sum above the bound, makes the whole none.
use Rattle.std.proofs.Common.{◌≡◌, ◌+◌, ◌*◌, ◌∙◌, refl, arith, rules, tests}
use Rattle.combinators.proofs.Rules.{told}
use Rattle.values.proofs.ColourLaws as laws
use Rattle.values.proofs.colours.digits_in.Goals as goal

pub returns-then-is_empty : goal.returns-then-is_empty
returns-then-is_empty c = laws.digits-none _ _ _ _ _ (search (rules, tests))

pub returns-then-not-is_digit_in : goal.returns-then-not-is_digit_in
returns-then-not-is_digit_in c = laws.summing-stop _ _ _ _ _ _ _ c.loop-b.invariant c.loop-b-test.true _ c.is_digit_in.ensures c.if-not-is_digit_in.true

pub returns-in_err-checked_mul : goal.returns-in_err-checked_mul
returns-in_err-checked_mul c =
    c.from_residual.ensures
    ∙ laws.summing-over _ _ _ _ _ _ _ c.loop-b.invariant c.loop-b-test.true _ c.is_digit_in.ensures _ refl (laws.base-pos _ _ (told _ _ _ c.is_digit_in.ensures c.if-not-is_digit_in.false)) (omega (arith, c.in_err-checked_mul.ensures, c.ranges.most.fits))

pub returns-in_err-value : goal.returns-in_err-value
returns-in_err-value c =
    c.from_residual-in_err-value.ensures
    ∙ laws.summing-over _ _ _ _ _ _ _ c.loop-b.invariant c.loop-b-test.true _ c.is_digit_in.ensures _ c.hex_digit_of.ensures (laws.base-pos _ _ (told _ _ _ c.is_digit_in.ensures c.if-not-is_digit_in.false)) (omega (arith, c.in_ok-checked_mul.ensures, c.in_err-value.ensures, c.ranges.most.fits))

pub returns-then-value-most : goal.returns-then-value-most
returns-then-value-most c =
    laws.summing-over _ _ _ _ _ _ _ c.loop-b.invariant c.loop-b-test.true _ c.is_digit_in.ensures _ c.hex_digit_of.ensures (laws.base-pos _ _ (told _ _ _ c.is_digit_in.ensures c.if-not-is_digit_in.false)) (omega (arith, c.in_ok-checked_mul.ensures, c.in_ok-value.ensures, c.if-value-most.true))

pub loop-b-preserved : goal.loop-b-preserved
loop-b-preserved c =
    let sum : c.in_ok-value.value ≡ c.loop-b.value * c.args.base + c.hex_digit_of.result = omega (arith, c.in_ok-checked_mul.ensures, c.in_ok-value.ensures) in
    rw sum (laws.summing-more _ _ _ _ _ _ _ c.loop-b.invariant c.loop-b-test.true _ c.is_digit_in.ensures _ c.hex_digit_of.ensures c.if-not-is_digit_in.false (omega (arith, sum, c.if-value-most.false)))

pub returns : goal.returns
returns c = laws.summing-done _ _ _ _ _ _ _ c.loop-b.invariant (search (rules, tests)) c.loop-b-test.false
