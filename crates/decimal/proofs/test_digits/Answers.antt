-- The digits so far are those of the table, so the first that differ decide, and they are the last that are looked at.
use Rattle.std.proofs.Common.{◌≡◌, subst, length, arith}
use Rattle.decimal.proofs.Steps as laws
use borrow.Author.Rules.{rules}
use Rattle.decimal.proofs.test_digits.Goals as goal

pub loop-i-init : goal.loop-i-init
loop-i-init c = search (rules, laws.compared-none)

pub returns-then-d-t : goal.returns-then-d-t
returns-then-d-t c = search (rules, laws.digit-differs)

pub loop-i-preserved : goal.loop-i-preserved
loop-i-preserved c = search (rules, laws.digit-equal)

pub returns : goal.returns
returns c =
    let e : c.loop-i.i ≡ length c.args.s.now = omega (arith, c.loop-i-test.false, c.loop-i.auto.i-end) in
    laws.digits-equal _ _ _ (omega arith) (subst (laws.Compared _ _) e c.loop-i.invariant)
