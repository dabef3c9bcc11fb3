-- What is left from the attribute on follows exactly if the whole does, and ends where the whole does.
use Rattle.std.specs.Prelude.{◌≡◌, ◌+◌, ◌-◌}
use native.Mathlib.Omega.{arith}
use Rattle.page.proofs.RowLaws as laws
use Rattle.page.proofs.rules.follow_attributes.Goals as goal

pub returns-then-attribute_name_start-end : goal.returns-then-attribute_name_start-end
returns-then-attribute_name_start-end c = laws.name-breaks _ _ _ _ _ _ _ c.loop-at.invariant (omega arith) _ c.attribute_name_start.ensures.value c.if-attribute_name_start-end.true

pub returns-then-value_start-end : goal.returns-then-value_start-end
returns-then-value_start-end c = laws.value-breaks _ _ _ _ _ _ _ c.loop-at.invariant (omega arith) _ c.attribute_name_start.ensures.value c.if-attribute_name_start-end.false
    _ _ c.attribute_name_length-end.ensures.value c.value_start.ensures.value c.if-value_start-end.true

pub loop-at-preserved : goal.loop-at-preserved
loop-at-preserved c =
    let e : c.args.first + c.args.count - (c.loop-at.at + 1) ≡ c.args.first + c.args.count - c.loop-at.at - 1 = omega arith in
    rw e (laws.following-on _ _ _ _ _ _ _ c.loop-at.invariant (omega arith) _ c.attribute_name_start.ensures.value c.if-attribute_name_start-end.false
    _ _ c.attribute_name_length-end.ensures.value c.value_start.ensures.value c.if-value_start-end.false _ c.value_length-end.ensures.value)

pub returns : goal.returns
returns c = laws.following-done _ _ _ _ _ _ _ c.loop-at.invariant (omega arith)
