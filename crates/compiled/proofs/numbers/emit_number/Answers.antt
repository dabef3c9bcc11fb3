-- What is left to write is a number of fewer groups, until one group is left.
use Rattle.std.proofs.Common.{rules, refl, ◌∙◌}
use Rattle.compiled.proofs.NumberWriting as laws
use Rattle.compiled.proofs.numbers.emit_number.Goals as goal

pub loop-left-init : goal.loop-left-init
loop-left-init c = record { same = refl; work = rw c.from-left.ensures (laws.writing-begin _ _ (search rules)) }

pub loop-left-preserved : goal.loop-left-preserved
loop-left-preserved c = record { same = c.emit.ensures.same_store ∙ c.loop-left.invariant.same; work = laws.writing_more _ _ _ _ c.loop-left.invariant.work _ c.loop-left-test.true c.emit.ensures.written }

pub returns : goal.returns
returns c = record { same_store = c.emit-2.ensures.same_store ∙ c.loop-left.invariant.same; written = laws.writing-done _ _ _ _ c.loop-left.invariant.work _ c.loop-left-test.false c.emit-2.ensures.written }
