-- The words so far are others; the words that are left lie in the bytes that are left.
use native.Mathlib.Omega.{arith}
use mathlib.Core.Path.{◌∙◌}
use Rattle.combinators.proofs.Words.{same-by}
use Rattle.values.proofs.WordLaws as laws
use Rattle.values.proofs.words.place_of.Goals as goal

pub loop-i-init : goal.loop-i-init
loop-i-init c = laws.placing-begin _ _ _

pub returns-then-eq : goal.returns-then-eq
returns-then-eq c = laws.placing-hit _ _ _ _ _ c.loop-i.invariant c.loop-i-test.true _ c.from.ensures _ c.part_of-word.ensures _ (c.eq.ensures ∙ same-by _ _) c.if-eq.true

pub overflow_add-at : goal.overflow_add-at
overflow_add-at c = omega (arith, laws.placing-end _ _ _ _ _ c.loop-i.invariant c.loop-i-test.true _ c.from.ensures _ c.part_of-word.ensures)

pub loop-i-preserved : goal.loop-i-preserved
loop-i-preserved c = laws.placing-more _ _ _ _ _ c.loop-i.invariant c.loop-i-test.true _ c.from.ensures _ c.part_of-word.ensures _ (c.eq.ensures ∙ same-by _ _) c.if-eq.false

pub returns : goal.returns
returns c = laws.placing-done _ _ _ _ _ c.loop-i.invariant (omega (arith, c.loop-i-test.false))
