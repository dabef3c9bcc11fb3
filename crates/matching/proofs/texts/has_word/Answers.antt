-- The words that are left have the answer of all; each turn passes one.
use mathlib.Core.Path.{sym, ◌∙◌}
use Rattle.combinators.proofs.Words.{same-by}
use Rattle.matching.proofs.Words as laws
use Rattle.matching.proofs.texts.has_word.Goals as goal

pub loop-first-init : goal.loop-first-init
loop-first-init c = laws.split-begin _ _

pub returns-then-eq : goal.returns-then-eq
returns-then-eq c = laws.split-found _ _ _ c.loop-first.invariant _ _ c.in-Some.ensures (sym (c.eq.ensures ∙ same-by _ _) ∙ c.if-eq.true)

pub loop-first-preserved : goal.loop-first-preserved
loop-first-preserved c = laws.split-more _ _ _ c.loop-first.invariant _ _ c.in-Some.ensures (sym (c.eq.ensures ∙ same-by _ _) ∙ c.if-eq.false)

pub returns : goal.returns
returns c = laws.split-end _ _ _ c.loop-first.invariant c.in_default.ensures
