-- Ancestors of another name fail locally, so the first of the name is tried next; on the others nothing more is to come.
use Rattle.matching.proofs.ClimbLaws as laws
use Rattle.matching.proofs.matcher.named_ancestor.Goals as goal

pub loop-row-init : goal.loop-row-init
loop-row-init c = laws.search-begin _ _ _ _ _ _ c.args.element.rooted

pub returns-then-is_called : goal.returns-then-is_called
returns-then-is_called c = laws.search-found _ _ _ _ _ _ _ c.loop-row.invariant c.loop-row-test.true _ c.parent_of-row.ensures.value

pub loop-row-preserved : goal.loop-row-preserved
loop-row-preserved c = laws.search-on _ _ _ _ _ _ _ c.loop-row.invariant c.loop-row-test.true _ c.parent_of-row.ensures.value c.requires _ c.first_text-name.ensures _ c.is_called.ensures c.if-is_called.false

pub returns : goal.returns
returns c = laws.search-end _ _ _ _ _ _ _ c.loop-row.invariant c.loop-row-test.false
