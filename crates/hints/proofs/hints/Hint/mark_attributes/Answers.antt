-- What each attribute so far has is marked.
use native.Mathlib.Omega.{arith}
use Rattle.hints.proofs.TableLaws as laws
use Rattle.hints.proofs.hints.Hint.mark_attributes.Goals as goal

pub loop-row-preserved : goal.loop-row-preserved
loop-row-preserved c =
    laws.gather-more _ _ _ _ _ c.loop-row.invariant _ c.attribute_name.ensures _ _ _ c.mark.ensures c.mark_classes.ensures.keeps c.mark_classes.ensures.classes c.mark_id.ensures.keeps c.mark_id.ensures.ids

pub returns-clause-fit : goal.returns-clause-fit
returns-clause-fit c = laws.gather-end _ _ _ _ _ c.loop-row.invariant _ (omega arith)
