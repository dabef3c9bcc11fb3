-- One style is merged as it is read; of several the first is merged only when all of them read.
use mathlib.Core.Path.{sym, ◌∙◌}
use Rattle.stepping.proofs.StyleLaws as laws
use Rattle.stepping.proofs.merging.merge_styles.Goals.{then-count-eq1-via-then-count-eq1, then-count-eq1-via-else-count-eq1+then-is_ok}
use Rattle.stepping.proofs.merging.merge_styles.Goals as goal

pub returns-in_default : goal.returns-in_default
returns-in_default c = laws.count_none _ _ _ c.read_number.ensures.value _ c.in_default.is _ _ _ _

pub merge_counted-requires-clause-counted_lent : goal.merge_counted-requires-clause-counted_lent
merge_counted-requires-clause-counted_lent c = elim c.then-count-eq1.branch [
  | then-count-eq1-via-then-count-eq1 w ↦ laws.one-lent _ _ _ c.read_number.ensures.value _ c.in-Ok.is w.if-count-eq1.true
  | then-count-eq1-via-else-count-eq1+then-is_ok w ↦ laws.counted-lent _ _ _ c.read_number.ensures.value _ c.in-Ok.is _ w.skip_styles.ensures (sym w.is_ok.ensures.value ∙ w.if-is_ok.true)
]

pub returns-then-count-eq1 : goal.returns-then-count-eq1
returns-then-count-eq1 c = laws.styles-merged _ _ _ c.read_number.ensures.value _ c.in-Ok.is _ _ _ _ _ c.merge_counted.ensures

pub returns-else-is_ok : goal.returns-else-is_ok
returns-else-is_ok c = laws.styles-none _ _ _ c.read_number.ensures.value _ c.in-Ok.is _ c.skip_styles.ensures (sym c.is_ok.ensures.value ∙ c.if-is_ok.false) _ _ _ _
