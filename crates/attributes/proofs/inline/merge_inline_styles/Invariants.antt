-- Each turn merges the first row that is left; when none is left, all are merged.
use Rattle.attributes.proofs.InlineLaws.{Merging}
use Rattle.attributes.proofs.inline.merge_inline_styles.Given as goal

abbrev pub invariant-loop-row : goal.invariant-loop-row
invariant-loop-row l = Merging l.cascade l.base l.rows l.initial.out l.row-index l.out
