-- Each turn merges the first row that is left; when none is left, all are merged.
use mathlib.Core.Path.{refl}
use native.Mathlib.Omega.{arith}
use Rattle.cascade.specs.Specificity.{inline_specificity}
use Rattle.attributes.proofs.InlineLaws.{merging-begin, row-shiftable, merging-next, merging-end}
use Rattle.attributes.proofs.inline.merge_inline_styles.Goals as goal

pub loop-row-init : goal.loop-row-init
loop-row-init c = merging-begin _ _ _ _ c.requires

pub inline_style-style-requires : goal.inline_style-style-requires
inline_style-style-requires c = row-shiftable _ _ _ _ _ _ c.loop-row.invariant (omega arith) _ refl _ c.style_at.ensures

pub loop-row-preserved : goal.loop-row-preserved
unfolding inline_specificity
loop-row-preserved c = merging-next _ _ _ _ _ _ c.loop-row.invariant (omega arith) _ refl _ _ _ c.style_at.ensures c.inline_style-style.ensures c.merge_computed_style.ensures

pub returns : goal.returns
returns c = merging-end _ _ _ _ _ _ c.loop-row.invariant (omega arith)
