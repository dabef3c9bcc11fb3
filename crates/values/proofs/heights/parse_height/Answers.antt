-- One token: a dimension of a length's unit, or a number that is zero, or no height.
use mathlib.Core.Path.{◌∙◌}
use Rattle.values.proofs.HeightLaws as laws
use Rattle.values.proofs.heights.parse_height.Goals as goal

pub returns-then-count-ne1 : goal.returns-then-count-ne1
returns-then-count-ne1 c = laws.height-none _ _ _ (rw c.count.ensures at c.if-count-ne1.true)

pub returns-then-is_kind : goal.returns-then-is_kind
returns-then-is_kind c = c.then_some.ensures ∙ laws.height-length _ _ _ (rw c.count.ensures at c.if-count-ne1.false) _ c.is_kind.ensures c.if-is_kind.true _ c.has_unit.ensures _ c.token_is_zero.ensures

pub returns-then-is_kind-2 : goal.returns-then-is_kind-2
returns-then-is_kind-2 c = c.then_some-then-is_kind-2.ensures ∙ laws.height-bare _ _ _ (rw c.count.ensures at c.if-count-ne1.false) _ c.is_kind.ensures c.if-is_kind.false _ c.is_kind-else-is_kind.ensures c.if-is_kind-2.true _ c.token_is_zero-then-is_kind-2.ensures

pub returns-else-is_kind-2 : goal.returns-else-is_kind-2
returns-else-is_kind-2 c = laws.height-neither _ _ _ (rw c.count.ensures at c.if-count-ne1.false) _ c.is_kind.ensures c.if-is_kind.false _ c.is_kind-else-is_kind.ensures c.if-is_kind-2.false
